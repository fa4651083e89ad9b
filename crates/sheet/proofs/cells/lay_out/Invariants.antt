use Rattle.std.proofs.Common.{ℕ, ◌<◌, get_or}
use Rattle.sheet.specs.Cells.{Blank}
use Rattle.sheet.proofs.cells.lay_out.Given as goal

abbrev pub invariant-loop-cell : goal.invariant-loop-cell
invariant-loop-cell g l = (k : ℕ) (d : _) → k < l.cell-index → Blank g.R.Reading (get_or l.cells k d)
