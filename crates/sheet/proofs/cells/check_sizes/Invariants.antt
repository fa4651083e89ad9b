use Rattle.std.proofs.Common.{ℕ, ◌<◌, get_or}
use Rattle.sample.specs.declared.Sample.{Sample}
use Rattle.sheet.specs.Cells.{Fits}
use Rattle.sheet.proofs.cells.check_sizes.Given as goal

abbrev pub invariant-loop-place : goal.invariant-loop-place
invariant-loop-place g l =
    let m = g.R.Reading in
    (k : ℕ) (x : Sample) (d : _) → k < l.place → Fits m (get_or l.samples k x) (get_or l.cells k d)
