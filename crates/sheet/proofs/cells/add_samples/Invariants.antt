use Rattle.sheet.specs.Cells.{Added}
use Rattle.sheet.proofs.cells.add_samples.Given as goal

abbrev pub invariant-loop-place : goal.invariant-loop-place
invariant-loop-place g l =
    Added g.R.Reading l.samples l.place l.initial.cells l.cells
