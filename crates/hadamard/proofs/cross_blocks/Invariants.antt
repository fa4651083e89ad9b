use Rattle.hadamard.specs.Stages.{Staged}
use Rattle.hadamard.proofs.cross_blocks.Given as goal

abbrev pub invariant-loop-b : goal.invariant-loop-b
invariant-loop-b g l = Staged g.R.Reading l.half l.blocks l.b l.initial.list l.list
