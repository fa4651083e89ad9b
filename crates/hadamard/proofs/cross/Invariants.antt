use Rattle.std.proofs.Common.{◌++◌}
use Rattle.hadamard.specs.Stages.{Crossed}
use Rattle.hadamard.proofs.cross.Given as goal

abbrev pub invariant-loop-k : goal.invariant-loop-k
invariant-loop-k g l = Crossed g.R.Reading l.half l.k (l.initial.low ++ l.initial.high) (l.low ++ l.high)
