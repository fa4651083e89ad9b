use Rattle.std.proofs.Common.{take}
use Rattle.card.specs.Echelon.{Reduced}
use Rattle.card.proofs.dependence.reduce.Given as goal

abbrev pub invariant-loop-lead : goal.invariant-loop-lead
invariant-loop-lead l = Reduced (take l.lead-index l.basis) l.row l.rest
