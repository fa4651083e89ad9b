use Rattle.std.proofs.Common.{◌∷◌, take}
use Rattle.card.specs.Places.{Places}
use Rattle.card.proofs.concurrence.concurs.Given as goal

abbrev pub invariant-loop-other : goal.invariant-loop-other
invariant-loop-other l = Places (l.row ∷ take l.other-index l.group) l.seen l.many l.all
