use Rattle.std.proofs.Common.{◌≡◌, ◌*◌, drop}
use Rattle.group_finder.specs.Choices.{PartsDone}
use Rattle.group_finder.proofs.slots.transform_parts.Given as goal

abbrev pub invariant-loop-q : goal.invariant-loop-q
invariant-loop-q g l = PartsDone g.R.Reading l.span l.q l.initial.lists l.lists × (drop (l.q * l.span) l.lists ≡ drop (l.q * l.span) l.initial.lists)
