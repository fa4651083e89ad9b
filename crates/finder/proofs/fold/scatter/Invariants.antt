use Rattle.std.proofs.Common.{length}
use Rattle.finder.proofs.Folds.{Scattered}
use Rattle.finder.proofs.fold.scatter.Given as goal

abbrev pub invariant-loop-x : goal.invariant-loop-x
invariant-loop-x g l = Scattered g.R.Reading l.slots l.word l.list (length l.yielded)
