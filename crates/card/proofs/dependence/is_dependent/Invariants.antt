use Rattle.std.proofs.Common.{◌≡◌, length, take}
use Rattle.card.specs.Echelon.{Echelon, SameSpan}
use Rattle.card.proofs.dependence.is_dependent.Given as goal

abbrev pub invariant-loop-other : goal.invariant-loop-other
invariant-loop-other l = record {
  count : length l.basis ≡ l.other-index;
  echelon : Echelon l.basis;
  same : SameSpan l.basis (take l.other-index l.rows);
}
