use Rattle.std.proofs.Common.{◌≡◌, ℕ, List, ◌++◌}
use Rattle.std.specs.Iterator.Adapters.{rev_source}
use Rattle.std.specs.Slice.Iter.{iter_rest}
use Rattle.card_text.specs.Lines.{row_of}
use Rattle.card_text.proofs.line.row_of.Given as goal

-- the digits that the loop has gone through are those after the ones that are left
abbrev pub invariant-loop-digit : goal.invariant-loop-digit
invariant-loop-digit l = (done : List ℕ) × (l.digits ≡ iter_rest (rev_source l.digit-iterator) ++ done) × (l.row ≡ row_of done)
