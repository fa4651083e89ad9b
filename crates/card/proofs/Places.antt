-- The test of concurrence, by the digits of its three words.
use Rattle.std.proofs.Common.{◌≡◌, ℕ, ◌+◌, ◌≤◌, List, [], ◌∷◌, ◌++◌, length, sym, ap, ◌∙◌, inl, inr, add_assoc, arith}
use lib.Bits.{bit_and, bit_or}
use Rattle.std.proofs.lemmas.Nat.Bits.{bit_at-lt, bit_at-zero, bit_at_and, bit_at_or, same_from_bits}
use Rattle.std.proofs.lemmas.List.{length_push}
use Rattle.std.proofs.lemmas.Bool.{cases_lt}
use Rattle.code.specs.Words.{digit}
use Rattle.card.specs.Rows.{tally, Concur}
use Rattle.card.specs.Places.{Places}

pub tally_push : (i : ℕ) (rows : List ℕ) (r : ℕ) → tally i (rows ++ r ∷ []) ≡ tally i rows + digit i r
tally_push i [] r = omega arith
tally_push i (s ∷ rows) r = ap (λ (x : ℕ). digit i s + x) (tally_push i rows r) ∙ sym (add_assoc (digit i s) (tally i rows) (digit i r))

pub tally_le : (i : ℕ) (rows : List ℕ) → tally i rows ≤ length rows
tally_le i [] = omega arith
tally_le i (r ∷ rows) = omega (arith, tally_le i rows, bit_at-lt r i)

pub places_one : (row : ℕ) → Places (row ∷ []) row 0 row
places_one row = record {
  in_one = λ i. omega (arith, bit_at-lt row i);
  in_two = λ i. omega (arith, bit_at-zero i, bit_at-lt row i);
  in_all = λ i. omega (arith, bit_at-lt row i);
}

pub places_more : (rows : List ℕ) (r seen many all : ℕ) → Places rows seen many all
    → Places (rows ++ r ∷ []) (bit_or seen r) (bit_or many (bit_and seen r)) (bit_and all r)
places_more rows r seen many all p = record {
  in_one = λ i. omega (arith, bit_at_or seen r i, p.in_one i, tally_push i rows r, bit_at-lt r i);
  in_two = λ i. omega (arith, bit_at_or many (bit_and seen r) i, bit_at_and seen r i, p.in_one i, p.in_two i, tally_push i rows r, bit_at-lt r i);
  in_all = λ i. omega (arith, bit_at_and all r i, p.in_all i, tally_push i rows r, tally_le i rows, length_push rows r, bit_at-lt r i);
}

pub concur_from : (rows : List ℕ) (seen many all : ℕ) → Places rows seen many all → bit_and many all ≡ many → Concur rows
concur_from rows seen many all p e i h =
    omega (arith, sym (bit_at_and many all i) ∙ ap (digit i) e, p.in_two i, p.in_all i, tally_le i rows)

pub from_concur : (rows : List ℕ) (seen many all : ℕ) → Places rows seen many all → Concur rows → bit_and many all ≡ many
from_concur rows seen many all p h =
    same_from_bits (bit_and many all) many (λ i.
    elim (cases_lt (tally i rows) 2) [
      | inl l ↦ omega (arith, bit_at_and many all i, p.in_two i)
      | inr l ↦ omega (arith, bit_at_and many all i, p.in_two i, p.in_all i, h i l)
    ])

-- the new row may stand before the others or after them
pub concur_after : (rows : List ℕ) (r : ℕ) → Concur (r ∷ rows) → Concur (rows ++ r ∷ [])
concur_after rows r h i t =
    omega (arith, tally_push i rows r, length_push rows r, h i (omega (arith, tally_push i rows r)))

pub concur_before : (rows : List ℕ) (r : ℕ) → Concur (rows ++ r ∷ []) → Concur (r ∷ rows)
concur_before rows r h i t =
    omega (arith, tally_push i rows r, length_push rows r, h i (omega (arith, tally_push i rows r)))
