-- The tests of the definitions say what the relations say.
use Rattle.std.proofs.Common.{◌≡◌, ℕ, zero, suc, ◌+◌, ◌*◌, ◌/◌, ◌%◌, ◌^◌, ◌<◌, ◌≤◌, true, ◌||◌, eqb, ltb, List, [], ◌∷◌, length, sym, refl, ap, ◌∙◌, subst, ap₂, inl, inr, le_trans, mod-lt, one-mul, zero-mul, arith}
use native.Mathlib.Nat.{div-eq_of_lt, pow-le-pow_right}
use lib.Arith.{digits_div, digits_mod}
use lib.Bits.{bit_xor, xor_comm}
use Rattle.std.proofs.lemmas.Bool.{cases_lt, eqb-true, eq-eqb, ltb-true, lt-ltb, or_cases, or_left, or_right, and_parts, and_from}
use Rattle.code.specs.Words.{codeword}
use Rattle.code.specs.Spans.{Span}
use Rattle.card.specs.Rows.{tally, dependent, concordant, Concur, Within}
use Rattle.code.proofs.Xor.{cancel, digit_two}
use Rattle.code.proofs.Spans.{two_pos, span_any}

pub span_from_dependent : (rows : List ℕ) (x : ℕ) → dependent rows x ≡ true → Span rows x
span_from_dependent [] x t = (0, omega arith, sym (eqb-true x 0 t))
span_from_dependent (r ∷ rs) x t =
    elim (or_cases (dependent rs x) (dependent rs (bit_xor x r)) t) [
      | inl u ↦
          let (m, _, e) = span_from_dependent rs x u in
          span_any (r ∷ rs) (m * 2 + 0) x
          (ap₂ (λ (d q : ℕ). bit_xor (d * r) (codeword rs q)) (digits_mod m two_pos) (digits_div m two_pos)
          ∙ ap (λ (y : ℕ). bit_xor y (codeword rs m)) (zero-mul r) ∙ e)
      | inr u ↦
          let (m, _, e) = span_from_dependent rs (bit_xor x r) u in
          let one : 1 < 2 = omega arith in
          span_any (r ∷ rs) (m * 2 + 1) x
          (ap₂ (λ (d q : ℕ). bit_xor (d * r) (codeword rs q)) (digits_mod m one) (digits_div m one)
          ∙ ap₂ bit_xor (one-mul r) e ∙ xor_comm r (bit_xor x r) ∙ cancel x r)
    ]

pub dependent_from_code : (rows : List ℕ) (m x : ℕ) → codeword rows m ≡ x → dependent rows x ≡ true
dependent_from_code [] m x e = eq-eqb x 0 (sym e)
dependent_from_code (r ∷ rs) m x e =
    let c = codeword rs (m / 2) in
    elim (digit_two (m % 2) (mod-lt m two_pos)) [
      | inl z ↦ or_left (dependent rs x) (dependent rs (bit_xor x r))
          (dependent_from_code rs (m / 2) x (sym (ap (λ (d : ℕ). bit_xor (d * r) c) z ∙ ap (λ (y : ℕ). bit_xor y c) (zero-mul r)) ∙ e))
      | inr o ↦ or_right (dependent rs x) (dependent rs (bit_xor x r))
          (dependent_from_code rs (m / 2) (bit_xor x r)
          (sym (cancel c r) ∙ ap (λ (y : ℕ). bit_xor y r)
          (xor_comm c r ∙ sym (ap (λ (d : ℕ). bit_xor (d * r) c) o ∙ ap (λ (y : ℕ). bit_xor y c) (one-mul r)) ∙ e)))
    ]

pub dependent_from_span : (rows : List ℕ) (x : ℕ) → Span rows x → dependent rows x ≡ true
dependent_from_span rows x (m, _, e) = dependent_from_code rows m x e

-- ---- concurrence

place_from : (i : ℕ) (rows : List ℕ) → (ltb (tally i rows) 2 || eqb (tally i rows) (length rows)) ≡ true → 2 ≤ tally i rows → tally i rows ≡ length rows
place_from i rows t h =
    elim (or_cases (ltb (tally i rows) 2) (eqb (tally i rows) (length rows)) t)
    [ inl u ↦ absurd (omega (arith, ltb-true (tally i rows) 2 u)) | inr u ↦ eqb-true (tally i rows) (length rows) u ]

from_place : (i : ℕ) (rows : List ℕ) → (2 ≤ tally i rows → tally i rows ≡ length rows) → (ltb (tally i rows) 2 || eqb (tally i rows) (length rows)) ≡ true
from_place i rows h =
    elim (cases_lt (tally i rows) 2) [
      | inl u ↦ or_left (ltb (tally i rows) 2) (eqb (tally i rows) (length rows)) (lt-ltb (tally i rows) 2 u)
      | inr u ↦ or_right (ltb (tally i rows) 2) (eqb (tally i rows) (length rows)) (eq-eqb (tally i rows) (length rows) (h u))
    ]

concordant_below : (n : ℕ) (rows : List ℕ) → concordant n rows ≡ true → (i : ℕ) → i < n → 2 ≤ tally i rows → tally i rows ≡ length rows
concordant_below zero rows t i h = absurd (omega arith)
concordant_below (suc n) rows t i h =
    let (a, b) = and_parts (ltb (tally n rows) 2 || eqb (tally n rows) (length rows)) (concordant n rows) t in
    elim (cases_lt i n) [
      | inl l ↦ concordant_below n rows b i l
      | inr l ↦
          let e : n ≡ i = omega arith in
          subst (λ (j : ℕ). 2 ≤ tally j rows → tally j rows ≡ length rows) e (place_from n rows a)
    ]

pub concordant_from : (n : ℕ) (rows : List ℕ) → Concur rows → concordant n rows ≡ true
concordant_from zero rows h = refl
concordant_from (suc n) rows h =
    and_from (ltb (tally n rows) 2 || eqb (tally n rows) (length rows)) (concordant n rows) (from_place n rows (h n)) (concordant_from n rows h)

-- no digit beyond the length
tally_beyond : (n i : ℕ) (rows : List ℕ) → n ≤ i → Within n rows → tally i rows ≡ 0
tally_beyond n i [] l w = refl
tally_beyond n i (r ∷ rs) l w =
    let lt : r < 2 ^ n = w 0 (omega arith) in
    let big : r < 2 ^ i = le_trans lt (pow-le-pow_right (omega arith) l) in
    ap₂ (λ (x y : ℕ). x + y) (ap (λ (x : ℕ). x % 2) (div-eq_of_lt big)) (tally_beyond n i rs l (λ j h. w (suc j) (omega arith)))

pub concur_from_concordant : (n : ℕ) (rows : List ℕ) → Within n rows → concordant n rows ≡ true → Concur rows
concur_from_concordant n rows w t i h =
    elim (cases_lt i n) [
      | inl l ↦ concordant_below n rows t i l h
      | inr l ↦ absurd (omega (arith, tally_beyond n i rows l w))
    ]
