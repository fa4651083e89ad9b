-- Which signs a transform has in its four quarters.
use Rattle.std.proofs.Common.{◌≡◌, ℕ, ◌+◌, ◌*◌, ◌^◌, ◌<◌, Bool, true, false, not, ℤ, ◌+ℤ◌, neg_ℤ, sym, refl, ap, ◌∙◌, ap₂, arith}
use lib.Bits.{bit_and, and_block, and_lt}
use lib.Count.{ones, ones_cat, ones_step}
use Rattle.std.proofs.lemmas.Int.{ints}
use Rattle.code.specs.Words.{odd, negated_if}
use Rattle.hadamard.specs.Transform.{summed, odd_common}
use Rattle.hadamard.proofs.Sums.{summed_ext, summed_split, summed-add}

ones_block : (t a b i j : ℕ) → i < 2 ^ t → j < 2 ^ t → ones (bit_and (a * 2 ^ t + i) (b * 2 ^ t + j)) ≡ ones (bit_and a b) + ones (bit_and i j)
ones_block t a b i j hi hj = ap ones (and_block t a b i j hi hj) ∙ ones_cat t (bit_and a b) (bit_and i j) (and_lt t i j hi hj)

pub ones_0 : ones 0 ≡ 0
unfolding ones
ones_0 = refl

pub ones_1 : ones 1 ≡ 1
ones_1 = ones_step 1 ∙ ap (λ x. 1 + x) ones_0

flips : (n : ℕ) → odd (1 + n) ≡ not (odd n)
flips n = grind arith

module _ (t i j : ℕ) (hi : i < 2 ^ t) (hj : j < 2 ^ t) where
  pub far_column : odd_common i (2 ^ t + j) ≡ odd_common i j
  far_column =
      let a : 0 * 2 ^ t + i ≡ i = omega arith in
      let b : 1 * 2 ^ t + j ≡ 2 ^ t + j = omega arith in
      let e : ones (bit_and i (2 ^ t + j)) ≡ ones (bit_and i j) = ap₂ (λ x y. ones (bit_and x y)) (sym a) (sym b) ∙ ones_block t 0 1 i j hi hj ∙ omega (arith, ones_0) in
      ap odd e

  pub far_row : odd_common (2 ^ t + i) j ≡ odd_common i j
  far_row =
      let a : 1 * 2 ^ t + i ≡ 2 ^ t + i = omega arith in
      let b : 0 * 2 ^ t + j ≡ j = omega arith in
      let e : ones (bit_and (2 ^ t + i) j) ≡ ones (bit_and i j) = ap₂ (λ x y. ones (bit_and x y)) (sym a) (sym b) ∙ ones_block t 1 0 i j hi hj ∙ omega (arith, ones_0) in
      ap odd e

  pub far_both : odd_common (2 ^ t + i) (2 ^ t + j) ≡ not (odd_common i j)
  far_both =
      let a : 1 * 2 ^ t + i ≡ 2 ^ t + i = omega arith in
      let b : 1 * 2 ^ t + j ≡ 2 ^ t + j = omega arith in
      let e : ones (bit_and (2 ^ t + i) (2 ^ t + j)) ≡ 1 + ones (bit_and i j) = ap₂ (λ x y. ones (bit_and x y)) (sym a) (sym b) ∙ ones_block t 1 1 i j hi hj ∙ omega (arith, ones_1) in
      ap odd e ∙ flips (ones (bit_and i j))

pub negated_if_not : (b : Bool) (w : ℤ) → negated_if (not b) w ≡ neg_ℤ (negated_if b w)
negated_if_not true w = omega (arith, ints)
negated_if_not false w = refl

pub negated_if-add : (b : Bool) (x y : ℤ) → negated_if b (x +ℤ y) ≡ negated_if b x +ℤ negated_if b y
negated_if-add true x y = omega (arith, ints)
negated_if-add false x y = refl

pub negated_if-neg : (b : Bool) (x : ℤ) → negated_if b (neg_ℤ x) ≡ neg_ℤ (negated_if b x)
negated_if-neg true x = refl
negated_if-neg false x = refl

-- a transform of 2 ^ (t + 1) entries by two of 2 ^ t
module _ (t i : ℕ) (hi : i < 2 ^ t) (f : ℕ → ℤ) where
  pub low_half : summed (2 ^ t + 2 ^ t) (λ j. negated_if (odd_common i j) (f j)) ≡ summed (2 ^ t) (λ j. negated_if (odd_common i j) (f j +ℤ f (2 ^ t + j)))
  low_half =
      summed_split (2 ^ t) (2 ^ t) (λ j. negated_if (odd_common i j) (f j))
      ∙ sym (summed-add (2 ^ t) (λ j. negated_if (odd_common i j) (f j)) (λ j. negated_if (odd_common i (2 ^ t + j)) (f (2 ^ t + j))))
      ∙ summed_ext (2 ^ t) _ _ (λ j hj. ap (λ b. negated_if (odd_common i j) (f j) +ℤ negated_if b (f (2 ^ t + j))) (far_column t i j hi hj) ∙ sym (negated_if-add (odd_common i j) (f j) (f (2 ^ t + j))))

  pub high_half : summed (2 ^ t + 2 ^ t) (λ j. negated_if (odd_common (2 ^ t + i) j) (f j)) ≡ summed (2 ^ t) (λ j. negated_if (odd_common i j) (f j +ℤ neg_ℤ (f (2 ^ t + j))))
  high_half =
      summed_split (2 ^ t) (2 ^ t) (λ j. negated_if (odd_common (2 ^ t + i) j) (f j))
      ∙ sym (summed-add (2 ^ t) (λ j. negated_if (odd_common (2 ^ t + i) j) (f j)) (λ j. negated_if (odd_common (2 ^ t + i) (2 ^ t + j)) (f (2 ^ t + j))))
      ∙ summed_ext (2 ^ t) _ _ (λ j hj.
      ap₂ (λ b d. negated_if b (f j) +ℤ negated_if d (f (2 ^ t + j))) (far_row t i j hi hj) (far_both t i j hi hj)
      ∙ ap (λ x. negated_if (odd_common i j) (f j) +ℤ x) (negated_if_not (odd_common i j) (f (2 ^ t + j)) ∙ sym (negated_if-neg (odd_common i j) (f (2 ^ t + j))))
      ∙ sym (negated_if-add (odd_common i j) (f j) (neg_ℤ (f (2 ^ t + j)))))
