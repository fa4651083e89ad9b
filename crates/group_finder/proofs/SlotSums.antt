-- The agreement of a message of group rows and others, by slots.
use Rattle.std.proofs.Common.{◌≡◌, ℕ, zero, suc, ◌+◌, ◌-◌, ◌*◌, ◌/◌, ◌%◌, ◌^◌, ◌<◌, min, Bool, true, false, cond, not, eqb, ltb, List, ◌++◌, length, get_or, ℤ, pos, ◌+ℤ◌, sym, refl, ap, ◌∙◌, ap₂, ⊎_elim, mod-eq_of_lt, add-one, arith}
use native.Mathlib.Nat.{pow-succ'}
use lib.Arith.{digits_div, digits_mod}
use lib.Bits.{bit_and, and_step, and_zero_r, and_mask, xor_shr}
use lib.Count.{ones, ones_step}
use Rattle.std.proofs.lemmas.Bool.{cases_eq, eq-eqb, ne_eqb, cond-true, cond-false, lt-ltb, le-ltb}
use Rattle.hadamard.specs.Transform.{summed, odd_common, spectrum}
use Rattle.code.specs.Words.{negated_if, odd, codeword, agrees}
use Rattle.hadamard.proofs.Sums.{summed_ext}
use Rattle.hadamard.proofs.Signs.{ones_0, negated_if_not}
use Rattle.code.proofs.Xor.{odd-xor}
use Rattle.code.proofs.Codewords.{codeword-append}
use Rattle.finder.specs.Fold.{column, sum_of_slot}
use Rattle.group_finder.specs.Choices.{parity, choice_value, Slotted, slot_sum}
use Rattle.finder.specs.Gather.{summed-front, negated_if-summed, negated_if_cond, gather, spectrum_folded, agreement-summed, digit_link, half_pow}

pub negated_if_both : (a b : Bool) (w : ℤ) → negated_if (cond a (not b) b) w ≡ negated_if a (negated_if b w)
negated_if_both true b w = negated_if_not b w
negated_if_both false b w = refl

-- what a choice shares with a column of each kind
common_none : (s : ℕ) → odd_common s 0 ≡ false
common_none s = ap (λ (x : ℕ). eqb (ones x % 2) 1) (and_zero_r s) ∙ ap odd ones_0

ones_digit : (d : ℕ) → d < 2 → ones d ≡ d
ones_digit zero h = ones_0
ones_digit (suc zero) h = ones_step 1 ∙ ap (λ (x : ℕ). 1 + x) ones_0
ones_digit (suc (suc d)) h = absurd (omega arith)

and_power : (j s : ℕ) → ones (bit_and s (2 ^ j)) ≡ s / 2 ^ j % 2
and_power zero s =
    let a : bit_and s 1 ≡ s % 2 = and_step s 1 ∙ ap (λ (x : ℕ). x * 2 + min (s % 2) 1) (and_zero_r (s / 2)) ∙ omega arith in
    let z : s % 2 ≡ s / 2 ^ 0 % 2 = omega arith in
    ap ones a ∙ ones_digit (s % 2) (omega arith) ∙ z
and_power (suc j) s =
    let p : 2 ^ suc j ≡ 2 * 2 ^ j = pow-succ' 2 j in
    let l : (2 * 2 ^ j) % 2 ≡ 0 = omega arith in
    let h : (2 * 2 ^ j) / 2 ≡ 2 ^ j = omega arith in
    let a : bit_and s (2 ^ suc j) ≡ bit_and (s / 2) (2 ^ j) * 2 = ap (bit_and s) p ∙ and_step s (2 * 2 ^ j) ∙ ap₂ (λ (x y : ℕ). bit_and (s / 2) x * 2 + min (s % 2) y) h l ∙ omega arith in
    let x = bit_and (s / 2) (2 ^ j) in
    let lo : x * 2 % 2 ≡ 0 = omega arith in
    let hi : x * 2 / 2 ≡ x = omega arith in
    ap ones a ∙ ones_step (x * 2) ∙ ap₂ (λ (u v : ℕ). u + ones v) lo hi ∙ (let z : 0 + ones x ≡ ones x = omega arith in z) ∙ and_power j (s / 2) ∙ ap (λ (u : ℕ). u % 2) (half_pow s j)

digit-odd : (d : ℕ) → d < 2 → eqb (d % 2) 1 ≡ eqb d 1
digit-odd d h = ap (λ (x : ℕ). eqb x 1) (mod-eq_of_lt h)

common_one : (j s : ℕ) → odd_common s (2 ^ j) ≡ odd (s / 2 ^ j)
common_one j s = ap odd (and_power j s) ∙ digit-odd (s / 2 ^ j % 2) (omega arith)

common_all : (J s : ℕ) → s < 2 ^ J → odd_common s (2 ^ J - 1) ≡ parity s
common_all J s h = ap (λ (x : ℕ). odd (ones x)) (and_mask s J ∙ mod-eq_of_lt h)

-- the sign that a choice s of J rows gives to each slot
abbrev pub sign : ℕ → ℕ → ℕ → Bool
sign J s zero = false
sign J s (suc j) = cond (ltb j J) (odd (s / 2 ^ j)) (parity s)

sign-one : (J s j q : ℕ) → j < J → q ≡ j + 1 → sign J s q ≡ odd (s / 2 ^ j)
sign-one J s j q h e = ap (sign J s) (e ∙ add-one j) ∙ cond-true (ltb j J) _ _ (lt-ltb j J h)

sign_all : (J s q : ℕ) → q ≡ J + 1 → sign J s q ≡ parity s
sign_all J s q e = ap (sign J s) (e ∙ add-one J) ∙ cond-false (ltb J J) _ _ (le-ltb J J (omega arith))

pub sign_is : (J s c q : ℕ) → s < 2 ^ J → Slotted J c q → odd_common s c ≡ sign J s q
sign_is J s c q h d = ⊎_elim
    (λ k. ap (odd_common s) k.0 ∙ common_none s ∙ ap (sign J s) (sym k.1))
    (λ r. ⊎_elim
    (λ k. ap (odd_common s) k.1.1 ∙ common_one k.0 s ∙ sym (sign-one J s k.0 q k.1.0 k.1.2))
    (λ k. ap (odd_common s) k.1 ∙ common_all J s h ∙ sym (sign_all J s q k.2))
    r)
    d

pub slot_below : (J c q : ℕ) → Slotted J c q → q < J + 2
slot_below J c q d = ⊎_elim (λ k. let e = k.1 in omega arith) (λ r. ⊎_elim (λ k. let l = k.1.0 in let e = k.1.2 in omega arith) (λ k. let e = k.2 in omega arith) r) d

-- the signed slots, summed, are what the choice gets
pub slots_value : (J s : ℕ) (w : ℕ → ℤ) → summed (J + 2) (λ q. negated_if (sign J s q) (w q)) ≡ choice_value w J s
slots_value J s w =
    let z : J + 2 ≡ suc (suc J) = omega arith in
    ap (λ (k : ℕ). summed k (λ q. negated_if (sign J s q) (w q))) z
    ∙ summed-front (suc J) (λ q. negated_if (sign J s q) (w q))
    ∙ ap₂ (λ x y. w 0 +ℤ (x +ℤ y))
    (summed_ext J _ _ (λ j l. ap₂ (λ (b : Bool) (k : ℕ). negated_if b (w k)) (cond-true (ltb j J) (odd (s / 2 ^ j)) (parity s) (lt-ltb j J l)) (sym (add-one j))))
    (ap₂ (λ (b : Bool) (k : ℕ). negated_if b (w k)) (cond-false (ltb J J) (odd (s / 2 ^ J)) (parity s) (le-ltb J J (omega arith))) (sym (add-one J)))

module _ (group others : List ℕ) (ws : List ℤ) (slot : ℕ → ℕ) (fits : (i : ℕ) → i < length ws → Slotted (length group) (column group i) (slot i)) where
  pub decompose : (s t : ℕ) → s < 2 ^ length group
      → agrees (group ++ others) ws (s + t * 2 ^ length group) ≡ choice_value (slot_sum slot (column others) (λ i. get_or ws i (pos 0)) (length ws) t) (length group) s
  decompose s t h =
      let J = length group in
      let n = length ws in
      let w : ℕ → ℤ = λ i. get_or ws i (pos 0) in
      let part : (i : ℕ) → i < n → negated_if (odd (codeword (group ++ others) (s + t * 2 ^ J) / 2 ^ i)) (w i) ≡ negated_if (sign J s (slot i)) (negated_if (odd_common t (column others i)) (w i)) =
      λ i l.
      ap (λ (b : Bool). negated_if b (w i))
      (ap (λ (x : ℕ). odd (x / 2 ^ i)) (codeword-append group others s t h)
      ∙ ap odd (xor_shr (codeword group s) (codeword others t) i)
      ∙ odd-xor (codeword group s / 2 ^ i) (codeword others t / 2 ^ i)
      ∙ ap₂ (λ (a b : Bool). cond a (not b) b) (sym (digit_link group s i) ∙ sign_is J s (column group i) (slot i) h (fits i l)) (sym (digit_link others t i)))
      ∙ negated_if_both (sign J s (slot i)) (odd_common t (column others i)) (w i) in
      agreement-summed ws (codeword (group ++ others) (s + t * 2 ^ J))
      ∙ summed_ext n _ _ part
      ∙ sym (gather n (J + 2) slot (λ q i. negated_if (sign J s q) (negated_if (odd_common t (column others i)) (w i))) (λ i l. slot_below J (column group i) (slot i) (fits i l)))
      ∙ summed_ext (J + 2) _ _ (λ q _.
      summed_ext n _ _ (λ i _. sym (negated_if_cond (sign J s q) (eqb (slot i) q) (negated_if (odd_common t (column others i)) (w i))))
      ∙ sym (negated_if-summed (sign J s q) n (λ i. cond (eqb (slot i) q) (negated_if (odd_common t (column others i)) (w i)) (pos 0))))
      ∙ slots_value J s (slot_sum slot (column others) w n t)

-- a part of the heap, transformed, holds the sums of its slot
same_slot : (a b c d span : ℕ) → b < span → d < span → (w : ℤ) → cond (eqb (a * span + b) (c * span + d)) w (pos 0) ≡ cond (eqb b d) (cond (eqb a c) w (pos 0)) (pos 0)
same_slot a b c d span hb hd w = ⊎_elim
    (λ (e : b ≡ d). ⊎_elim
    (λ (f : a ≡ c). cond-true _ w (pos 0) (eq-eqb (a * span + b) (c * span + d) (ap₂ (λ (x y : ℕ). x * span + y) f e)) ∙ sym (cond-true (eqb a c) w (pos 0) (eq-eqb a c f)) ∙ sym (cond-true (eqb b d) _ (pos 0) (eq-eqb b d e)))
    (λ n. cond-false _ w (pos 0) (ne_eqb (a * span + b) (c * span + d) (λ z. n (sym (digits_div a hb) ∙ ap (λ (x : ℕ). x / span) z ∙ digits_div c hd))) ∙ sym (cond-false (eqb a c) w (pos 0) (ne_eqb a c n)) ∙ sym (cond-true (eqb b d) _ (pos 0) (eq-eqb b d e)))
    (cases_eq a c))
    (λ n. cond-false _ w (pos 0) (ne_eqb (a * span + b) (c * span + d) (λ z. n (sym (digits_mod a hb) ∙ ap (λ (x : ℕ). x % span) z ∙ digits_mod c hd))) ∙ sym (cond-false (eqb b d) _ (pos 0) (ne_eqb b d n)))
    (cases_eq b d)

pub part_spectrum : (vs : List ℤ) (n span q t : ℕ) (slot col : ℕ → ℕ) (w : ℕ → ℤ) → length vs ≡ span → ((i : ℕ) → i < n → col i < span)
    → ((x : ℕ) → x < span → get_or vs x (pos 0) ≡ sum_of_slot (λ i. slot i * span + col i) w n (q * span + x)) → spectrum vs t ≡ slot_sum slot col w n t q
part_spectrum vs n span q t slot col w long low is =
    spectrum_folded vs n col (λ i. cond (eqb (slot i) q) (w i) (pos 0)) t (λ i l. let h = low i l in omega arith)
    (λ x k. let kx : x < span = omega arith in is x kx ∙ summed_ext n _ _ (λ i l. same_slot (slot i) (col i) q x span (low i l) kx (w i)))
    ∙ summed_ext n _ _ (λ i _. negated_if_cond (odd_common t (col i)) (eqb (slot i) q) (w i))
