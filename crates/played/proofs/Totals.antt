-- The standing totals after one pass at full level.
use Rattle.std.proofs.Common.{◌≡◌, ℕ, zero, suc, ◌*◌, ◌/◌, ◌%◌, ◌^◌, eqb, ◌⊎◌, List, [], ◌∷◌, length, get_or, replicate, pos, ◌+ℤ◌, neg_ℤ, sym, refl, ap, ◌∙◌, subst, ap₂, inl, inr, arith}
use native.Mathlib.Nat.{pow-succ', div-div-eq-div-mul}
use Rattle.std.proofs.lemmas.Int.{ints}
use Rattle.code.specs.Limits.{full_label}
use Rattle.code.specs.Words.{digit, negated_if, negated_at}
use Rattle.code.proofs.Xor.{digit_two}
use Rattle.sample.specs.declared.Sample.{Sample}
use Rattle.sample.specs.declared.Sample.TheVariants.{Bit, Level}
use Rattle.sample.specs.Samples.{Good, AllGood}
use Rattle.sheet.specs.Cells.{label_weight}
use Rattle.sheet.specs.Book.{add_labels}
use Rattle.played.specs.Played.{PlaysDigit, PlaysWord, level_for}

-- what one digit adds
digit_weight : (m s d : ℕ) (x : Sample) → (d ≡ 0) ⊎ (d ≡ 1) → PlaysDigit d x → (pos 0 +ℤ label_weight m s x) ≡ negated_if (eqb d 1) (pos (full_label * m))
digit_weight m s d x (inl z) (inl e) = ap (λ y. pos 0 +ℤ label_weight m s y) (e ∙ ap Bit z) ∙ high ∙ ap (λ k. negated_if (eqb k 1) (pos (full_label * m))) (sym z)
  where
    high : (pos 0 +ℤ label_weight m s (Bit 0)) ≡ pos (full_label * m)
    high = omega (arith, ints)
digit_weight m s d x (inl z) (inr e) = ap (λ y. pos 0 +ℤ label_weight m s y) (e ∙ ap (λ k. Level (level_for k)) z) ∙ high ∙ ap (λ k. negated_if (eqb k 1) (pos (full_label * m))) (sym z)
  where
    high : (pos 0 +ℤ label_weight m s (Level (level_for 0))) ≡ pos (full_label * m)
    high = omega (arith, ints)
digit_weight m s d x (inr z) (inl e) = ap (λ y. pos 0 +ℤ label_weight m s y) (e ∙ ap Bit z) ∙ low ∙ ap (λ k. negated_if (eqb k 1) (pos (full_label * m))) (sym z)
  where
    low : (pos 0 +ℤ label_weight m s (Bit 1)) ≡ neg_ℤ (pos (full_label * m))
    low = omega (arith, ints)
digit_weight m s d x (inr z) (inr e) = ap (λ y. pos 0 +ℤ label_weight m s y) (e ∙ ap (λ k. Level (level_for k)) z) ∙ low ∙ ap (λ k. negated_if (eqb k 1) (pos (full_label * m))) (sym z)
  where
    low : (pos 0 +ℤ label_weight m s (Level (level_for 1))) ≡ neg_ℤ (pos (full_label * m))
    low = omega (arith, ints)

-- the digits of half a number are its digits from place 1 on
half_digit : (k c : ℕ) → digit (suc k) c ≡ digit k (c / 2)
half_digit k c = ap (λ x. x % 2) (ap (λ p. c / p) (pow-succ' 2 k) ∙ sym (div-div-eq-div-mul c 2 (2 ^ k)))

first_digit : (c : ℕ) → digit 0 c ≡ c % 2
first_digit c = omega arith

rest_plays : (c : ℕ) (x : Sample) (xs : List Sample) → PlaysWord c (x ∷ xs) → PlaysWord (c / 2) xs
rest_plays c x xs p k y h = subst (λ d. PlaysDigit d (get_or xs k y)) (half_digit k c) (p (suc k) y (omega arith))

pub full_totals : (m s n : ℕ) (xs : List Sample) (c : ℕ) → length xs ≡ n → PlaysWord c xs → add_labels m s (replicate n (pos 0)) xs ≡ negated_at (replicate n (pos (full_label * m))) c
full_totals m s zero [] c e p = refl
full_totals m s zero (x ∷ xs) c e p = absurd (omega arith)
full_totals m s (suc n) [] c e p = absurd (omega arith)
full_totals m s (suc n) (x ∷ xs) c e p =
    ap₂ (λ a b. a ∷ b)
    (digit_weight m s (c % 2) x (digit_two (c % 2) (omega arith)) (subst (λ d. PlaysDigit d x) (first_digit c) (p 0 x (omega arith))))
    (full_totals m s n xs (c / 2) (omega arith) (rest_plays c x xs p))

-- what plays a digit is a good sample
digit_good : (d : ℕ) (x : Sample) → (d ≡ 0) ⊎ (d ≡ 1) → PlaysDigit d x → Good x
digit_good d x (inl z) (inl e) = subst Good (sym (e ∙ ap Bit z)) (inl refl)
digit_good d x (inr z) (inl e) = subst Good (sym (e ∙ ap Bit z)) (inr refl)
digit_good d x (inl z) (inr e) = subst Good (sym (e ∙ ap (λ k. Level (level_for k)) z)) refl
digit_good d x (inr z) (inr e) = subst Good (sym (e ∙ ap (λ k. Level (level_for k)) z)) refl

pub plays_good : (c : ℕ) (xs : List Sample) → PlaysWord c xs → AllGood xs
plays_good c xs p k x h = digit_good (digit k c) (get_or xs k x) (digit_two (digit k c) (omega arith)) (p k x h)
