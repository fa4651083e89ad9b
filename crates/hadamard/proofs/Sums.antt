-- Sums over the numbers below a limit.
use Rattle.std.proofs.Common.{◌≡◌, ℕ, zero, suc, ◌+◌, ◌<◌, ◌≤◌, List, [], ◌∷◌, map, length, get_or, ℤ, ◌+ℤ◌, sum_by, sym, refl, ap, ◌∙◌, ap₂, arith}
use Rattle.std.proofs.lemmas.List.Sums.{sum_by-cons}
use Rattle.std.proofs.lemmas.Int.{ints}
use Rattle.hadamard.specs.Transform.{summed}

pub summed_ext : (n : ℕ) (f g : ℕ → ℤ) → ((j : ℕ) → j < n → f j ≡ g j) → summed n f ≡ summed n g
summed_ext zero f g h = refl
summed_ext (suc n) f g h = ap₂ (λ x y. x +ℤ y) (summed_ext n f g (λ j l. h j (omega arith))) (h n (omega arith))

pub summed_split : (m n : ℕ) (f : ℕ → ℤ) → summed (m + n) f ≡ summed m f +ℤ summed n (λ j. f (m + j))
summed_split m zero f =
    let e : m + zero ≡ m = omega arith in
    ap (λ k. summed k f) e ∙ omega (arith, ints)
summed_split m (suc n) f =
    let e : m + suc n ≡ suc (m + n) = omega arith in
    ap (λ k. summed k f) e ∙ ap (λ x. x +ℤ f (m + n)) (summed_split m n f) ∙ omega (arith, ints)

pub summed-add : (n : ℕ) (f g : ℕ → ℤ) → summed n (λ j. f j +ℤ g j) ≡ summed n f +ℤ summed n g
summed-add zero f g = refl
summed-add (suc n) f g = ap (λ x. x +ℤ (f n +ℤ g n)) (summed-add n f g) ∙ omega (arith, ints)

-- the sum of the natural numbers g at the numbers below n
pub counted : ℕ → (ℕ → ℕ) → ℕ
counted zero g = 0
counted (suc n) g = counted n g + g n

counted-front : (n : ℕ) (g : ℕ → ℕ) → counted (suc n) g ≡ g 0 + counted n (λ j. g (suc j))
unfolding counted
counted-front zero g = omega arith
counted-front (suc n) g = let e = counted-front n g in omega arith

pub sum_by-counted : {R : Type 0} (f : R → ℕ) (xs : List R) → sum_by f xs ≡ counted (length xs) (λ j. get_or (map f xs) j 0)
unfolding counted
sum_by-counted f [] = refl
sum_by-counted f (x ∷ xs) = sum_by-cons f x xs ∙ ap (λ n. f x + n) (sum_by-counted f xs) ∙ sym (counted-front (length xs) (λ j. get_or (map f (x ∷ xs)) j 0))

pub counted_le : (n : ℕ) (f g : ℕ → ℕ) → ((j : ℕ) → j < n → f j ≤ g j) → counted n f ≤ counted n g
unfolding counted
counted_le zero f g h = omega arith
counted_le (suc n) f g h = omega (arith, counted_le n f g (λ j l. h j (omega arith)), h n (omega arith))

pub counted_pairs : (h n : ℕ) (f : ℕ → ℕ) → counted n (λ j. f j + f (h + j)) ≡ counted n f + counted n (λ j. f (h + j))
unfolding counted
counted_pairs h zero f = refl
counted_pairs h (suc n) f = omega (arith, counted_pairs h n f)

pub counted_split : (m n : ℕ) (f : ℕ → ℕ) → counted (m + n) f ≡ counted m f + counted n (λ j. f (m + j))
unfolding counted
counted_split m zero f = let e : m + zero ≡ m = omega arith in ap (λ k. counted k f) e ∙ omega arith
counted_split m (suc n) f =
    let e : m + suc n ≡ suc (m + n) = omega arith in
    ap (λ k. counted k f) e ∙ omega (arith, counted_split m n f)
