-- Totals of sizes.
use Rattle.std.proofs.Common.{◌≡◌, ℕ, zero, suc, ◌+◌, ◌<◌, ◌≤◌, sym, ap, subst, ⊎_elim, add-one, arith}
use Rattle.std.proofs.lemmas.Bool.{cases_eq}
use Rattle.group_finder.specs.Choices.{totalled}

pub totalled_le : (g : ℕ → ℕ) (j n : ℕ) → j ≤ n → totalled j g ≤ totalled n g
totalled_le g j zero h = let e : j ≡ 0 = omega arith in subst (λ (k : ℕ). totalled k g ≤ 0) (sym e) (omega arith)
totalled_le g j (suc n) h =
    ⊎_elim
    (λ (e : j ≡ suc n). subst (λ (k : ℕ). totalled k g ≤ totalled (suc n) g) (sym e) (omega arith))
    (λ k. let r = totalled_le g j n (omega arith) in omega arith)
    (cases_eq j (suc n))

pub totalled_mono : (n : ℕ) (f g : ℕ → ℕ) → ((i : ℕ) → i < n → f i ≤ g i) → totalled n f ≤ totalled n g
totalled_mono zero f g h = omega arith
totalled_mono (suc n) f g h = omega (arith, totalled_mono n f g (λ i l. h i (omega arith)), h n (omega arith))

totalled-front : (n : ℕ) (g : ℕ → ℕ) → totalled (suc n) g ≡ g 0 + totalled n (λ i. g (i + 1))
totalled-front zero g = omega arith
totalled-front (suc n) g = let e = totalled-front n g in let f : g (n + 1) ≡ g (suc n) = ap g (add-one n) in omega arith

-- the first, those between, and the last
pub totalled-ends : (n : ℕ) (g : ℕ → ℕ) → totalled (n + 2) g ≡ g 0 + totalled n (λ i. g (i + 1)) + g (n + 1)
totalled-ends n g =
    let z : n + 2 ≡ suc (suc n) = omega arith in
    let t = ap (λ (k : ℕ). totalled k g) z in
    let f = totalled-front n g in
    let l : g (n + 1) ≡ g (suc n) = ap g (add-one n) in
    omega arith

-- those between, and the first of them
module _ (n : ℕ) (g : ℕ → ℕ) (limit : ℕ) (fits : totalled (n + 2) g ≤ limit) where
  pub rows_fit : totalled n (λ i. g (i + 1)) ≤ limit
  rows_fit = let e = totalled-ends n g in omega arith

  pub first_fits : 1 ≤ n → g 1 ≤ limit
  first_fits h = let r = rows_fit in let l = totalled_le (λ i. g (i + 1)) 1 n h in omega arith
