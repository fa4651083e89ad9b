-- The smallest number at which a function is greatest.
use Rattle.std.proofs.Common.{◌≡◌, ℕ, ◌+◌, ◌-◌, ◌<◌, List, ℤ, ◌≤ℤ◌, ◌<ℤ◌, sym, ap, ⊎_elim, arith}
use lib.Signed.{clash_ℤ}
use Rattle.std.proofs.lemmas.Bool.{cases_lt}
use Rattle.std.proofs.lemmas.Int.{ints}
use Rattle.code.specs.Words.{Top, Best}

by_below : {P : Type 0} (j a : ℕ) → (j < a → P) → ((i : ℕ) → j ≡ i + a → P) → P
by_below j a p q = ⊎_elim p (λ h. q (j - a) (omega arith)) (cases_lt j a)

module _ (f : ℕ → ℤ) where
  pub top_unique : (b m n : ℕ) → Top f b m → Top f b n → m ≡ n
  top_unique b m n t u =
      let a : (m < n → ⊥) = λ h. clash_ℤ (u.smallest m h) (t.greatest n u.within) in
      let c : (n < m → ⊥) = λ h. clash_ℤ (t.smallest n h) (u.greatest m t.within) in
      omega (arith, a, c)

  -- functions that are equal below the limit have the same top
  pub top_same : (g : ℕ → ℤ) (b m : ℕ) → ((j : ℕ) → j < b → f j ≡ g j) → Top f b m → Top g b m
  top_same g b m e t =
      let em = e m t.within in
      record {
        within = t.within;
        greatest = λ j h. let x = t.greatest j h in let ej = e j h in omega (arith, ints);
        smallest = λ j h. let x = t.smallest j h in let w = t.within in let hj : j < b = omega arith in let ej = e j hj in omega (arith, ints);
      }

  -- of two ranges, one after the other, the second has a greater value
  pub top_takes : (a b m n : ℕ) → Top f a m → Top (λ j. f (j + a)) b n → f m <ℤ f (n + a) → Top f (a + b) (n + a)
  top_takes a b m n t u h =
      record {
        within = let w = u.within in omega arith;
        greatest = λ j k. by_below j a
            (λ p. let x = t.greatest j p in omega (arith, ints))
            (λ i p. let x = u.greatest i (let w = k in omega arith) in let e : f (i + a) ≡ f j = ap f (sym p) in omega (arith, ints));
        smallest = λ j k. by_below j a
            (λ p. let x = t.greatest j p in omega (arith, ints))
            (λ i p. let x = u.smallest i (let w = k in omega arith) in let e : f (i + a) ≡ f j = ap f (sym p) in omega (arith, ints));
      }

  -- or has none
  pub top_keeps : (a b m n : ℕ) → Top f a m → Top (λ j. f (j + a)) b n → f (n + a) ≤ℤ f m → Top f (a + b) m
  top_keeps a b m n t u h =
      record {
        within = let w = t.within in omega arith;
        greatest = λ j k. by_below j a
            (λ p. t.greatest j p)
            (λ i p. let x = u.greatest i (let w = k in omega arith) in let e : f (i + a) ≡ f j = ap f (sym p) in omega (arith, ints));
        smallest = t.smallest;
      }

-- two best messages are equal
pub best_unique : (rows : List ℕ) (weights : List ℤ) (m n : ℕ) → Best rows weights m → Best rows weights n → m ≡ n
best_unique rows weights m n = top_unique _ _ m n
