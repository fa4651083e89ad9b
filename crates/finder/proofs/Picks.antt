-- The first largest, one after the other.
use Rattle.std.proofs.Common.{◌≡◌, ℕ, ◌+◌, Bool, true, false, cond, ℤ, ◌≤ℤ◌, ◌<ℤ◌, sym, refl, subst, ⊎_elim, arith}
use lib.Signed.{lt_z, ≤ℤ_refl}
use Rattle.std.proofs.lemmas.Int.{ints}
use Rattle.std.proofs.lemmas.Bool.{cases_lt}
use Rattle.code.specs.Words.{Top}

-- what holds of the one that a test picks
pub picked : {X : Type 0} (P : X → Type 0) (b : Bool) (x y r : X) → r ≡ cond b y x → (b ≡ true → P y) → (b ≡ false → P x) → P r
picked P true x y r e p q = subst P (sym e) (p refl)
picked P false x y r e p q = subst P (sym e) (q refl)

-- a test of weights
pub less : (a b : ℤ) → lt_z a b ≡ true → a <ℤ b
less a b h = grind (arith, ints)

pub not_less : (a b : ℤ) → lt_z a b ≡ false → b ≤ℤ a
not_less a b h = grind (arith, ints)

module _ (f : ℕ → ℤ) (i m : ℕ) (t : Top f i m) where
  pub largest_takes : f m <ℤ f i → Top f (i + 1) i
  largest_takes h = record {
    within = omega arith;
    greatest = λ j l. ⊎_elim (λ k. let x = t.greatest j k in omega (arith, ints)) (λ k. let e : j ≡ i = omega arith in subst (λ (x : ℕ). f x ≤ℤ f i) (sym e) (≤ℤ_refl (f i))) (cases_lt j i);
    smallest = λ j l. let x = t.greatest j l in omega (arith, ints);
  }

  pub largest_keeps : f i ≤ℤ f m → Top f (i + 1) m
  largest_keeps h = record {
    within = let w = t.within in omega arith;
    greatest = λ j l. ⊎_elim (λ k. t.greatest j k) (λ k. let e : j ≡ i = omega arith in subst (λ (x : ℕ). f x ≤ℤ f m) (sym e) h) (cases_lt j i);
    smallest = t.smallest;
  }

pub largest_first : (f : ℕ → ℤ) → Top f 1 0
largest_first f = record {
  within = omega arith;
  greatest = λ j l. let e : 0 ≡ j = omega arith in subst (λ (x : ℕ). f x ≤ℤ f 0) e (≤ℤ_refl (f 0));
  smallest = λ j l. absurd (omega arith);
}
