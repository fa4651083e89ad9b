-- The test of a top is right.
use Rattle.std.proofs.Common.{◌≡◌, ℕ, zero, suc, ◌<◌, true, cond, ltb, ℤ, ◌≤ℤ◌, ◌<ℤ◌, subst, ⊎_elim, arith}
use lib.Signed.{lt_z, le_z}
use Rattle.std.proofs.lemmas.Int.{ints}
use Rattle.std.proofs.lemmas.Bool.{and_parts, cases_lt, lt-ltb, le-ltb}
use Rattle.code.specs.Words.{Top}
use Rattle.cases.specs.Tested.{none_above}

less : (a b : ℤ) → lt_z a b ≡ true → a <ℤ b
less a b h = grind (arith, ints)

at_most : (a b : ℤ) → le_z a b ≡ true → a ≤ℤ b
at_most a b h = grind (arith, ints)

pub record Passed (f : ℕ → ℤ) (j m : ℕ) : Type 0 where
  pub most : f j ≤ℤ f m
  pub first : j < m → f j <ℤ f m

passed_here : (f : ℕ → ℤ) (j m : ℕ) → cond (ltb j m) (lt_z (f j) (f m)) (le_z (f j) (f m)) ≡ true → Passed f j m
passed_here f j m e = ⊎_elim
    (λ h. let l = less (f j) (f m) (rw (lt-ltb j m h) at e) in record { most = omega (arith, ints); first = λ _. l })
    (λ h. record { most = at_most (f j) (f m) (rw (le-ltb j m h) at e); first = λ k. absurd (omega arith) })
    (cases_lt j m)

passed : (f : ℕ → ℤ) (n m : ℕ) → none_above f n m ≡ true → (j : ℕ) → j < n → Passed f j m
passed f zero m e j h = absurd (omega arith)
passed f (suc n) m e j h =
    let parts = and_parts (cond (ltb n m) (lt_z (f n) (f m)) (le_z (f n) (f m))) (none_above f n m) e in
    ⊎_elim
    (λ k. passed f n m parts.1 j k)
    (λ k. let z : n ≡ j = omega arith in subst (λ (i : ℕ). Passed f i m) z (passed_here f n m parts.0))
    (cases_lt j n)

pub top_tested : (f : ℕ → ℤ) (limit m : ℕ) → m < limit → none_above f limit m ≡ true → Top f limit m
top_tested f limit m low e = record {
  within = low;
  greatest = λ j h. (passed f limit m e j h).most;
  smallest = λ j h. (passed f limit m e j (omega arith)).first h;
}
