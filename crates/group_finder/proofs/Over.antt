-- The choices of the other rows, one after the other.
use Rattle.std.proofs.Common.{◌≡◌, ℕ, ◌+◌, ◌*◌, ◌/◌, ◌%◌, ◌^◌, ◌<◌, ℤ, ◌≤ℤ◌, ◌<ℤ◌, sym, ap, ◌∙◌, subst, ap₂, add_comm, arith}
use lib.Arith.{digits_div, digits_mod}
use Rattle.code.specs.Words.{Top}
use Rattle.code.proofs.Tops.{top_same, top_takes, top_keeps}
use Rattle.std.proofs.lemmas.Int.{ints}
use Rattle.group_finder.specs.Choices.{BestBefore, choice_value, group_value}

module _ (at : ℕ → ℤ) (span J : ℕ) where
  pub value_at : (t s : ℕ) → s < 2 ^ J → group_value at span J (s + t * 2 ^ J) ≡ choice_value (λ q. at (q * span + t)) J s
  value_at t s h =
      let e : s + t * 2 ^ J ≡ t * 2 ^ J + s = add_comm s (t * 2 ^ J) in
      let d : (s + t * 2 ^ J) / 2 ^ J ≡ t = ap (λ (x : ℕ). x / 2 ^ J) e ∙ digits_div t h in
      let m : (s + t * 2 ^ J) % 2 ^ J ≡ s = ap (λ (x : ℕ). x % 2 ^ J) e ∙ digits_mod t h in
      ap₂ (λ (x y : ℕ). choice_value (λ q. at (q * span + x)) J y) d m

  part : (t n : ℕ) → Top (choice_value (λ q. at (q * span + t)) J) (2 ^ J) n → Top (λ s. group_value at span J (s + t * 2 ^ J)) (2 ^ J) n
  part t n u = top_same (choice_value (λ q. at (q * span + t)) J) (λ s. group_value at span J (s + t * 2 ^ J)) (2 ^ J) n (λ j l. sym (value_at t j l)) u

  more : (t : ℕ) → t * 2 ^ J + 2 ^ J ≡ (t + 1) * 2 ^ J
  more t = omega arith

  module _ (t m n : ℕ) (best : Top (group_value at span J) (t * 2 ^ J) m) (u : Top (choice_value (λ q. at (q * span + t)) J) (2 ^ J) n) where
    pub over_takes : group_value at span J m <ℤ choice_value (λ q. at (q * span + t)) J n → Top (group_value at span J) ((t + 1) * 2 ^ J) (n + t * 2 ^ J)
    over_takes h =
        let v = value_at t n u.within in
        subst (λ (k : ℕ). Top (group_value at span J) k (n + t * 2 ^ J)) (more t) (top_takes (group_value at span J) (t * 2 ^ J) (2 ^ J) m n best (part t n u) (subst (λ x. group_value at span J m <ℤ x) (sym v) h))

    pub over_keeps : choice_value (λ q. at (q * span + t)) J n ≤ℤ group_value at span J m → Top (group_value at span J) ((t + 1) * 2 ^ J) m
    over_keeps h =
        let v = value_at t n u.within in
        subst (λ (k : ℕ). Top (group_value at span J) k m) (more t) (top_keeps (group_value at span J) (t * 2 ^ J) (2 ^ J) m n best (part t n u) (subst (λ x. x ≤ℤ group_value at span J m) (sym v) h))

  pub over_first : (n : ℕ) → Top (choice_value (λ q. at (q * span + 0)) J) (2 ^ J) n → Top (group_value at span J) (1 * 2 ^ J) n × (choice_value (λ q. at (q * span + 0)) J n ≡ group_value at span J n)
  over_first n u =
      let z : (j : ℕ) → j + 0 * 2 ^ J ≡ j = λ j. omega arith in
      let e : 2 ^ J ≡ 1 * 2 ^ J = omega arith in
      let same : (j : ℕ) → j < 2 ^ J → choice_value (λ q. at (q * span + 0)) J j ≡ group_value at span J j = λ j l. sym (value_at 0 j l) ∙ ap (group_value at span J) (z j) in
      (subst (λ (k : ℕ). Top (group_value at span J) k n) e (top_same (choice_value (λ q. at (q * span + 0)) J) (group_value at span J) (2 ^ J) n same u), same n u.within)

-- the choice t of the others, after those below it
module _ {R : Type 0} (weight : R → ℤ) (at : ℕ → ℤ) (span J t m : ℕ) (x : R) (best : BestBefore weight at span J t m x) (n : ℕ) (y : ℤ) (top : Top (choice_value (λ q. at (q * span + t)) J) (2 ^ J) n) (weighs : y ≡ choice_value (λ q. at (q * span + t)) J n) where
  pub keeps_best : y ≤ℤ weight x → BestBefore weight at span J (t + 1) m x
  keeps_best h = let f = best.1 in (over_keeps at span J t m n best.0 top (omega (arith, ints)), best.1)

  pub takes_best : weight x <ℤ y → (k : ℕ) (r : R) → Top (choice_value (λ q. at (q * span + t)) J) (2 ^ J) k → weight r ≡ choice_value (λ q. at (q * span + t)) J k → BestBefore weight at span J (t + 1) (k + t * 2 ^ J) r
  takes_best h k r u wr =
      let f = best.1 in
      let l = u.greatest n top.within in
      (over_takes at span J t m k best.0 u (omega (arith, ints)), wr ∙ sym (value_at at span J t k u.within))
