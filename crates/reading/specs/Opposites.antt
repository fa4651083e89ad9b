-- What negating does.
use Rattle.std.specs.Prelude.{◌≡◌, ℕ, ◌≤◌, ℤ, neg_ℤ}
use Rattle.code.specs.Limits.{sum_limit}

-- up to the limit, the opposite of a reading has the opposite weight and the same size, and its own opposite is the reading itself
pub record Opposites {R : Type 0} (weight : R → ℤ) (size : R → ℕ) (opposite : R → R) : Type 0 where
  pub negates : (x : R) → size x ≤ sum_limit → weight (opposite x) ≡ neg_ℤ (weight x)
  pub sized : (x : R) → size x ≤ sum_limit → size (opposite x) ≡ size x
  pub twice : (x : R) → size x ≤ sum_limit → opposite (opposite x) ≡ x
