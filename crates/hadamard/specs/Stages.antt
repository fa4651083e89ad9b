-- What the stages of the transform have done so far.
use Rattle.std.specs.Prelude.{◌≡◌, ℕ, ◌+◌, ◌*◌, ◌<◌, ◌≤◌, List, map, take, drop, ◌+ℤ◌, neg_ℤ, sum_by}
use Rattle.hadamard.specs.Transform.{spectrum, weight_at, size_at}
use Rattle.reading.specs.declared.Reading.{Ghosts as Kind}

-- the pairs (j, h + j) with j below k hold their sum and difference; those from k on are as before
pub record Crossed {R : Type 0} (kind : Kind R) (h k : ℕ) (old new : List R) : Type 0 where
  pub sum : (j : ℕ) → j < k → weight_at kind.weight new j ≡ weight_at kind.weight old j +ℤ weight_at kind.weight old (h + j)
  pub difference : (j : ℕ) → j < k → weight_at kind.weight new (h + j) ≡ weight_at kind.weight old j +ℤ neg_ℤ (weight_at kind.weight old (h + j))
  pub sum_size : (j : ℕ) → j < k → size_at kind.size new j ≤ size_at kind.size old j + size_at kind.size old (h + j)
  pub difference_size : (j : ℕ) → j < k → size_at kind.size new (h + j) ≤ size_at kind.size old j + size_at kind.size old (h + j)
  pub lower : (j : ℕ) → k ≤ j → j < h → (weight_at kind.weight new j ≡ weight_at kind.weight old j) × (size_at kind.size new j ≡ size_at kind.size old j)
  pub upper : (j : ℕ) → k ≤ j → j < h → (weight_at kind.weight new (h + j) ≡ weight_at kind.weight old (h + j)) × (size_at kind.size new (h + j) ≡ size_at kind.size old (h + j))

-- block b of a list cut into blocks of n entries
abbrev pub block : {R : Type 0} → ℕ → ℕ → List R → List R
block n b xs = take n (drop (b * n) xs)

-- the blocks of 2 * h entries below k are crossed; the others are as before
pub record Staged {R : Type 0} (kind : Kind R) (h blocks k : ℕ) (old new : List R) : Type 0 where
  pub crossed : (b : ℕ) → b < k → Crossed kind h h (block (h + h) b old) (block (h + h) b new)
  pub rest : (b : ℕ) → k ≤ b → b < blocks → block (h + h) b new ≡ block (h + h) b old

-- the transforms of the blocks of n entries are parts of that of the old list, and no block's sizes exceed the old total
pub record Blocked {R : Type 0} (kind : Kind R) (n blocks : ℕ) (old new : List R) : Type 0 where
  pub weighs : (b i : ℕ) → b < blocks → i < n → spectrum (map kind.weight (block n b new)) i ≡ spectrum (map kind.weight old) (b * n + i)
  pub small : (b : ℕ) → b < blocks → sum_by kind.size (block n b new) ≤ sum_by kind.size old
