-- Columns of a list of rows, and a word folded into slots.
use Rattle.std.specs.Prelude.{◌≡◌, ℕ, ◌+◌, ◌*◌, ◌<◌, ◌≤◌, cond, List, [], ◌∷◌, map, length, take, drop, ℤ, pos, None, sum_by, ◌==◌, slice_index}
use Rattle.code.specs.Limits.{size_limit}
use Rattle.code.specs.Words.{digit}
use Rattle.hadamard.specs.Transform.{summed, weight_at}
use Rattle.reading.specs.declared.Reading.{Ghosts as Kind}
use Rattle.finder.specs.Search.{refusal}

-- the largest number of rows of which a column is taken
abbrev pub column_rows : ℕ
column_rows = 16

-- the number whose digit j is digit i of row j
abbrev pub column : List ℕ → ℕ → ℕ
column [] i = 0
column (r ∷ rs) i = digit i r + 2 * column rs i

-- the sum of w at the places below n whose slot is x
abbrev pub sum_of_slot : (ℕ → ℕ) → (ℕ → ℤ) → ℕ → ℕ → ℤ
sum_of_slot slot w n x = summed n (λ i. cond (slot i == x) (w i) (pos 0))

-- a word that passed the checks of a search, folded: each entry within the need weighs the sum of the readings whose slot it is, and the memory beyond is as it was
pub record Folded {R : Type 0} (kind : Kind R) (n need : ℕ) (slots : List ℕ) (word work after : List R) : Type 0 where
  pub taken : refusal n need (map kind.size word) (length work) ≡ None
  pub sums : (x : ℕ) → x < need → weight_at kind.weight after x ≡ sum_of_slot (λ i. slice_index slots i) (weight_at kind.weight word) n x
  pub total : sum_by kind.size (take need after) ≤ n * size_limit
  pub beyond : drop need after ≡ drop need work
