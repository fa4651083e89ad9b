-- The transform of a list of weights, and when a list is refused.
use Rattle.std.specs.Prelude.{◌≡◌, ℕ, zero, suc, ◌^◌, ◌<◌, ◌≤◌, Bool, cond, ◌||◌, List, map, length, ℤ, pos, ◌+ℤ◌, Ok, Err, sum_by, Result, ◌==◌, bit_and, count_ones, nat_le, slice_index, slice_index_or}
use Rattle.std.specs.List.{range_with_len}
use Rattle.code.specs.declared.refusal.Refusal.{Refusal}
use Rattle.code.specs.declared.refusal.Refusal.TheVariants.{ListNotPower, ListTotalTooLarge}
use Rattle.code.specs.Limits.{sum_limit}
use Rattle.code.specs.Words.{odd, negated_if}
use Rattle.reading.specs.declared.Reading.{Ghosts as Kind}

-- the sum of f at the numbers below n
abbrev pub summed : ℕ → (ℕ → ℤ) → ℤ
summed zero f = pos 0
summed (suc n) f = summed n f +ℤ f n

-- whether the bits common to i and j are odd in number
abbrev pub odd_common : ℕ → ℕ → Bool
odd_common i j = odd (count_ones (bit_and i j))

-- entry i of the transform of the weights: the sum over j of weight j, negated where the bits common to i and j are odd in number
abbrev pub spectrum : List ℤ → ℕ → ℤ
spectrum ws i = summed (length ws) (λ j. negated_if (odd_common i j) (slice_index_or ws j (pos 0)))

-- the transform of the weights
abbrev pub sylvester : List ℤ → List ℤ
sylvester ws = map (spectrum ws) (range_with_len 0 (length ws))

-- the weight of entry i, and its size
abbrev pub weight_at : {R : Type 0} → (R → ℤ) → List R → ℕ → ℤ
weight_at weight xs i = slice_index_or (map weight xs) i (pos 0)

abbrev pub size_at : {R : Type 0} → (R → ℕ) → List R → ℕ → ℕ
size_at size xs i = slice_index (map size xs) i

-- the new weights are the transform of the old, and no new size exceeds the total of the old
pub record Transformed {R : Type 0} (kind : Kind R) (old new : List R) : Type 0 where
  pub weights : map kind.weight new ≡ sylvester (map kind.weight old)
  pub small : (i : ℕ) → i < length old → size_at kind.size new i ≤ sum_by kind.size old

-- the largest exponent of a list's length
abbrev pub max_exponent : ℕ
max_exponent = 16

-- whether n is one of 2^0 .. 2^t
abbrev pub is_power : ℕ → ℕ → Bool
is_power n zero = n == 1
is_power n (suc t) = is_power n t || n == 2 ^ suc t

-- what is said of a list of n readings whose sizes total s
abbrev pub verdict : ℕ → ℕ → Result Unit Refusal
verdict n s = cond (is_power n max_exponent) (cond (nat_le s sum_limit) (Ok tt) (Err ListTotalTooLarge)) (Err ListNotPower)
