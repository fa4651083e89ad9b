-- What the rows of a card keep, and the tests that decide it.
use Rattle.std.specs.Prelude.{◌≡◌, ℕ, zero, suc, ◌+◌, ◌^◌, ◌<◌, ◌≤◌, Bool, true, ◌&&◌, ◌||◌, List, [], ◌∷◌, length, ◌==◌, bit_xor, nat_lt, slice_index}
use Rattle.code.specs.Words.{digit}

-- in how many rows a place has digit 1
abbrev pub tally : ℕ → List ℕ → ℕ
tally i [] = 0
tally i (r ∷ rs) = digit i r + tally i rs

-- each place has digit 1 in no row, in just one, or in all of them
abbrev pub Concur : List ℕ → Type 0
Concur rows = (i : ℕ) → 2 ≤ tally i rows → tally i rows ≡ length rows

-- no row has a digit beyond the length
abbrev pub Within : ℕ → List ℕ → Type 0
Within n rows = (j : ℕ) → j < length rows → slice_index rows j < 2 ^ n

-- whether x is the sum of a choice of the rows
abbrev pub dependent : List ℕ → ℕ → Bool
dependent [] x = x == 0
dependent (r ∷ rs) x = dependent rs x || dependent rs (bit_xor x r)

-- whether each of the first n places has digit 1 in no row, in just one, or in all of them
abbrev pub concordant : ℕ → List ℕ → Bool
concordant zero rows = true
concordant (suc n) rows = (nat_lt (tally n rows) 2 || tally n rows == length rows) && concordant n rows
