-- What a finder is, and what a search answers, refuses and leaves.
use Rattle.std.specs.Prelude.{◌≡◌, ℕ, ◌+◌, ◌*◌, ◌^◌, ◌<◌, ◌≤◌, cond, List, [], ◌∷◌, map, length, drop, Some, None, Option, ◌==◌, nat_le, slice_index}
use Rattle.code.specs.Limits.{Length, size_limit, max_rows}
use Rattle.code.specs.Words.{Best, agrees}
use Rattle.code.specs.declared.refusal.Refusal.{Refusal}
use Rattle.code.specs.declared.refusal.Refusal.TheVariants.{WordLengthDiffers, SizeTooLarge, WorkMemoryShort}
use Rattle.reading.specs.declared.Reading.{Ghosts as Kind}
use Rattle.finder.specs.declared.found.Found.{Found}

-- what a finder means: the length of its words, its rows, and how many readings of work memory a search needs
pub record Meaning : Type 0 where
  pub span : ℕ
  pub rows : List ℕ
  pub need : ℕ

-- at most 24 rows, none with a digit beyond the length, and a need of at most 4 * 2 ^ (row count)
pub record Lawful (by : Meaning) : Type 0 where
  pub sized : Length by.span
  pub few : length by.rows ≤ max_rows
  pub small : by.need ≤ 4 * 2 ^ length by.rows
  pub within : (j : ℕ) → j < length by.rows → slice_index by.rows j < 2 ^ by.span

-- the refusal of the first size above the limit, places counted from i, or else what comes after
abbrev pub large_from : ℕ → List ℕ → Option Refusal → Option Refusal
large_from i [] after = after
large_from i (s ∷ ss) after = cond (nat_le s size_limit) (large_from (i + 1) ss after) (Some (SizeTooLarge i))

-- why a finder of length n and this need turns down a word of these sizes and so much work memory, if it does
unfoldable pub refusal : ℕ → ℕ → List ℕ → ℕ → Option Refusal
refusal n need sizes work =
    cond (length sizes == n) (large_from 0 sizes (cond (nat_le need work) None (Some WorkMemoryShort))) (Some WordLengthDiffers)

-- a search by that finder that found this, and left the work memory as `after`
pub record Answered {R : Type 0} (kind : Kind R) (by : Meaning) (word work after : List R) (found : Found R) : Type 0 where
  pub taken : refusal by.span by.need (map kind.size word) (length work) ≡ None
  pub is_best : Best by.rows (map kind.weight word) found.message
  pub weighs : kind.weight found.reading ≡ agrees by.rows (map kind.weight word) found.message
  pub beyond : drop by.need after ≡ drop by.need work

-- a search that was turned down for the reason e
pub record Refused {R : Type 0} (size : R → ℕ) (n need : ℕ) (word work after : List R) (e : Refusal) : Type 0 where
  pub reason : refusal n need (map size word) (length work) ≡ Some e
  pub untouched : after ≡ work
