-- The three words that the test of concurrence keeps while it goes through the rows, place by place.
use Rattle.std.specs.Prelude.{◌≡◌, ℕ, ◌-◌, min, List, length}
use Rattle.code.specs.Words.{digit}
use Rattle.card.specs.Rows.{tally}

pub record Places (rows : List ℕ) (seen many all : ℕ) : Type 0 where
  pub in_one : (i : ℕ) → digit i seen ≡ min 1 (tally i rows)
  pub in_two : (i : ℕ) → digit i many ≡ min 1 (tally i rows - 1)
  pub in_all : (i : ℕ) → digit i all ≡ 1 - (length rows - tally i rows)
