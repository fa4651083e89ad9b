-- The limits that every layer shares.
use Rattle.std.specs.Prelude.{ℕ, ◌^◌, ◌≤◌}

-- the largest number of places of a word
abbrev pub max_places : ℕ
max_places = 64

-- a lawful word length
abbrev pub Length : ℕ → Type 0
Length n = (1 ≤ n) × (n ≤ max_places)

-- the largest absolute value of a label
abbrev pub full_label : ℕ
full_label = 1024

-- the largest total of sizes at which readings are added, negated and transformed
abbrev pub sum_limit : ℕ
sum_limit = 2 ^ 28

-- the largest size of a reading in a word that is searched
abbrev pub size_limit : ℕ
size_limit = 2 ^ 20

-- the largest number of rows that are searched
abbrev pub max_rows : ℕ
max_rows = 24
