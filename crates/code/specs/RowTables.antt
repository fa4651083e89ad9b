-- A table of rows with zeros behind them.
use Rattle.std.specs.Prelude.{◌≡◌, ℕ, ◌-◌, ◌≤◌, List, ◌++◌, length, take, drop, replicate}
use Rattle.std.proofs.Common.{arith}
use Rattle.std.proofs.lemmas.List.{length-take-le, take-append-drop}

-- how many rows there are
pub table_count : (n c : ℕ) (t : List ℕ) → length t ≡ n → c ≤ n → length (take c t) ≡ c
table_count n c t l b = length-take-le c t (omega arith)

-- the rows and the zeros behind them are the table
pub table_back : (n c : ℕ) (t : List ℕ) → length t ≡ n → c ≤ n → drop c t ≡ replicate (n - c) 0 → take c t ++ replicate (n - length (take c t)) 0 ≡ t
table_back n c t l b z = rw (table_count n c t l b, ← z) (take-append-drop c t)
