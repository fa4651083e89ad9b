-- Two finders, one after the other.
use Rattle.std.specs.Prelude.{◌≡◌, ℕ, List, map, length, drop, ℤ, None}
use Rattle.finder.specs.Search.{refusal}

-- with equal rows in the same order, at equal weights, both answers have the same message and the same weight
abbrev pub SameAnswer : (rows others : List ℕ) (weights other_weights : List ℤ) (m n : ℕ) (x y : ℤ) → Type 0
SameAnswer rows others weights other_weights m n x y = rows ≡ others → weights ≡ other_weights → (m ≡ n) × (x ≡ y)

-- a search that was not turned down: what it leaves of the work memory
abbrev pub Taken : {R : Type 0} (size : R → ℕ) (n need : ℕ) (word work after : List R) → Type 0
Taken size n need word work after = (refusal n need (map size word) (length work) ≡ None) × (drop need after ≡ drop need work)
