-- The rows of a coset layer.
use Rattle.std.specs.Prelude.{ℕ, ◌+◌, ◌-◌, ◌/◌, ◌%◌, ◌^◌, cond, List, [], ◌∷◌, ◌++◌, map, length, take, Ok, Err, Result, nat_lt}
use Rattle.code.specs.Limits.{max_rows}
use Rattle.code.specs.Words.{odd}
use Rattle.finder.specs.Search.{Meaning}
use Rattle.code.specs.declared.refusal.Section.TheVariants.{Coset}
use Rattle.code.specs.declared.refusal.Refusal.{Refusal}
use Rattle.code.specs.declared.refusal.Refusal.TheVariants.{DigitBeyondLength, LayerFull, PileFull}

-- the largest number of rows of one layer
abbrev pub layer_rows : ℕ
layer_rows = 4

-- the digits of each row at the first n places
abbrev pub cut_to : ℕ → List ℕ → List ℕ
cut_to n rows = map (λ w. w % 2 ^ n) rows

-- the rows of a layer that holds `own` above a finder of length n: those below, then its own, read within the length and as many as keep the pile at 24
abbrev pub pile_rows : ℕ → List ℕ → List ℕ → List ℕ
pile_rows n below own = below ++ cut_to n (take (max_rows - length below) own)

-- a finder of the same length and need with more rows after its own, read within the length
abbrev pub above : Meaning → List ℕ → Meaning
above by rows = record { span = by.span; rows = by.rows ++ cut_to by.span rows; need = by.need }

-- what a layer that holds `own` means, above a finder that means `below`
abbrev pub piled : Meaning → List ℕ → Meaning
piled below own = record { span = below.span; rows = pile_rows below.span below.rows own; need = below.need }

-- the three checks of an added row, in their order, in a layer of so many rows above k rows of length n
abbrev pub row_verdict : ℕ → ℕ → ℕ → ℕ → Result (Unit {0}) Refusal
row_verdict n k count row =
    cond (nat_lt row (2 ^ n)) (cond (nat_lt count layer_rows) (cond (nat_lt (k + count) max_rows) (Ok tt) (Err PileFull)) (Err LayerFull)) (Err (DigitBeyondLength Coset count))

-- the readings, each replaced by its opposite where c has digit 1
abbrev pub opposite_at : {R : Type 0} → (R → R) → List R → ℕ → List R
opposite_at opposite [] c = []
opposite_at opposite (x ∷ xs) c = cond (odd c) (opposite x) x ∷ opposite_at opposite xs (c / 2)
