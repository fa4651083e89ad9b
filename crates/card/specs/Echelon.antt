-- Rows in echelon form, by which dependence is tested.
use Rattle.std.specs.Prelude.{ℕ, ◌≤◌, List, [], ◌∷◌, bit_xor}
use Rattle.code.specs.Spans.{Span}

-- adding b does not make x smaller: x has digit 0 at the place of b's first digit
abbrev pub Lacks : ℕ → ℕ → Type 0
Lacks b x = x ≤ bit_xor x b

abbrev pub AllLack : ℕ → List ℕ → Type 0
AllLack b [] = Unit {0}
AllLack b (c ∷ cs) = Lacks b c × AllLack b cs

-- each later row lacks each earlier one
abbrev pub Echelon : List ℕ → Type 0
Echelon [] = Unit {0}
Echelon (b ∷ bs) = AllLack b bs × Echelon bs

-- x lacks each row
abbrev pub LacksAll : List ℕ → ℕ → Type 0
LacksAll [] x = Unit {0}
LacksAll (b ∷ bs) x = Lacks b x × LacksAll bs x

-- what the one spans the other does too
pub record SameSpan (A B : List ℕ) : Type 0 where
  pub there : (y : ℕ) → Span A y → Span B y
  pub back : (y : ℕ) → Span B y → Span A y

-- x is the row with a choice of the echelon's rows added, and lacks each of them
pub record Reduced (bs : List ℕ) (row x : ℕ) : Type 0 where
  pub lacks : LacksAll bs x
  pub spans : Span bs (bit_xor row x)
