-- Sums of choices of rows.
use Rattle.std.specs.Prelude.{◌≡◌, ℕ, ◌^◌, ◌<◌, List, length}
use Rattle.code.specs.Words.{codeword}

-- x is the exclusive-or of some choice of the rows, the empty choice included
abbrev pub Span : List ℕ → ℕ → Type 0
Span rows x = (m : ℕ) × (m < 2 ^ length rows) × (codeword rows m ≡ x)

-- only the empty choice of the rows has the sum 0
abbrev pub Independent : List ℕ → Type 0
Independent rows = (m : ℕ) → m < 2 ^ length rows → codeword rows m ≡ 0 → m ≡ 0
