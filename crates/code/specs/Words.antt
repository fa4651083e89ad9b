-- Code words, agreement and the best message.
use Rattle.std.specs.Prelude.{ℕ, ◌*◌, ◌/◌, ◌%◌, ◌^◌, ◌<◌, Bool, cond, List, [], ◌∷◌, length, ℤ, pos, ◌+ℤ◌, neg_ℤ, ◌≤ℤ◌, ◌<ℤ◌, ◌==◌, bit_xor}

-- the digit of x at place i
abbrev pub digit : ℕ → ℕ → ℕ
digit i x = x / 2 ^ i % 2

-- whether the lowest binary digit is 1
abbrev pub odd : ℕ → Bool
odd n = n % 2 == 1

-- w, negated where b holds
abbrev pub negated_if : Bool → ℤ → ℤ
negated_if b w = cond b (neg_ℤ w) w

-- the exclusive-or of the rows that the message's bits choose, bit j choosing row j
abbrev pub codeword : List ℕ → ℕ → ℕ
codeword [] m = 0
codeword (r ∷ rs) m = bit_xor (m % 2 * r) (codeword rs (m / 2))

-- the sum of the weights, each negated where the word c has digit 1
abbrev pub agreement : List ℤ → ℕ → ℤ
agreement [] c = pos 0
agreement (w ∷ ws) c = negated_if (odd c) w +ℤ agreement ws (c / 2)

-- the agreement of message m
abbrev pub agrees : List ℕ → List ℤ → ℕ → ℤ
agrees rows weights m = agreement weights (codeword rows m)

-- the weights, each negated where the word c has digit 1
abbrev pub negated_at : List ℤ → ℕ → List ℤ
negated_at [] c = []
negated_at (w ∷ ws) c = negated_if (odd c) w ∷ negated_at ws (c / 2)

-- of the numbers below the limit, m is the smallest at which f is greatest
pub record Top (f : ℕ → ℤ) (limit m : ℕ) : Type 0 where
  pub within : m < limit
  pub greatest : (j : ℕ) → j < limit → f j ≤ℤ f m
  pub smallest : (j : ℕ) → j < m → f j <ℤ f m

-- the smallest message among those of greatest agreement
abbrev pub Best : List ℕ → List ℤ → ℕ → Type 0
Best rows weights m = Top (agrees rows weights) (2 ^ length rows) m
