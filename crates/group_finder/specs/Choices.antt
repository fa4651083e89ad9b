-- Choices of group rows by parity.
use Rattle.std.specs.Prelude.{◌≡◌, ℕ, zero, suc, ◌+◌, ◌-◌, ◌*◌, ◌/◌, ◌%◌, ◌^◌, ◌<◌, ◌≤◌, max, Bool, true, false, cond, not, ◌⊎◌, List, map, length, take, drop, ℤ, pos, ◌+ℤ◌, neg_ℤ, ◌≤ℤ◌, ◌<ℤ◌, sum_by, ◌==◌, count_ones}
use Rattle.card.specs.Cards.{Card}
use Rattle.hadamard.specs.Transform.{summed, odd_common, weight_at, size_at, spectrum}
use Rattle.code.specs.Words.{Top, negated_if, odd}
use Rattle.reading.specs.declared.Reading.{Ghosts as Kind}

-- of the numbers below the limit that P admits, m is the smallest at which f is greatest
pub record TopOf (P : ℕ → Bool) (f : ℕ → ℤ) (limit m : ℕ) : Type 0 where
  pub within : m < limit
  pub admitted : P m ≡ true
  pub greatest : (j : ℕ) → j < limit → P j ≡ true → f j ≤ℤ f m
  pub smallest : (j : ℕ) → j < m → P j ≡ true → f j <ℤ f m

-- the sum of S below j, each negated where s has digit 1
abbrev pub signs : (ℕ → ℤ) → ℕ → ℕ → ℤ
signs S j s = summed j (λ i. negated_if (odd (s / 2 ^ i)) (S i))

-- whether the digits 1 of s are odd in number
abbrev pub parity : ℕ → Bool
parity s = odd (count_ones s)

-- whether the parity of s is p
abbrev pub of_parity : Bool → ℕ → Bool
of_parity p s = cond p (parity s) (not (parity s))

-- the sum of g at the numbers below n
abbrev pub totalled : ℕ → (ℕ → ℕ) → ℕ
totalled zero g = 0
totalled (suc n) g = totalled n g + g n

-- what the choice s of J group rows gets: M, each S, and F by the parity
abbrev pub choice_value : (ℕ → ℤ) → ℕ → ℕ → ℤ
choice_value w J s = w 0 +ℤ (signs (λ i. w (i + 1)) J s +ℤ negated_if (parity s) (w (J + 1)))

-- the slot of a place whose group rows have column c: 0 where none has digit 1, j + 1 where row j alone has it, J + 1 where all of at least two have it
abbrev pub Slotted : ℕ → ℕ → ℕ → Type 0
Slotted J c q = ((c ≡ 0) × (q ≡ 0)) ⊎ (((j : ℕ) × ((j < J) × (c ≡ 2 ^ j) × (q ≡ j + 1))) ⊎ ((2 ≤ J) × (c ≡ 2 ^ J - 1) × (q ≡ J + 1)))

-- the readings of slot q, each negated by the choice t of the others, summed
abbrev pub slot_sum : (ℕ → ℕ) → (ℕ → ℕ) → (ℕ → ℤ) → ℕ → ℕ → ℕ → ℤ
slot_sum slot col w n t q = summed n (λ i. cond (slot i == q) (negated_if (odd_common t (col i)) (w i)) (pos 0))

-- the better of two extended choices, the first on a tie
pub record Extended {R : Type 0} (kind : Kind R) (m : ℕ) (a : R) (n : ℕ) (b : R) (s : R) (bit : ℕ) (k : ℕ) (r : R) : Type 0 where
  pub keeps : (kind.weight b +ℤ neg_ℤ (kind.weight s)) ≤ℤ (kind.weight a +ℤ kind.weight s) → (k ≡ m) × (kind.weight r ≡ kind.weight a +ℤ kind.weight s)
  pub takes : (kind.weight a +ℤ kind.weight s) <ℤ (kind.weight b +ℤ neg_ℤ (kind.weight s)) → (k ≡ n + bit) × (kind.weight r ≡ kind.weight b +ℤ neg_ℤ (kind.weight s))
  pub small : kind.size r ≤ max (kind.size a) (kind.size b) + kind.size s

-- the best choices of j rows of even and of odd number
pub record ByParity {R : Type 0} (kind : Kind R) (S : ℕ → ℤ) (bulk : ℕ → ℕ) (j : ℕ) (m : ℕ) (a : R) (n : ℕ) (b : R) : Type 0 where
  pub even : TopOf (of_parity false) (signs S j) (2 ^ j) m
  pub odd : TopOf (of_parity true) (signs S j) (2 ^ j) n
  pub even_weighs : kind.weight a ≡ signs S j m
  pub odd_weighs : kind.weight b ≡ signs S j n
  pub even_small : kind.size a ≤ totalled j bulk
  pub odd_small : kind.size b ≤ totalled j bulk

-- the best choices of j rows of even and of odd number, with what is kept of their messages
pub record KeptByParity {M R : Type 0} (keeps : M → ℕ → Type 0) (kind : Kind R) (S : ℕ → ℤ) (bulk : ℕ → ℕ) (j : ℕ) (m : M) (a : R) (n : M) (b : R) : Type 0 where
  pub even_choice : ℕ
  pub odd_choice : ℕ
  pub even_kept : keeps m even_choice
  pub odd_kept : keeps n odd_choice
  pub best : ByParity kind S bulk j even_choice a odd_choice b

-- x is the greatest value of f below the limit, and m what is kept of where it is first met
pub record BestKept {M : Type 0} (keeps : M → ℕ → Type 0) (f : ℕ → ℤ) (limit : ℕ) (m : M) (x : ℤ) : Type 0 where
  pub choice : ℕ
  pub kept : keeps m choice
  pub top : Top f limit choice
  pub weighs : x ≡ f choice

-- what message m of J group rows and others gets, by the lists of the slots, one after the other
abbrev pub group_value : (ℕ → ℤ) → ℕ → ℕ → ℕ → ℤ
group_value at span J m = choice_value (λ q. at (q * span + m / 2 ^ J)) J (m % 2 ^ J)

-- m is the best message by the choices of the others below t, and a reading weighs what it gets
abbrev pub BestBefore : {R : Type 0} → (R → ℤ) → (ℕ → ℤ) → (span J t m : ℕ) → R → Type 0
BestBefore weight at span J t m r = Top (group_value at span J) (t * 2 ^ J) m × (weight r ≡ group_value at span J m)

-- the first n parts, each of so many entries, are transformed
pub record PartsDone {R : Type 0} (kind : Kind R) (span n : ℕ) (old new : List R) : Type 0 where
  pub weighs : (q : ℕ) → q < n → (t : ℕ) → t < span → weight_at kind.weight new (q * span + t) ≡ spectrum (map kind.weight (take span (drop (q * span) old))) t
  pub small : (q : ℕ) → q < n → (t : ℕ) → t < span → size_at kind.size new (q * span + t) ≤ sum_by kind.size (take span (drop (q * span) old))

-- a column of J concurring rows: no digit 1, just one, or all
abbrev pub Concurs : ℕ → ℕ → Type 0
Concurs J c = (c ≡ 0) ⊎ (((j : ℕ) × ((j < J) × (c ≡ 2 ^ j))) ⊎ (c ≡ 2 ^ J - 1))

-- how many readings the group finder needs for J group rows and T others
abbrev pub group_need : ℕ → ℕ → ℕ
group_need J T = (J + 2) * 2 ^ T

-- the need of the group finder of a card
abbrev pub group_need_of : Card → ℕ
group_need_of k = group_need (length k.group) (length k.transform)
