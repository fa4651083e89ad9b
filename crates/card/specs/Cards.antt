-- Cards: what a card means, and what becomes of a row that is added.
use Rattle.std.specs.Prelude.{◌≡◌, ℕ, ◌^◌, ◌<◌, ◌≤◌, Bool, true, cond, List, [], ◌∷◌, ◌++◌, length, Ok, Err, Result, nat_le}
use Rattle.code.specs.declared.refusal.Section.{Section}
use Rattle.code.specs.declared.refusal.Section.TheVariants.{Group, Transform, Coset}
use Rattle.code.specs.declared.refusal.Refusal.{Refusal}
use Rattle.code.specs.declared.refusal.Refusal.TheVariants.{MessageTooLarge, DigitBeyondLength, SectionFull, DependentRow, ConcurrenceBroken}
use Rattle.code.specs.Limits.{Length}
use Rattle.code.specs.Words.{codeword}
use Rattle.code.specs.Spans.{Independent, Span}
use Rattle.card.specs.Rows.{Within, Concur, dependent, concordant}

-- the largest number of rows of a section, and of a card
abbrev pub max_section_rows : ℕ
max_section_rows = 8

abbrev pub card_rows : ℕ
card_rows = 24

-- a word length and the rows of the three sections
pub record Card : Type 0 where
  pub len : ℕ
  pub group : List ℕ
  pub transform : List ℕ
  pub coset : List ℕ

-- all rows, in their order
abbrev pub rows_of : Card → List ℕ
rows_of k = k.group ++ (k.transform ++ k.coset)

abbrev pub section_of : Card → Section → List ℕ
section_of k Group = k.group
section_of k Transform = k.transform
section_of k Coset = k.coset

-- a card with no rows
abbrev pub blank : ℕ → Card
blank n = record { len = n; group = []; transform = []; coset = [] }

-- what every card keeps, in every state
pub record Lawful (k : Card) : Type 0 where
  pub sized : Length k.len
  pub few : (s : Section) → length (section_of k s) ≤ max_section_rows
  pub within : Within k.len (rows_of k)
  pub independent : Independent (rows_of k)
  pub concurring : Concur k.group

-- whether a new row keeps the concurrence of the group
abbrev pub keeps : Card → Section → ℕ → Bool
keeps k Group row = concordant k.len (k.group ++ row ∷ [])
keeps k Transform row = true
keeps k Coset row = true

-- the card with one row more in a section
abbrev pub pushed : Card → Section → ℕ → Card
pushed k Group row = record { len = k.len; group = k.group ++ row ∷ []; transform = k.transform; coset = k.coset }
pushed k Transform row = record { len = k.len; group = k.group; transform = k.transform ++ row ∷ []; coset = k.coset }
pushed k Coset row = record { len = k.len; group = k.group; transform = k.transform; coset = k.coset ++ row ∷ [] }

-- no section after this one has rows
abbrev pub NoneAfter : Card → Section → Type 0
NoneAfter k Group = (k.transform ≡ []) × (k.coset ≡ [])
NoneAfter k Transform = k.coset ≡ []
NoneAfter k Coset = Unit {0}

-- the four checks of a row, in their order
abbrev pub verdict : Card → Section → ℕ → Result (Unit {0}) Refusal
verdict k s row =
    cond (nat_le (2 ^ k.len) row) (Err (DigitBeyondLength s (length (section_of k s))))
    (cond (nat_le max_section_rows (length (section_of k s))) (Err (SectionFull s))
    (cond (dependent (rows_of k) row) (Err (DependentRow s (length (section_of k s))))
    (cond (keeps k s row) (Ok tt)
    (Err (ConcurrenceBroken s (length (section_of k s)))))))

-- a new row would keep the concurrence of the group
abbrev pub Keeps : Section → List ℕ → ℕ → Type 0
Keeps Group here row = Concur (here ++ row ∷ [])
Keeps Transform here row = Unit {0}
Keeps Coset here row = Unit {0}

-- x is what a row is told that is handed to section s of a card: `yes`, or `no` with a refusal. The section has the rows
-- `here`, the card the rows `all`, its words n places. Of the five cases just one applies.
pub record RowTold {X : Type 0} (yes : X) (no : Refusal → X) (n : ℕ) (s : Section) (here all : List ℕ) (row : ℕ) (x : X) : Type 0 where
  pub beyond : 2 ^ n ≤ row → x ≡ no (DigitBeyondLength s (length here))
  pub full : row < 2 ^ n → max_section_rows ≤ length here → x ≡ no (SectionFull s)
  pub dependent : row < 2 ^ n → length here < max_section_rows → Span all row → x ≡ no (DependentRow s (length here))
  pub broken : row < 2 ^ n → length here < max_section_rows → (Span all row → ⊥) → (Keeps s here row → ⊥) → x ≡ no (ConcurrenceBroken s (length here))
  pub taken : row < 2 ^ n → length here < max_section_rows → (Span all row → ⊥) → Keeps s here row → x ≡ yes

-- r is what a row is told that is handed to section s of the card k
abbrev pub Told : Card → Section → ℕ → Result (Unit {0}) Refusal → Type 0
Told k s row r = RowTold (Ok tt) (λ e. Err e) k.len s (section_of k s) (rows_of k) row r

-- the card after a row was handed to it with that answer
abbrev pub added : Result (Unit {0}) Refusal → Card → Section → ℕ → Card
added (Ok _) k s row = pushed k s row
added (Err _) k s row = k

-- the answer of encoding
abbrev pub encoded : Card → ℕ → Result ℕ Refusal
encoded k m = cond (nat_le (2 ^ length (rows_of k)) m) (Err MessageTooLarge) (Ok (codeword (rows_of k) m))

-- no other message has the word w
abbrev pub Only : Card → ℕ → ℕ → Type 0
Only k m w = (other : ℕ) → other < 2 ^ length (rows_of k) → codeword (rows_of k) other ≡ w → other ≡ m
