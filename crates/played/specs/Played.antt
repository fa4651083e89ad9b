-- A code word played at full level, and found again.
use Rattle.std.specs.Prelude.{◌≡◌, ℕ, ◌*◌, ◌^◌, ◌<◌, ◌≤◌, true, false, cond, ◌⊎◌, List, [], ◌∷◌, ◌++◌, length, take, drop, pos, Ok, Err, Result, ◌==◌, slice_index_or, Float}
use Rattle.std.specs.Float.{fin}
use Rattle.code.specs.Limits.{full_label}
use Rattle.code.specs.Words.{digit, codeword}
use Rattle.code.specs.declared.refusal.Refusal.{Refusal}
use Rattle.code.specs.declared.refusal.Refusal.TheVariants.{OutputShort, MessageTooLarge}
use Rattle.card.specs.Cards.{Card, Lawful, rows_of}
use Rattle.sample.specs.declared.Sample.{Sample}
use Rattle.sample.specs.declared.Sample.TheVariants.{Bit, Level}
use Rattle.reading.specs.declared.Reading.{Ghosts as Kind}
use Rattle.finder.specs.Search.{Meaning}
use Rattle.finder.specs.declared.found.Found.{Found}
use Rattle.sheet.specs.declared.Sheet.{Sheet}
use Rattle.sheet.specs.Cells.{covered}
use Rattle.sheet.specs.Book.{Call, Pass}
use Rattle.sheet.specs.Stands.{cells_of, book_at, Stands}

-- level 1 for digit 0, level -1 for digit 1
abbrev pub level_for : ℕ → Float
level_for d = cond (d == 0) (fin false 1 (pos 0)) (fin true 1 (pos 0))

-- the sample plays the digit d at full level: as a bit, or as a level
abbrev pub PlaysDigit : ℕ → Sample → Type 0
PlaysDigit d x = (x ≡ Bit d) ⊎ (x ≡ Level (level_for d))

-- the samples play the word at full level, each place in either way
abbrev pub PlaysWord : ℕ → List Sample → Type 0
PlaysWord word xs = (k : ℕ) (x : Sample) → k < length xs → PlaysDigit (digit k word) (slice_index_or xs k x)

-- the digit d as a level where l is 1, else as a bit
abbrev pub played_as : ℕ → ℕ → Sample
played_as l d = cond (l == 1) (Level (level_for d)) (Bit d)

-- the answer of playing a message of the card where there is room for so many samples
pub record Played (card : Card) (message room : ℕ) (r : Result ℕ Refusal) : Type 0 where
  pub short : room < card.len → r ≡ Err OutputShort
  pub too_large : card.len ≤ room → 2 ^ length (rows_of card) ≤ message → r ≡ Err MessageTooLarge
  pub taken : card.len ≤ room → message < 2 ^ length (rows_of card) → r ≡ Ok card.len

-- the samples after a message was played into them, places of `levels` with digit 1 as levels
pub record Written (card : Card) (message levels : ℕ) (old new : List Sample) : Type 0 where
  pub long : length new ≡ length old
  pub samples : (k : ℕ) (x : Sample) → k < card.len → slice_index_or new k x ≡ played_as (digit k levels) (digit k (codeword (rows_of card) message))
  pub plays : PlaysWord (codeword (rows_of card) message) (take card.len new)
  pub rest : drop card.len new ≡ drop card.len old

-- a search that found the message again, at the weight of full level at every one of n places
abbrev pub FoundAgain : {R : Type 0} → Kind R → ℕ → ℕ → Result (Found R) Refusal → Type 0
FoundAgain kind n message r = (f : Found _) × (r ≡ Ok f) × (f.message ≡ message) × (kind.weight f.reading ≡ pos (n * full_label * kind.MAIN_UNIT))

-- what was played once at full level from a card, to a sheet with no passes, is found again by a finder of the card's length and rows, given its need:
-- h are the calls before the pass
abbrev pub Again : {R : Type 0} (kind : Kind R) → Sheet R → Meaning → (work : ℕ) → Result (Found R) Refusal → Type 0
Again kind t by work r =
    (card : Card) (message : ℕ) (h : List Call) (samples : List Sample) →
    Lawful card → message < 2 ^ length (rows_of card) →
    Stands kind (h ++ Pass samples ∷ []) t → (book_at kind h t).count ≡ 0 →
    PlaysWord (codeword (rows_of card) message) samples → length samples ≡ card.len → covered (cells_of t) ≡ card.len →
    by.span ≡ card.len → by.rows ≡ rows_of card → by.need ≤ work →
    FoundAgain kind card.len message r
