-- The rows of a file stand as rows added to a card just started.
use Rattle.std.specs.Prelude.{◌≡◌, ℕ, zero, suc, ◌≤◌, cond, List, [], ◌∷◌, length, take, drop, Some, None, Ok, Err, Option, Result, nat_le, nat_lt}
use Rattle.code.specs.declared.refusal.Refusal.{Refusal}
use Rattle.code.specs.declared.refusal.Refusal.TheVariants.{LengthOutOfRange, DigitBeyondLength, SectionFull, DependentRow, ConcurrenceBroken, BytesEndEarly, BytesLeftOver, PassLengthDiffers, TooManyPasses, BitNotBinary, LevelOutOfRange, PlaceOffSheet, WordLengthDiffers, SizeTooLarge, WorkMemoryShort, LayerFull, PileFull, ListNotPower, ListTotalTooLarge, OutputShort, MessageTooLarge, UnknownCommand, UnknownLetter, NotTwoDigits, InputTooLong}
use Rattle.code.specs.Limits.{Length}
use Rattle.card.specs.Cards.{max_section_rows}
use Rattle.card_list.specs.declared.requests.Request.{Request}
use Rattle.card_list.specs.declared.requests.Request.TheVariants.{AddRow, MoveOn}
use Rattle.card_list.specs.declared.requests.Answer.{Answer}
use Rattle.card_list.specs.declared.requests.Answer.TheVariants.{Taken, Moved, Refused, Closed}
use Rattle.card_list.specs.Requests.{OwnList}
use Rattle.card_file.specs.Files.{row_size, row_of, read_card_lem}

-- the rows that n places for a row hold, as far as they are whole, and then what follows
abbrev pub rows_asked : (List ℕ → List Request) → ℕ → List ℕ → List Request
rows_asked rest zero bs = rest bs
rows_asked rest (suc n) bs = cond (nat_lt (length bs) row_size) [] (AddRow (row_of (take row_size bs)) ∷ rows_asked rest n (drop row_size bs))

-- a section's rows, where there is a count and it is lawful
abbrev pub section_asked : (List ℕ → List Request) → List ℕ → List Request
section_asked rest [] = []
section_asked rest (n ∷ bs) = cond (nat_le n max_section_rows) (rows_asked rest n bs) []

abbrev pub coset_asked : List ℕ → List Request
coset_asked bs = section_asked (λ _. []) bs

abbrev pub transform_asked : List ℕ → List Request
transform_asked bs = section_asked (λ c. MoveOn ∷ coset_asked c) bs

-- what a file asks of a card, from its second byte on: its rows, with a move between two sections
abbrev pub asked : List ℕ → List Request
asked bs = section_asked (λ t. MoveOn ∷ transform_asked t) bs

-- the refusal, where it is one of a row
abbrev pub of_row : Refusal → Option Refusal
of_row (DigitBeyondLength s i) = Some (DigitBeyondLength s i)
of_row (DependentRow s i) = Some (DependentRow s i)
of_row (ConcurrenceBroken s i) = Some (ConcurrenceBroken s i)
of_row LengthOutOfRange = None
of_row (SectionFull s) = None
of_row BytesEndEarly = None
of_row BytesLeftOver = None
of_row PassLengthDiffers = None
of_row TooManyPasses = None
of_row (BitNotBinary p) = None
of_row (LevelOutOfRange p) = None
of_row (PlaceOffSheet p) = None
of_row WordLengthDiffers = None
of_row (SizeTooLarge p) = None
of_row WorkMemoryShort = None
of_row LayerFull = None
of_row PileFull = None
of_row ListNotPower = None
of_row ListTotalTooLarge = None
of_row OutputShort = None
of_row MessageTooLarge = None
of_row UnknownCommand = None
of_row (UnknownLetter p) = None
of_row NotTwoDigits = None
of_row InputTooLong = None

-- the refusal of a row with which something ended
abbrev pub row_refusal : {A : Type 0} → Result A Refusal → Option Refusal
row_refusal (Ok a) = None
row_refusal (Err e) = of_row e

-- the first refusal among the answers to the requests
abbrev pub first_refused : List Request → List Answer → Option Refusal
first_refused [] bs = None
first_refused (r ∷ rs) [] = None
first_refused (r ∷ rs) (Refused e ∷ bs) = Some e
first_refused (r ∷ rs) (Taken ∷ bs) = first_refused rs bs
first_refused (r ∷ rs) (Moved ∷ bs) = first_refused rs bs
first_refused (r ∷ rs) (Closed ∷ bs) = first_refused rs bs

-- Let the answers be those of a card just started to what the file asks. Reading refuses a row where one of them
-- is a refusal, with the first such, and nowhere else.
abbrev pub RowsAsAdded : List ℕ → Type 0
RowsAsAdded [] = Unit {0}
RowsAsAdded (n ∷ bs) = (answers : List Answer) → Length n → length (asked bs) ≤ length answers → OwnList n (asked bs) answers
    → row_refusal (read_card_lem (n ∷ bs)) ≡ first_refused (asked bs) answers
