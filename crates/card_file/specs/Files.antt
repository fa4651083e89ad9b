-- The bytes of a card file.
use Rattle.std.specs.Prelude.{ℕ, zero, suc, ◌+◌, ◌*◌, ◌/◌, ◌%◌, Bool, true, false, cond, ◌&&◌, List, [], ◌∷◌, ◌++◌, length, take, drop, Ok, Err, Result, nat_le, nat_lt, slice_index}
use Rattle.code.specs.declared.refusal.Section.{Section}
use Rattle.code.specs.declared.refusal.Section.TheVariants.{Group, Transform, Coset}
use Rattle.code.specs.declared.refusal.Refusal.{Refusal}
use Rattle.code.specs.declared.refusal.Refusal.TheVariants.{LengthOutOfRange, SectionFull, BytesEndEarly, BytesLeftOver, OutputShort}
use Rattle.code.specs.Limits.{max_places}
use Rattle.card.specs.Cards.{Card, verdict, pushed, blank, max_section_rows}

-- ---- writing

-- how many bytes a row takes
abbrev pub row_size : ℕ
row_size = 8

-- a row as eight bytes, the least significant first
abbrev pub row_bytes : ℕ → List ℕ
row_bytes x = (x % 256) ∷ (x / 256 % 256) ∷ (x / 65536 % 256) ∷ (x / 16777216 % 256) ∷ (x / 4294967296 % 256) ∷ (x / 1099511627776 % 256) ∷ (x / 281474976710656 % 256) ∷ (x / 72057594037927936 % 256) ∷ []

-- the row that eight bytes are
abbrev pub row_of : List ℕ → ℕ
row_of b = slice_index b 0 + slice_index b 1 * 256 + slice_index b 2 * 65536 + slice_index b 3 * 16777216 + slice_index b 4 * 4294967296 + slice_index b 5 * 1099511627776 + slice_index b 6 * 281474976710656 + slice_index b 7 * 72057594037927936

abbrev pub rows_bytes : List ℕ → List ℕ
rows_bytes [] = []
rows_bytes (r ∷ rs) = row_bytes r ++ rows_bytes rs

-- a count byte and the rows
abbrev pub section_bytes : List ℕ → List ℕ
section_bytes rows = length rows ∷ rows_bytes rows

-- the file of a card: its length and its three sections
abbrev pub file_of : Card → List ℕ
file_of k = k.len ∷ (section_bytes k.group ++ (section_bytes k.transform ++ section_bytes k.coset))

-- the answer of writing a file into memory of some length, and the memory after it
abbrev pub wrote : List ℕ → ℕ → Result ℕ Refusal
wrote file n = cond (nat_lt n (length file)) (Err OutputShort) (Ok (length file))

abbrev pub overwritten : List ℕ → List ℕ → List ℕ
overwritten file before = cond (nat_lt (length before) (length file)) before (file ++ drop (length file) before)

-- ---- reading

-- the card of the rows read so far, and the bytes left
pub record Reading : Type 0 where
  pub card : Card
  pub left : List ℕ

-- goes on where there is a value
abbrev pub on_ok : {A B : Type 0} → Result A Refusal → (A → Result B Refusal) → Result B Refusal
on_ok (Ok a) f = f a
on_ok (Err e) f = Err e

-- n rows of a section, each checked as a row added to the card so far
abbrev pub read_rows_lem : Section → ℕ → Card → List ℕ → Result Reading Refusal
read_rows_lem s zero k bs = Ok (record { card = k; left = bs })
read_rows_lem s (suc n) k bs =
    cond (nat_lt (length bs) row_size) (Err BytesEndEarly)
    (on_ok (verdict k s (row_of (take row_size bs))) (λ _. read_rows_lem s n (pushed k s (row_of (take row_size bs))) (drop row_size bs)))

-- a section's count and its rows
abbrev pub read_section_lem : Section → Card → List ℕ → Result Reading Refusal
read_section_lem s k [] = Err BytesEndEarly
read_section_lem s k (n ∷ bs) = cond (nat_le n max_section_rows) (read_rows_lem s n k bs) (Err (SectionFull s))

-- the length and the three sections: the rows are added, in their order, to a card just started
abbrev pub read_sections_lem : List ℕ → Result Reading Refusal
read_sections_lem [] = Err BytesEndEarly
read_sections_lem (n ∷ bs) =
    cond (nat_le 1 n && nat_le n max_places)
    (on_ok (read_section_lem Group (blank n) bs) (λ g. on_ok (read_section_lem Transform g.card g.left) (λ t. read_section_lem Coset t.card t.left)))
    (Err LengthOutOfRange)

abbrev pub is_none : List ℕ → Bool
is_none [] = true
is_none (b ∷ bs) = false

abbrev pub none_left : Reading → Result Card Refusal
none_left r = cond (is_none r.left) (Ok r.card) (Err BytesLeftOver)

-- what a file is read as
abbrev pub read_card_lem : List ℕ → Result Card Refusal
read_card_lem bytes = on_ok (read_sections_lem bytes) none_left

-- the answer of reading into a card, and the card after it
abbrev pub noted : Result Card Refusal → Result (Unit {0}) Refusal
noted (Ok _) = Ok tt
noted (Err e) = Err e

abbrev pub refilled : Result Card Refusal → Card → Card
refilled (Ok k) old = k
refilled (Err _) old = old
