-- The card that the lines of a text describe.
use Rattle.std.specs.Prelude.{ℕ, ◌+◌, ◌-◌, cond, ◌&&◌, List, [], ◌∷◌, take, drop, Some, None, Ok, Err, Option, Result, nat_le, nat_lt}
use Rattle.code.specs.declared.refusal.Section.{Section}
use Rattle.code.specs.declared.refusal.Section.TheVariants.{Group, Transform, Coset}
use Rattle.code.specs.declared.refusal.Refusal.{Refusal}
use Rattle.code.specs.declared.refusal.Refusal.TheVariants.{LengthOutOfRange}
use Rattle.code.specs.Limits.{max_places}
use Rattle.card.specs.Cards.{Card, blank, pushed, verdict}
use Rattle.card.specs.declared.open.OpenCard.{OpenCard}
use Rattle.card.specs.OpenCards.{open_of, shown}
use Rattle.card_text.specs.declared.fault.Problem.{Problem}
use Rattle.card_text.specs.declared.fault.Problem.TheVariants.{UnknownKeyword, LengthMissing, LengthAgain, LengthNotDecimal, SectionClosed, Refused}
use Rattle.card_text.specs.declared.fault.TextFault.{TextFault}
use Rattle.card_text.specs.declared.line.Keyword.{Keyword}
use Rattle.card_text.specs.declared.line.Keyword.TheVariants.{Length, Row, Unknown}
use Rattle.card_text.specs.Lines.{decimal_of_lem, keyword_of_lem, lines_of, passed_over, row_read, trimmed, word_length_lem}

-- what lines have said so far: nothing, or the number of places, the section that is open, and the card
pub data Stage : Type 0 where
  unset : Stage
  taking : (n : ℕ) (s : Section) (k : Card) → Stage

-- goes on where there is a value
abbrev pub on_ok : {A B E : Type 0} → Result A E → (A → Result B E) → Result B E
on_ok (Ok a) f = f a
on_ok (Err e) f = Err e

-- ---- a line that gives the length

abbrev pub started : Option ℕ → Result Stage Problem
started None = Err LengthNotDecimal
started (Some n) = cond (nat_le 1 n && nat_le n max_places) (Ok (taking n Group (blank n))) (Err (Refused LengthOutOfRange))

abbrev pub length_read : Stage → List ℕ → Result Stage Problem
length_read unset digits = started (decimal_of_lem digits)
length_read (taking n s k) digits = Err LengthAgain

-- ---- a line that gives a row

-- the place of a section in their order
abbrev pub rank : Section → ℕ
rank Group = 0
rank Transform = 1
rank Coset = 2

-- the section s where section o is open: it is closed once a later one is open
abbrev pub reopened : (o s : Section) → Result Section Problem
reopened o s = cond (nat_lt (rank s) (rank o)) (Err (SectionClosed s)) (Ok s)

-- the stage after a row was handed to section s of the card, with that verdict
abbrev pub told : Result (Unit {0}) Refusal → ℕ → Section → Card → ℕ → Result Stage Problem
told (Ok _) n s k row = Ok (taking n s (pushed k s row))
told (Err e) n s k row = Err (Refused e)

-- a row is read if its section is not closed, and then handed to the card
abbrev pub row_added : Section → Stage → List ℕ → Result Stage Problem
row_added s unset digits = Err LengthMissing
row_added s (taking n o k) digits =
    on_ok (reopened o s) (λ _. on_ok (row_read n s digits) (λ row. told (verdict k s row) n s k row))

-- ---- a line, and all lines

abbrev pub entry_read : Keyword → Stage → List ℕ → Result Stage Problem
entry_read Length d rest = length_read d rest
entry_read (Row s) d rest = row_added s d rest
entry_read Unknown d rest = Err UnknownKeyword

-- a line is passed over, or is a word and what follows the space after it
abbrev pub line_read : Stage → List ℕ → Result Stage Problem
line_read d line =
    cond (passed_over line) (Ok d)
    (entry_read (keyword_of_lem (take (word_length_lem line) line)) d (drop (word_length_lem line + 1) line))

-- the problem with the number of its line
abbrev pub in_line : {A : Type 0} → ℕ → Result A Problem → Result A TextFault
in_line i (Ok a) = Ok a
in_line i (Err p) = Err (record { line = i; problem = p })

abbrev pub finished : Stage → Result Card Problem
finished unset = Err LengthMissing
finished (taking n s k) = Ok k

-- the lines from number i on, one after the other; a fault at the end is one of the last line
abbrev pub lines_read : Stage → ℕ → List (List ℕ) → Result Card TextFault
lines_read d i [] = in_line (i - 1) (finished d)
lines_read d i (line ∷ lines) = on_ok (in_line i (line_read d (trimmed line))) (λ e. lines_read e (i + 1) lines)

-- what a text is read as
abbrev pub read_text_lem : List ℕ → Result Card TextFault
read_text_lem bytes = lines_read unset 1 (lines_of bytes)

-- the answer of reading into a card, and the card after it
abbrev pub noted : Result Card TextFault → Result (Unit {0}) TextFault
noted (Ok _) = Ok tt
noted (Err e) = Err e

abbrev pub refilled : Result Card TextFault → Card → Card
refilled (Ok k) old = k
refilled (Err _) old = old

-- ---- what a length and a card in the making stand for

abbrev pub stage_of : Option (ℕ × OpenCard) → Stage
stage_of None = unset
stage_of (Some (n, k)) = taking n (open_of k) (shown k)
