-- What stands in a line of a card's text.
use Rattle.std.specs.Prelude.{ℕ, suc, ◌+◌, ◌-◌, ◌*◌, ◌%◌, Bool, true, cond, ◌&&◌, List, [], ◌∷◌, length, take, Some, None, Ok, Err, codes, Option, Result, ◌==◌, nat_le, slice_index}
use Rattle.std.specs.List.{slice_split}
use Rattle.std.specs.Str.{bytes_eq}
use Rattle.code.specs.declared.refusal.Section.{Section}
use Rattle.code.specs.declared.refusal.Section.TheVariants.{Group, Transform, Coset}
use Rattle.card_text.specs.declared.fault.Problem.{Problem}
use Rattle.card_text.specs.declared.fault.Problem.TheVariants.{DigitCount, NotBinary}
use Rattle.card_text.specs.declared.line.Keyword.{Keyword}
use Rattle.card_text.specs.declared.line.Keyword.TheVariants.{Length, Row, Unknown}

-- ---- lines

-- the lines of a text: the pieces between its bytes 10
abbrev pub lines_of : List ℕ → List (List ℕ)
lines_of bytes = slice_split (λ b. b == 10) bytes

-- the line without a carriage return at its end
abbrev pub trimmed : List ℕ → List ℕ
trimmed line = cond (slice_index line (length line - 1) == 13) (take (length line - 1) line) line

-- the line is empty or begins with #
abbrev pub passed_over : List ℕ → Bool
passed_over [] = true
passed_over (b ∷ bs) = b == 35

-- ---- words

-- how many bytes stand before the first space
abbrev pub word_length_lem : List ℕ → ℕ
word_length_lem [] = 0
word_length_lem (b ∷ bs) = cond (b == 32) 0 (suc (word_length_lem bs))

-- what a line's first word says of it
abbrev pub keyword_of_lem : List ℕ → Keyword
keyword_of_lem word =
    cond (bytes_eq word (codes "length")) Length
    (cond (bytes_eq word (codes "group")) (Row Group)
    (cond (bytes_eq word (codes "transform")) (Row Transform)
    (cond (bytes_eq word (codes "coset")) (Row Coset) Unknown)))

-- ---- a length

abbrev pub is_decimal_lem : ℕ → Bool
is_decimal_lem b = nat_le 48 b && nat_le b 57

-- the number that one or two decimal digits are
abbrev pub decimal_of_lem : List ℕ → Option ℕ
decimal_of_lem [] = None
decimal_of_lem (a ∷ []) = cond (is_decimal_lem a) (Some (a - 48)) None
decimal_of_lem (a ∷ b ∷ []) = cond (is_decimal_lem a && is_decimal_lem b) (Some (10 * (a - 48) + (b - 48))) None
decimal_of_lem (a ∷ b ∷ c ∷ cs) = None

-- ---- a row

abbrev pub is_binary_lem : ℕ → Bool
is_binary_lem b = nat_le 48 b && nat_le b 49

-- the first place, counted from i, whose digit is neither 0 nor 1
abbrev pub first_odd_lem : ℕ → List ℕ → Option ℕ
first_odd_lem i [] = None
first_odd_lem i (d ∷ ds) = cond (is_binary_lem d) (first_odd_lem (i + 1) ds) (Some i)

-- the row with those digits, place 0 first
abbrev pub row_of : List ℕ → ℕ
row_of [] = 0
row_of (d ∷ ds) = d % 2 + 2 * row_of ds

abbrev pub binary_row : Section → Option ℕ → List ℕ → Result ℕ Problem
binary_row s (Some place) ds = Err (NotBinary s place)
binary_row s None ds = Ok (row_of ds)

-- the row of a section that the digits are, where the words have n places
abbrev pub row_read : ℕ → Section → List ℕ → Result ℕ Problem
row_read n s ds = cond (length ds == n) (binary_row s (first_odd_lem 0 ds) ds) (Err (DigitCount s (length ds) n))
