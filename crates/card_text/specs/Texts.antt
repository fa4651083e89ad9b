-- The text of a card.
use Rattle.std.specs.Prelude.{ℕ, zero, suc, ◌+◌, ◌/◌, ◌%◌, cond, List, [], ◌∷◌, ◌++◌, length, take, drop, codes, nat_lt}
use Rattle.code.specs.declared.refusal.Section.{Section}
use Rattle.code.specs.declared.refusal.Section.TheVariants.{Group, Transform, Coset}
use Rattle.card.specs.Cards.{Card}

-- the word of a section, and a space
abbrev pub label_of : Section → List ℕ
label_of Group = codes "group "
label_of Transform = codes "transform "
label_of Coset = codes "coset "

-- the first n digits of a row, place 0 first
abbrev pub digits_of : ℕ → ℕ → List ℕ
digits_of zero row = []
digits_of (suc n) row = (48 + row % 2) ∷ digits_of n (row / 2)

abbrev pub row_line : Section → ℕ → ℕ → List ℕ
row_line s n row = label_of s ++ (digits_of n row ++ 10 ∷ [])

-- a line for each row of a section
abbrev pub section_text : Section → ℕ → List ℕ → List ℕ
section_text s n [] = []
section_text s n (r ∷ rs) = row_line s n r ++ section_text s n rs

-- a number below 100 in decimal digits
abbrev pub decimal_text : ℕ → List ℕ
decimal_text n = cond (nat_lt n 10) ((48 + n) ∷ []) ((48 + n / 10) ∷ (48 + n % 10) ∷ [])

abbrev pub length_line : ℕ → List ℕ
length_line n = codes "length " ++ (decimal_text n ++ 10 ∷ [])

-- the text of a card: its length, and its rows section by section
abbrev pub text_of : Card → List ℕ
text_of k =
    length_line k.len ++ (section_text Group k.len k.group
    ++ (section_text Transform k.len k.transform ++ section_text Coset k.len k.coset))

-- memory with bytes written into it from a place on
abbrev pub over : ℕ → List ℕ → List ℕ → List ℕ
over at bytes old = take at old ++ (bytes ++ drop (at + length bytes) old)
