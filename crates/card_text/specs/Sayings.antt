-- What a text says line by line, and what a card is described by.
use Rattle.std.specs.Prelude.{ℕ, ◌+◌, cond, List, [], ◌∷◌, ◌++◌, map, take, drop, Some, None, Option}
use Rattle.code.specs.declared.refusal.Section.{Section}
use Rattle.code.specs.declared.refusal.Section.TheVariants.{Group, Transform, Coset}
use Rattle.card.specs.Cards.{Card}
use Rattle.card_text.specs.declared.line.Keyword.{Keyword}
use Rattle.card_text.specs.declared.line.Keyword.TheVariants.{Length, Row, Unknown}
use Rattle.card_text.specs.Lines.{decimal_of_lem, keyword_of_lem, lines_of, passed_over, row_of, trimmed, word_length_lem}

-- a length, or a row of a section
pub data Saying : Type 0 where
  length_is : ℕ → Saying
  row_is : Section → ℕ → Saying

abbrev pub length_said : Option ℕ → List Saying
length_said (Some n) = length_is n ∷ []
length_said None = []

abbrev pub said : Keyword → List ℕ → List Saying
said Length rest = length_said (decimal_of_lem rest)
said (Row s) rest = row_is s (row_of rest) ∷ []
said Unknown rest = []

-- a line that is passed over says nothing
abbrev pub line_says : List ℕ → List Saying
line_says line = cond (passed_over line) [] (said (keyword_of_lem (take (word_length_lem line) line)) (drop (word_length_lem line + 1) line))

abbrev pub lines_say : List (List ℕ) → List Saying
lines_say [] = []
lines_say (line ∷ lines) = line_says (trimmed line) ++ lines_say lines

-- what a text says, in the order of its lines
abbrev pub text_says : List ℕ → List Saying
text_says bytes = lines_say (lines_of bytes)

-- what a card is described by: its length, and then its rows in their order
abbrev pub card_says : Card → List Saying
card_says k = length_is k.len ∷ (map (row_is Group) k.group ++ (map (row_is Transform) k.transform ++ map (row_is Coset) k.coset))
