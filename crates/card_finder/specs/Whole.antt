-- What the finder of a whole card means.
use Rattle.std.specs.Prelude.{ℕ}
use Rattle.card.specs.Cards.{Card, rows_of}
use Rattle.finder.specs.Search.{Meaning}

-- a finder of all rows of the card k, by the need that its lowest finder has of a card
abbrev pub whole_meaning : (Card → ℕ) → Card → Meaning
whole_meaning need k = record { span = k.len; rows = rows_of k; need = need k }
