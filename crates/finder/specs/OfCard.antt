-- Finders that are made of a card.
use Rattle.std.specs.Prelude.{ℕ, ◌^◌, ◌++◌, length}
use Rattle.card.specs.Cards.{Card}
use Rattle.finder.specs.Search.{Meaning}

-- what a finder of the group and transform rows of the card k means, by the need that it has of a card
abbrev pub card_meaning : (Card → ℕ) → Card → Meaning
card_meaning need k = record { span = k.len; rows = k.group ++ k.transform; need = need k }

-- the need of the plain finder of a card
abbrev pub plain_need_of : Card → ℕ
plain_need_of k = 2 ^ length (k.group ++ k.transform)
