-- The two finders of a card.
use Rattle.std.specs.Prelude.{◌≡◌}
use Rattle.card.specs.Cards.{Card}
use Rattle.coset_layer.specs.declared.CosetLayer.{CosetLayer}
use Rattle.finder.specs.Search.{Meaning}
use Rattle.finder.specs.declared.either.Either.{Either}
use Rattle.finder.specs.declared.plain.PlainFinder.{PlainFinder}
use Rattle.group_finder.specs.declared.GroupFinder.{GroupFinder}
use Rattle.strip.specs.declared.Method.{Method}
use Rattle.strip.specs.declared.Method.TheVariants.{Plain, Group}
use Rattle.strip.specs.declared.finders.CardFinders.{CardFinders}
use Rattle.strip.specs.Strips.{by_card}

-- a finder of a card
abbrev pub CardFinder : Type 0
CardFinder = Either (CosetLayer (CosetLayer PlainFinder)) (CosetLayer (CosetLayer GroupFinder))

-- the finder of each method
abbrev pub finder_of : CardFinders → Method → CardFinder
finder_of f Plain = f.plain
finder_of f Group = f.group

-- each finder means the length and the rows of the card k, and the need of its method
abbrev pub FindersOf : (CardFinder → Meaning) → Card → CardFinders → Type 0
FindersOf meaning k f = (m : Method) → meaning (finder_of f m) ≡ by_card k m
