-- Cards whose state is known only when the program runs.
use Rattle.std.specs.Prelude.{Some, None, Option}
use Rattle.code.specs.declared.refusal.Section.{Section}
use Rattle.code.specs.declared.refusal.Section.TheVariants.{Group, Transform, Coset}
use Rattle.card.specs.declared.open.OpenCard.{OpenCard}
use Rattle.card.specs.declared.open.OpenCard.TheVariants.{InGroup, InTransform, InCoset}
use Rattle.card.specs.declared.open.AnyCard.{AnyCard}
use Rattle.card.specs.declared.open.AnyCard.TheVariants.{Open, Finished}
use Rattle.card.specs.Cards.{Card}

-- the card, whatever its state
abbrev pub shown : OpenCard → Card
shown (InGroup k) = k
shown (InTransform k) = k
shown (InCoset k) = k

-- the section that is open
abbrev pub open_of : OpenCard → Section
open_of (InGroup k) = Group
open_of (InTransform k) = Transform
open_of (InCoset k) = Coset

-- the section that is open after one is closed; after the coset section none is
abbrev pub section_after : Section → Option Section
section_after Group = Some Transform
section_after Transform = Some Coset
section_after Coset = None

abbrev pub card_in : AnyCard → Card
card_in (Open k) = shown k
card_in (Finished k) = k

-- the section that is open; of a finished card none is
abbrev pub open_in : AnyCard → Option Section
open_in (Open k) = Some (open_of k)
open_in (Finished k) = None
