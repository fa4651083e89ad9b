-- What a layer is, by what the finder below it is.
use Rattle.finder.specs.Search.{Meaning}
use Rattle.coset_layer.specs.declared.CosetLayer.{CosetLayer}
use Rattle.coset_layer.specs.Pile.{piled}

-- what a layer means, by what the finder below means
abbrev pub layer_meaning : {F : Type 0} → (F → Meaning) → CosetLayer F → Meaning
layer_meaning meaning s = piled (meaning s.below) s.own
