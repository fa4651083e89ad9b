-- A value of one of two types.
use Rattle.finder.specs.declared.either.Either.{Either}
use Rattle.finder.specs.declared.either.Either.TheVariants.{First, Second}

-- what a function of each side gives
abbrev pub of_side : {A B X : Type 0} → (A → X) → (B → X) → Either A B → X
of_side f g (First a) = f a
of_side f g (Second b) = g b
