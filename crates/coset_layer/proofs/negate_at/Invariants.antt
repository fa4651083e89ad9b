use Rattle.std.proofs.Common.{◌≡◌, ◌++◌, take, drop}
use Rattle.coset_layer.specs.Pile.{opposite_at}
use Rattle.coset_layer.proofs.negate_at.Given as goal

-- what is done, and what is left of the word as it came
abbrev pub invariant-loop-x : goal.invariant-loop-x
invariant-loop-x g l =
    let op = g.R.Reading.opposite in
    (drop l.x-index l.word ≡ drop l.x-index l.initial.word)
    × (take l.x-index l.word ++ opposite_at op (drop l.x-index l.word) l.rest ≡ opposite_at op l.initial.word l.initial.rest)
