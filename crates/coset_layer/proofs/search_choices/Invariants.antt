use Rattle.std.proofs.Common.{◌≡◌, ◌*◌, ◌^◌, ◌++◌, map, length, drop}
use Rattle.code.specs.Words.{Top, agrees}
use Rattle.coset_layer.specs.Pile.{cut_to}
use Rattle.coset_layer.proofs.search_choices.Given as goal

-- the word and the memory beyond the need are as they were, and the best message of the choices so far is known
abbrev pub invariant-loop-choice : goal.invariant-loop-choice
invariant-loop-choice g l =
    let weight = g.R.Reading.weight in
    let rows = (g.F.Finder.meaning l.below).rows in
    let need = (g.F.Finder.meaning l.below).need in
    let all = agrees (rows ++ cut_to (g.F.Finder.meaning l.below).span l.own) (map weight l.initial.word) in
    (l.word ≡ l.initial.word)
    × (drop need l.work ≡ drop need l.initial.work)
    × Top all (l.choice * 2 ^ length rows) l.best.message
    × (weight l.best.reading ≡ all l.best.message)
