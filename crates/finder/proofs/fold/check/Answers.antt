use Rattle.std.proofs.Common.{map, sym, ap, ◌∙◌}
use Rattle.std.proofs.lemmas.List.{length-map}
use Rattle.finder.proofs.Refusals.{memory, wrong_length, large_or, first_refusal, memory_short, memory-fits}
use Rattle.finder.proofs.fold.check.Goals as goal

pub returns-then-word-n : goal.returns-then-word-n
returns-then-word-n g c =
    let e = length-map c.args.word.now g.R.Reading.size in
    wrong_length c.args.n c.args.need (map g.R.Reading.size c.args.word.now) c.args.have (λ h. c.if-word-n.true (sym e ∙ h))

pub returns-in-Some : goal.returns-in-Some
returns-in-Some g c =
    first_refusal g.R.Reading.size c.args.word.now c.args.n c.args.need c.args.have c.first_large.result c.if-word-n.false c.first_large.ensures
    ∙ ap (λ o. large_or o (memory c.args.need c.args.have)) c.in-Some.is

pub returns-then-have-need : goal.returns-then-have-need
returns-then-have-need g c =
    first_refusal g.R.Reading.size c.args.word.now c.args.n c.args.need c.args.have c.first_large.result c.if-word-n.false c.first_large.ensures
    ∙ ap (λ o. large_or o (memory c.args.need c.args.have)) c.in_default.is
    ∙ memory_short c.args.need c.args.have c.if-have-need.true

pub returns : goal.returns
returns g c =
    first_refusal g.R.Reading.size c.args.word.now c.args.n c.args.need c.args.have c.first_large.result c.if-word-n.false c.first_large.ensures
    ∙ ap (λ o. large_or o (memory c.args.need c.args.have)) c.in_default.is
    ∙ memory-fits c.args.need c.args.have c.if-have-need.false
