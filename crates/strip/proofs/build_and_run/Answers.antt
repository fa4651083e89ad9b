use Rattle.std.proofs.Common.{subst, inl}
use Rattle.std.proofs.lemmas.Result.{MatchResult-weaker}
use Rattle.card.specs.Cards.{Card}
use Rattle.strip.specs.Strips.{CardRun}
use Rattle.strip.proofs.build_and_run.Goals as goal

pub returns-clause-law : goal.returns-clause-law
returns-clause-law g c =
    let a = c.args in
    let built = c.in_ok-card.ensures in
    let last = c.run_with.new in
    MatchResult-weaker c.run_with.result c.run_with.ensures.law
    (λ count run. record {
      card = built.law;
      beyond = built.beyond;
      sheet = subst (λ (k : Card). CardRun g.R.Reading k a.requests.now count a.cells.now last.cells a.work.now last.work a.answers.now last.answers) built.card run;
    })
    (λ e short. inl short)
