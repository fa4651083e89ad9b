use Rattle.std.proofs.Common.{inl}
use Rattle.std.proofs.lemmas.Result.{MatchResult-weaker}
use Rattle.strip.proofs.ByFile.{read_gives}
use Rattle.strip.proofs.read_and_run.Goals as goal

pub returns-clause-law : goal.returns-clause-law
returns-clause-law g c =
    let read = c.in_ok-read.ensures in
    MatchResult-weaker c.run_with.result c.run_with.ensures.law
    (λ count run. record {
      card = _;
      read = read_gives _ _ _ read.answer read.card;
      sheet = run;
    })
    (λ e short. inl short)
