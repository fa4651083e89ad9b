use Rattle.std.proofs.Common.{◌≡◌, rules}
use Rattle.strip.specs.Strips.{by_card}
use Rattle.strip.specs.Finders.{finder_of}
use Rattle.strip.proofs.finders.CardFinders.run.Goals as goal

pub returns-clause-law : goal.returns-clause-law
returns-clause-law g c = λ k of.
    c.run_over_by.ensures.law (by_card k) (λ n r p. let e : r.now ≡ finder_of c.args.self.now n.now = search rules in rw e (of n.now))
