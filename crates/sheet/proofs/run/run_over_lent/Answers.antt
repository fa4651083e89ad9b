use Rattle.std.proofs.Common.{rules}
use Rattle.sheet.proofs.run.run_over_lent.Goals as goal

pub returns-clause-law : goal.returns-clause-law
returns-clause-law g c = c.run_over_by.ensures.law g.F.Finder.meaning (λ n r p. search rules)
