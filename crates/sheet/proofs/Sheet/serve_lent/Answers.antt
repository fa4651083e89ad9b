use Rattle.std.proofs.Common.{rules}
use Rattle.sheet.proofs.Sheet.serve_lent.Goals as goal

pub returns : goal.returns
returns g c = c.serve_by.ensures.law g.F.Finder.meaning (λ n r p. search rules)
