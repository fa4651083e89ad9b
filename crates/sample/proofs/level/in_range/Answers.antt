use Rattle.sample.proofs.Levels.{tested}
use Rattle.sample.proofs.level.in_range.Goals as goal

pub returns : goal.returns
returns c = tested c.args.v c.abs.result c.well_formed.0.1 c.abs.ensures.value
