use Rattle.hadamard.specs.Transform.{weight_at}
use Rattle.group_finder.specs.Choices.{BestBefore}
use Rattle.group_finder.proofs.choices.Lists.best.Given as goal

abbrev pub invariant-loop-t : goal.invariant-loop-t
invariant-loop-t g l = BestBefore g.R.Reading.weight (weight_at g.R.Reading.weight l.self.readings.now) l.self.span l.self.count l.t l.best.message l.best.reading
