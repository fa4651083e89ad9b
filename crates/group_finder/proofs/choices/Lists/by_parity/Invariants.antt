use Rattle.std.proofs.Common.{◌+◌, ◌*◌}
use Rattle.hadamard.specs.Transform.{weight_at, size_at}
use Rattle.group_finder.specs.Choices.{KeptByParity}
use Rattle.group_finder.proofs.choices.Lists.by_parity.Given as goal

abbrev pub invariant-loop-j : goal.invariant-loop-j
invariant-loop-j g l =
    KeptByParity g.M.Message.keeps g.R.Reading
    (λ i. weight_at g.R.Reading.weight l.self.readings.now ((i + 1) * l.self.span + l.t)) (λ i. size_at g.R.Reading.size l.self.readings.now ((i + 1) * l.self.span + l.t))
    l.j l.even.message l.even.reading l.odd.message l.odd.reading
