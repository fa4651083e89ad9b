use Rattle.std.proofs.Common.{◌≡◌, ◌+◌}
use Rattle.code.specs.Words.{Top}
use Rattle.hadamard.specs.Transform.{weight_at}
use Rattle.finder.proofs.plain.first_largest.Given as goal

abbrev pub invariant-loop-i : goal.invariant-loop-i
invariant-loop-i g l =
    record {
      top : Top (weight_at g.R.Reading.weight l.list) (l.i + 1) l.best.message;
      weighs : g.R.Reading.weight l.best.reading ≡ weight_at g.R.Reading.weight l.list l.best.message;
    }
