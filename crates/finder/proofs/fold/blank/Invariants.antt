use Rattle.std.proofs.Common.{◌≡◌, ℕ, ◌<◌, take, pos, sum_by}
use Rattle.hadamard.specs.Transform.{weight_at}
use Rattle.finder.proofs.fold.blank.Given as goal

abbrev pub invariant-loop-x : goal.invariant-loop-x
invariant-loop-x g l = ((k : ℕ) → k < l.x-index → weight_at g.R.Reading.weight l.list k ≡ pos 0) × (sum_by g.R.Reading.size (take l.x-index l.list) ≡ 0)
