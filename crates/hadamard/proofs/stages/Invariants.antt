use Rattle.std.proofs.Common.{◌≡◌, ◌-◌, ◌*◌, ◌^◌, length}
use Rattle.hadamard.specs.Stages.{Blocked}
use Rattle.hadamard.proofs.stages.Given as goal

abbrev pub invariant-loop : goal.invariant-loop
invariant-loop g l = (l.half ≡ 2 ^ (l.t - l.counter)) × (length l.list ≡ l.blocks * l.half) × Blocked g.R.Reading l.half l.blocks l.initial.list l.list
