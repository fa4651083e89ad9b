use Rattle.std.proofs.Common.{◌≡◌, ℕ, ◌<◌, get_or, drop}
use Rattle.sample.specs.declared.Sample.{Sample}
use Rattle.sample.specs.Samples.{first_fault, Good}
use Rattle.sample.proofs.first_bad.Given as goal

abbrev pub invariant-loop-place : goal.invariant-loop-place
invariant-loop-place l = (first_fault l.place (drop l.place l.samples) ≡ first_fault 0 l.samples) × ((k : ℕ) (x : Sample) → k < l.place → Good (get_or l.samples k x))
