use Rattle.std.proofs.Common.{◌≡◌, ℕ, ◌<◌, get_or}
use Rattle.code.specs.Words.{digit}
use Rattle.sample.specs.declared.Sample.{Sample}
use Rattle.played.specs.Played.{played_as}
use Rattle.played.proofs.write_digits.Given as goal

abbrev pub invariant-loop-place : goal.invariant-loop-place
invariant-loop-place l = (k : ℕ) (x : Sample) → k < l.place → get_or l.samples k x ≡ played_as (digit k l.levels) (digit k l.word)
