use Rattle.std.proofs.Common.{◌≡◌, ◌^◌, ℤ, pos, ◌+ℤ◌, ◌*ℤ◌, rules, arith}
use Rattle.std.proofs.lemmas.Int.{ints}
use Rattle.reading.proofs.two_head.TwoHead.plus.Goals as goal

sums-weigh : (a b c d : ℤ) → ((a +ℤ c) *ℤ pos (2 ^ 32)) +ℤ (b +ℤ d) ≡ ((a *ℤ pos (2 ^ 32)) +ℤ b) +ℤ ((c *ℤ pos (2 ^ 32)) +ℤ d)
sums-weigh a b c d = omega (arith, ints)

pub returns-clause-weighs : goal.returns-clause-weighs
returns-clause-weighs c = search (rules, sums-weigh)
