use Rattle.std.proofs.Common.{◌≡◌, cond, sym, ap₂, arith}
use lib.Ieee.{of_bits}
use Rattle.sample.specs.declared.Sample.TheVariants.{Bit, Level}
use Rattle.played.specs.Played.{level_for}
use Rattle.played.proofs.digit_sample.Goals as goal

pub returns-else-digit-eq0 : goal.returns-else-digit-eq0
unfolding of_bits
returns-else-digit-eq0 c =
    let one : c.args.digit ≡ 1 = omega (arith, c.if-digit-eq0.false) in
    sym (ap₂ (λ b d. cond b (Level (level_for d)) (Bit d)) c.if-as_level.true one)
