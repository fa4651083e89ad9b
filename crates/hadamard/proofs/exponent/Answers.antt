use Rattle.std.proofs.Common.{◌≡◌, arith}
use lib.Count.{ones}
use Rattle.std.proofs.lemmas.Bool.Decides.{nat_tests}
use Rattle.hadamard.proofs.Powers.{lone_power, ones-pow, trailing-pow}
use Rattle.hadamard.proofs.exponent.Goals as goal
use Rattle.hadamard.proofs.exponent.Goals.{else-is_power_of_two-via-then-is_power_of_two+else-t-le-MAX_EXPONENT, else-is_power_of_two-via-else-is_power_of_two}

pub returns-then-t-le-MAX_EXPONENT : goal.returns-then-t-le-MAX_EXPONENT
returns-then-t-le-MAX_EXPONENT c =
    let one : ones c.args.n ≡ 1 = grind (arith, nat_tests) in
    (omega arith, lone_power c.args.n (omega arith) one)

pub returns-else-is_power_of_two : goal.returns-else-is_power_of_two
returns-else-is_power_of_two c = λ t l e.
    let one = ones-pow c.args.n t e in
    let is = trailing-pow c.args.n t (omega arith) e in
    elim c.else-is_power_of_two.branch [
      | else-is_power_of_two-via-then-is_power_of_two+else-t-le-MAX_EXPONENT w ↦ omega arith
      | else-is_power_of_two-via-else-is_power_of_two w ↦ grind (arith, nat_tests)
    ]
