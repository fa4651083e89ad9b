use Rattle.std.proofs.Common.{◌≡◌, ℕ, ◌-◌, length, ap, ◌∙◌, arith}
use Rattle.card_text.specs.Texts.{digits_of, over}
use Rattle.card_text.proofs.Writings.{digits_length, digits_step, over_all}
use Rattle.card_text.proofs.write.fill_digits.Goals as goal

pub loop-digit-init : goal.loop-digit-init
loop-digit-init c =
    let n = length c.args.digits.now in
    let left : n - 0 ≡ n = omega arith in
    ap (λ (m : ℕ). over 0 (digits_of m c.args.row) c.args.digits.now) left ∙ over_all (digits_of n c.args.row) c.args.digits.now (digits_length n c.args.row)

pub loop-digit-preserved : goal.loop-digit-preserved
loop-digit-preserved c =
    let n = length c.args.digits.now in
    digits_step c.loop-digit.digit-index n c.loop-digit.rest c.loop-digit.digits (digits_of n c.args.row) (omega arith) (omega arith) c.loop-digit.invariant
