use Rattle.std.proofs.Common.{◌≡◌, ◌-◌, length}
use Rattle.card_text.specs.Texts.{digits_of, over}
use Rattle.card_text.proofs.write.fill_digits.Given as goal

abbrev pub invariant-loop-digit : goal.invariant-loop-digit
invariant-loop-digit l =
    let n = length l.initial.digits in
    over l.digit-index (digits_of (n - l.digit-index) l.rest) l.digits ≡ digits_of n l.row
