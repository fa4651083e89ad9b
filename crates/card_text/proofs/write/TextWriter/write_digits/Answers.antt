use Rattle.std.proofs.Common.{arith}
use Rattle.card_text.proofs.Writings.{digits_length}
use Rattle.card_text.proofs.write.TextWriter.write_digits.Goals as goal

pub slice_bounds-fill_digits-end : goal.slice_bounds-fill_digits-end
slice_bounds-fill_digits-end c = omega (arith, c.requires, digits_length c.args.len c.args.row)
