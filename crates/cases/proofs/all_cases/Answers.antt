use Rattle.std.proofs.Common.{refl, arith, lit<}
use lib.Count.{ones, ones_in}
use lib.Ieee.{of_bits}
use Rattle.cases.proofs.Tested.{top_tested}
use Rattle.cases.proofs.all_cases.Goals as goal

pub returns : goal.returns
unfolding ones ones_in of_bits
returns c = record {
  proved = record {
    length_64 = (omega arith, omega arith);
    length_0 = λ h. omega (arith, h.0);
    length_65 = λ h. omega (arith, h.1);
    transform_4 = refl;
    label_half = refl;
    label_least = refl;
    label_below_least = refl;
    label_minus_zero = refl;
    row_5 = refl;
    row_9 = refl;
    row_2 = refl;
    finds_4 = (top_tested _ 16 4 (lit< tt) refl, refl);
    finds_0 = (top_tested _ 16 0 (lit< tt) refl, refl);
    finds_1 = (top_tested _ 16 1 (lit< tt) refl, refl);
    two_heads = (top_tested _ 2 1 (lit< tt) refl, refl);
    one_head = (top_tested _ 2 0 (lit< tt) refl, refl);
  };
  count = refl;
}
