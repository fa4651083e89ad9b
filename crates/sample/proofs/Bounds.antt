-- The labels of a good sample are at most full level.
use Rattle.std.proofs.Common.{◌≤◌, Bool, true, false, cond, eqb, pos, neg_ℤ, nat_abs, arith}
use Rattle.code.specs.Limits.{full_label}
use Rattle.sample.specs.declared.Sample.{Sample}
use Rattle.sample.specs.declared.Sample.TheVariants.{Bit, Level, Pair, Dropout}
use Rattle.sample.specs.Samples.{Good, main_label, second_label}
use Rattle.sample.proofs.Levels.{cut_bound, passes}

pub main_bound : (x : Sample) → Good x → nat_abs (main_label x) ≤ full_label
main_bound (Bit b) g = go (eqb b 0)
  where
    go : (t : Bool) → nat_abs (cond t (pos full_label) (neg_ℤ (pos full_label))) ≤ full_label
    go true = omega arith
    go false = omega arith
main_bound (Level v) g = cut_bound v (passes _ g)
main_bound (Pair p) g = cut_bound p.main (passes _ g.0)
main_bound Dropout g = omega arith

pub second_bound : (x : Sample) → Good x → nat_abs (second_label x) ≤ full_label
second_bound (Bit b) g = omega arith
second_bound (Level v) g = omega arith
second_bound (Pair p) g = cut_bound p.second (passes _ g.1)
second_bound Dropout g = omega arith
