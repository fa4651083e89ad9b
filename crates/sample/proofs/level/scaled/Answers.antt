use Rattle.std.proofs.Common.{◌≤◌, ℤ, nat_abs, sym, ap, ◌∙◌, subst, arith, w32}
use lib.Ieee.{Float, to_signed, mul, binary32, fits}
use mir.ValLaws.{to_z-of_z}
use Rattle.code.specs.Limits.{full_label}
use Rattle.sample.specs.Levels.{in_range, LabelRule}
use Rattle.sample.proofs.Levels.{scaled_cut, scale_is, passes, cut_rule, cut_bound, all_exact}
use Rattle.sample.proofs.level.scaled.Goals as goal

pub returns : goal.returns
returns c =
    let v = c.args.v in
    let r = c.saturating_f32_to_i32.result in
    let fit = passes (fits binary32 v) c.well_formed.0.1 in
    let in' = passes (in_range v) c.requires in
    let is = to_z-of_z w32 r (record { sfits = c.saturating_f32_to_i32.type_inv }) ∙ c.saturating_f32_to_i32.ensures
    ∙ ap (λ (x : Float). to_signed 31 (mul binary32 v x)) scale_is ∙ scaled_cut v 10 (omega arith) fit in' in
    record {
      value = is;
      rule = subst (LabelRule v) (sym is) (cut_rule full_label v in');
      exact = all_exact v fit in';
      bound = subst (λ (z : ℤ). nat_abs z ≤ full_label) (sym is) (cut_bound v in');
    }
