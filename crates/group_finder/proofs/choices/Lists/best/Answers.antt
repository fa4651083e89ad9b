use Rattle.std.proofs.Common.{◌≡◌, ℕ, ◌*◌, ◌^◌, ◌∙◌, subst, arith}
use Rattle.hadamard.specs.Transform.{weight_at}
use Rattle.code.specs.Words.{Top}
use Rattle.group_finder.specs.Choices.{BestBefore, group_value}
use Rattle.group_finder.proofs.Over.{over_first}
use Rattle.group_finder.proofs.choices.Lists.best.Goals as goal

pub loop-t-init : goal.loop-t-init
loop-t-init g c =
    let w = g.R.Reading.weight in
    let s = c.args.self.now in
    let f = weight_at w s.readings.now in
    let v = c.best_at-first.ensures in
    let r = over_first f s.span s.count v.choice v.top in
    subst (λ (k : ℕ). BestBefore w f s.span s.count 1 k c.best_at-first.result.reading) v.kept (r.0, v.weighs ∙ r.1)

pub returns : goal.returns
returns g c =
    let s = c.args.self.now in
    let f1 = s.few.1 in
    let e : c.loop-t.t ≡ s.span = omega arith in
    record {
      top = subst (λ (k : ℕ). Top (group_value (weight_at g.R.Reading.weight s.readings.now) s.span s.count) (k * 2 ^ s.count) c.loop-t.best.message) e c.loop-t.invariant.0;
      weighs = c.loop-t.invariant.1;
    }
