use Rattle.std.proofs.Common.{◌≡◌, ℕ, ◌+◌, ◌*◌, ◌%◌, ◌^◌, ◌<◌, sym, ◌∙◌, subst, ap₂, arith}
use Rattle.std.proofs.lemmas.Nat.{shl_whole}
use Rattle.hadamard.specs.Transform.{weight_at}
use Rattle.finder.proofs.Picks.{less, not_less}
use Rattle.group_finder.specs.Choices.{BestBefore}
use Rattle.group_finder.proofs.Over.{keeps_best, takes_best}
use Rattle.group_finder.proofs.choices.Lists.or_better_at.Goals as goal

pub returns-then-not-below : goal.returns-then-not-below
returns-then-not-below g c = λ best.
    let w = g.R.Reading.weight in
    let s = c.args.self.now in
    let x = c.args.best.reading in
    let v = c.best_at-weight.ensures in
    let y = w c.best_at-weight.result.reading in
    keeps_best w (weight_at w s.readings.now) s.span s.count c.args.t c.args.best.message x best v.choice y v.top v.weighs (not_less (w x) y (sym c.below.ensures ∙ c.if-not-below.true))

pub returns : goal.returns
returns g c = λ best.
    let w = g.R.Reading.weight in
    let s = c.args.self.now in
    let J = s.count in
    let t = c.args.t in
    let x = c.args.best.reading in
    let v = c.best_at-weight.ensures in
    let y = w c.best_at-weight.result.reading in
    let u = c.best_at-found.ensures in
    let r = c.best_at-found.result.reading in
    let f0 = s.few.0 in
    let f2 = s.few.2 in
    let low = c.requires in
    let tb : t < 2 ^ 16 = omega arith in
    let sh : (t * 2 ^ J) % 2 ^ 32 ≡ t * 2 ^ J = shl_whole t 16 J 32 tb (omega arith) in
    let em : u.choice + t * 2 ^ J ≡ c.best_at-found.result.message + (t * 2 ^ J) % 2 ^ 32 = ap₂ (λ (k l : ℕ). k + l) u.kept (sym sh) in
    subst (λ (k : ℕ). BestBefore w (weight_at w s.readings.now) s.span J (t + 1) k r) em
    (takes_best w (weight_at w s.readings.now) s.span J t c.args.best.message x best v.choice y v.top v.weighs (less (w x) y (sym c.below.ensures ∙ c.if-not-below.false)) u.choice r u.top u.weighs)
