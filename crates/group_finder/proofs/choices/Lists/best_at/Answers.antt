use Rattle.std.proofs.Common.{◌≡◌, ℕ, ◌+◌, ◌*◌, ◌^◌, ℤ, ◌+ℤ◌, neg_ℤ, sym, ap, ◌∙◌, subst, ap₂, arith}
use Rattle.hadamard.specs.Transform.{weight_at, size_at}
use Rattle.code.specs.Words.{Top}
use Rattle.group_finder.specs.Choices.{BestKept, choice_value}
use Rattle.group_finder.proofs.Parities.{none_best}
use Rattle.group_finder.proofs.GroupRows.{settled}
use Rattle.group_finder.proofs.Sizes.{totalled-ends}
use Rattle.group_finder.proofs.choices.Lists.best_at.Goals as goal

pub add-requires : goal.add-requires
add-requires g c =
    let s = c.args.self.now in
    let e = totalled-ends s.count (λ q. size_at g.R.Reading.size s.readings.now (q * s.span + c.args.t)) in
    omega (arith, s.small c.args.t c.requires, c.at-rest.ensures.sized, c.at-all.ensures.sized)

pub returns-then-self-eq0 : goal.returns-then-self-eq0
returns-then-self-eq0 g c =
    let w = g.R.Reading.weight in
    let s = c.args.self.now in
    let W : ℕ → ℤ = λ q. weight_at w s.readings.now (q * s.span + c.args.t) in
    let z : s.count ≡ 0 = c.if-self-eq0.true in
    let n = none_best W in
    let v : w c.add.result ≡ W 0 +ℤ W (s.count + 1) = c.add.ensures.weighs ∙ ap₂ (λ x y. x +ℤ y) c.at-rest.ensures.weighs c.at-all.ensures.weighs in
    record {
      choice = 0;
      kept = c.of.ensures;
      top = subst (λ (k : ℕ). Top (choice_value W k) (2 ^ k) 0) (sym z) n.0;
      weighs = v ∙ ap (λ (k : ℕ). W 0 +ℤ W (k + 1)) z ∙ sym n.1 ∙ ap (λ (k : ℕ). choice_value W k 0) (sym z);
    }

pub plus_minus-up-requires : goal.plus_minus-up-requires
plus_minus-up-requires g c =
    let s = c.args.self.now in
    let t = totalled-ends s.count (λ q. size_at g.R.Reading.size s.readings.now (q * s.span + c.args.t)) in
    let small = s.small c.args.t c.requires in
    let b = c.at-all.ensures.sized in
    let e = c.by_parity-even.ensures.best.even_small in
    let o = c.by_parity-even.ensures.best.odd_small in
    (omega arith, omega arith)

pub add-requires-2 : goal.add-requires-2
add-requires-2 g c =
    let s = c.args.self.now in
    let t = totalled-ends s.count (λ q. size_at g.R.Reading.size s.readings.now (q * s.span + c.args.t)) in
    let small = s.small c.args.t c.requires in
    let a = c.at-rest.ensures.sized in
    let b = c.at-all.ensures.sized in
    let e = c.by_parity-even.ensures.best.even_small in
    let o = c.by_parity-even.ensures.best.odd_small in
    let u = c.plus_minus-up.ensures.sum_size in
    let d = c.plus_minus-up.ensures.difference_size in
    let h = c.better-best.ensures.sized in
    omega arith

pub returns : goal.returns
returns g c =
    let w = g.R.Reading.weight in
    let z = g.R.Reading.size in
    let s = c.args.self.now in
    let W : ℕ → ℤ = λ q. weight_at w s.readings.now (q * s.span + c.args.t) in
    let p = c.by_parity-even.result in
    let up = w c.plus_minus-up.result.0 in
    let down = w c.plus_minus-up.result.1 in
    let b = c.better-best.result in
    let v = c.better-best.ensures in
    let x = w b.reading in
    subst (λ y. BestKept g.M.Message.keeps (choice_value W s.count) (2 ^ s.count) b.message y) (sym (c.add-2.ensures.weighs ∙ ap (λ y. y +ℤ x) c.at-rest.ensures.weighs))
    (settled g.M.Message.keeps g.R.Reading W (λ i. size_at z s.readings.now ((i + 1) * s.span + c.args.t)) s.count p.0.message p.0.reading p.1.message p.1.reading c.by_parity-even.ensures up down
    (c.plus_minus-up.ensures.sum ∙ ap (λ y. w p.0.reading +ℤ y) c.at-all.ensures.weighs) (c.plus_minus-up.ensures.difference ∙ ap (λ y. w p.1.reading +ℤ neg_ℤ y) c.at-all.ensures.weighs)
    b.message x
    (λ h. (sym (ap (λ r. r.message) (v.second h)), ap (λ r. w r.reading) (v.second h)))
    (λ h. (sym (ap (λ r. r.message) (v.first h)), ap (λ r. w r.reading) (v.first h)))
    v.tie v.smaller)
