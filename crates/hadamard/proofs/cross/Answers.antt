use Rattle.std.proofs.Common.{◌≡◌, ◌+◌, ◌++◌, length, sum_by, sym, ap, ◌∙◌, ◌+ℤ◌, neg_ℤ, arith}
use Rattle.hadamard.proofs.Butterflies.{pair_small, halves_step}
use Rattle.hadamard.proofs.cross.Goals as goal

pub butterfly-sum-requires : goal.butterfly-sum-requires
butterfly-sum-requires g c =
    let size = g.R.Reading.size in
    let s = c.split_at_mut-low.ensures in
    let old = c.split_at_mut-low.result.0.now ++ c.split_at_mut-low.result.1.now in
    let long : length old ≡ c.args.half + c.args.half = sym (ap length s.value) ∙ c.requires.long in
    let total = ap (sum_by size) s.value in
    let same = ap size c.index-low-k.is in
    omega (arith, pair_small g.R.Reading c.args.half c.loop-k.k old c.loop-k.low c.loop-k.high (omega arith) (omega arith) (omega arith) c.index-low-k.result c.index-high-k.result c.index-low-k.is c.index-high-k.is c.loop-k.invariant long)

pub loop-k-preserved : goal.loop-k-preserved
loop-k-preserved g c =
    let weight = g.R.Reading.weight in
    let size = g.R.Reading.size in
    let s = c.split_at_mut-low.ensures in
    let b = c.butterfly-sum.ensures in
    let e = sym c.index-low-k.is in
    let w = ap weight e in
    let z = ap size e in
    halves_step g.R.Reading c.args.half c.loop-k.k (c.split_at_mut-low.result.0.now ++ c.split_at_mut-low.result.1.now) c.loop-k.low c.loop-k.high (omega arith) (omega arith) (omega arith) c.index-low-k.result c.index-high-k.result c.index-low-k.is c.index-high-k.is c.loop-k.invariant c.butterfly-sum.result.0 c.butterfly-sum.result.1
    (b.sum ∙ ap (λ u. u +ℤ weight c.index-high-k.result) w)
    (b.difference ∙ ap (λ u. u +ℤ neg_ℤ (weight c.index-high-k.result)) w)
    (omega (arith, b.sum_size)) (omega (arith, b.difference_size))
