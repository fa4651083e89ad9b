use Rattle.std.proofs.Common.{◌≡◌, ℕ, ◌+◌, ◌-◌, ◌*◌, ◌/◌, ◌^◌, ◌≤◌, length, sum_by, sym, ap, ◌∙◌, subst, mul_assoc, mul-le-mul_left, arith, pow_pos}
use Rattle.hadamard.specs.Stages.{Blocked, block}
use Rattle.hadamard.proofs.Powers.{halved}
use Rattle.hadamard.proofs.Blocks.{stride, blocked_start, blocked_end}
use Rattle.hadamard.proofs.stages.Goals as goal

pub loop-init : goal.loop-init
loop-init g c =
    let z : c.args.t ≡ c.args.t - 0 = omega arith in
    (c.requires.long ∙ ap (λ k. 2 ^ k) z, omega arith, blocked_start g.R.Reading c.args.list.now)

pub stage-requires : goal.stage-requires
stage-requires g c =
    let h = c.loop.half / 2 in
    let half = halved c.loop.half (c.args.t - c.loop.counter) c.loop.invariant.0 (λ e. omega arith) in
    record {
      long = c.loop.invariant.1 ∙ ap (λ m. c.loop.blocks * m) half.0;
      small = λ b l.
          let e = ap (λ m. sum_by g.R.Reading.size (block m b c.loop.list)) half.0 in
          omega (arith, c.loop.invariant.2.small b l);
    }

pub overflow_mul-blocks : goal.overflow_mul-blocks
overflow_mul-blocks g c =
    let half = halved c.loop.half (c.args.t - c.loop.counter) c.loop.invariant.0 (λ e. omega arith) in
    let two : 2 ≤ c.loop.half = omega (arith, pow_pos (c.args.t - c.loop.counter - 1)) in
    omega (arith, mul-le-mul_left c.loop.blocks two, c.loop.invariant.1)

pub loop-preserved : goal.loop-preserved
loop-preserved g c =
    let weight = g.R.Reading.weight in
    let size = g.R.Reading.size in
    let old = c.args.list.now in
    let cur = c.loop.list in
    let n = c.loop.blocks in
    let h = c.loop.half / 2 in
    let half = halved c.loop.half (c.args.t - c.loop.counter) c.loop.invariant.0 (λ e. omega arith) in
    let long : length cur ≡ n * (h + h) = c.loop.invariant.1 ∙ ap (λ m. n * m) half.0 in
    let inv = subst (λ (m : ℕ). Blocked g.R.Reading m n old cur) half.0 c.loop.invariant.2 in
    let less : c.args.t - c.loop.counter - 1 ≡ c.args.t - (c.loop.counter + 1) = omega arith in
    let two : h + h ≡ 2 * h = omega arith in (
      half.1 ∙ ap (λ k. 2 ^ k) less,
      c.stage.auto.list ∙ long ∙ ap (λ m. n * m) two ∙ sym (mul_assoc n 2 h),
      stride g.R.Reading (c.args.t - c.loop.counter - 1) h n old cur c.stage.new.list half.1 long c.stage.auto.list inv c.stage.ensures,
    )

pub returns : goal.returns
returns g c =
    let weight = g.R.Reading.weight in
    let size = g.R.Reading.size in
    let old = c.args.list.now in
    let cur = c.loop.list in
    let n = c.loop.blocks in
    let z : c.args.t - c.loop.counter ≡ 0 = omega arith in
    let one : c.loop.half ≡ 1 = c.loop.invariant.0 ∙ ap (λ k. 2 ^ k) z in
    let long : length old ≡ n = sym c.loop.auto.list ∙ c.loop.invariant.1 ∙ ap (λ m. n * m) one ∙ omega arith in
    blocked_end g.R.Reading n old cur long c.loop.auto.list (subst (λ (m : ℕ). Blocked g.R.Reading m n old cur) one c.loop.invariant.2)
