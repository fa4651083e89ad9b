use Rattle.std.proofs.Common.{◌≡◌, ℕ, ◌+◌, ◌*◌, ◌%◌, ◌^◌, ◌≤◌, neg_ℤ, ap, ◌∙◌, subst, arith}
use Rattle.code.specs.Limits.{sum_limit}
use Rattle.hadamard.specs.Transform.{weight_at, size_at}
use Rattle.group_finder.specs.Choices.{KeptByParity}
use Rattle.group_finder.proofs.GroupRows.{parity_step, parity_room, parity_first, bit_is, bit_small}
use Rattle.group_finder.proofs.Sizes.{rows_fit, first_fits}
use Rattle.group_finder.proofs.choices.Lists.by_parity.Goals as goal

pub negate-requires : goal.negate-requires
negate-requires g c =
    let s = c.args.self.now in
    omega (arith, first_fits s.count (λ q. size_at g.R.Reading.size s.readings.now (q * s.span + c.args.t)) sum_limit (s.small c.args.t c.requires.1) c.requires.0, c.at-first.ensures.sized)

pub loop-j-init : goal.loop-j-init
loop-j-init g c =
    let w = g.R.Reading.weight in
    let z = g.R.Reading.size in
    let s = c.args.self.now in
    let x = c.at-first.result in
    let f = first_fits s.count (λ q. size_at z s.readings.now (q * s.span + c.args.t)) sum_limit (s.small c.args.t c.requires.1) c.requires.0 in
    let wx = c.at-first.ensures.weighs in
    let zx = c.at-first.ensures.sized in
    let small : z x ≤ sum_limit = omega arith in
    let n = c.negate.ensures in
    record {
      even_choice = 0;
      odd_choice = 1;
      even_kept = c.of.ensures;
      odd_kept = c.of-2.ensures;
      best = parity_first g.R.Reading (λ i. weight_at w s.readings.now ((i + 1) * s.span + c.args.t)) (λ i. size_at z s.readings.now ((i + 1) * s.span + c.args.t)) x c.negate.result wx
          (ap w n ∙ g.met.R.Reading.negation.negates x small ∙ ap neg_ℤ wx) zx (ap z n ∙ g.met.R.Reading.negation.sized x small ∙ zx);
    }

pub extend-next-requires : goal.extend-next-requires
extend-next-requires g c =
    let w = g.R.Reading.weight in
    let z = g.R.Reading.size in
    let s = c.args.self.now in
    let j = c.loop-j.j in
    let inv = c.loop-j.invariant in
    let f = s.few.0 in
    let j8 : j ≤ 8 = omega arith in
    let b = bit_is j j8 in
    let bs = bit_small j j8 in
    let o = inv.best.odd.within in
    record {
      size = parity_room g.R.Reading (λ i. weight_at w s.readings.now ((i + 1) * s.span + c.args.t)) (λ i. size_at z s.readings.now ((i + 1) * s.span + c.args.t)) j c.at-s.result c.at-s.ensures.sized s.count _ _ _ _ inv.best c.loop-j-test.true
          (rows_fit s.count (λ q. size_at z s.readings.now (q * s.span + c.args.t)) sum_limit (s.small c.args.t c.requires.1));
      fits = (inv.odd_choice, (inv.odd_kept, omega arith));
    }

pub extend-odd-requires : goal.extend-odd-requires
extend-odd-requires g c =
    let w = g.R.Reading.weight in
    let z = g.R.Reading.size in
    let s = c.args.self.now in
    let j = c.loop-j.j in
    let inv = c.loop-j.invariant in
    let f = s.few.0 in
    let j8 : j ≤ 8 = omega arith in
    let b = bit_is j j8 in
    let bs = bit_small j j8 in
    let o = inv.best.even.within in
    let r = parity_room g.R.Reading (λ i. weight_at w s.readings.now ((i + 1) * s.span + c.args.t)) (λ i. size_at z s.readings.now ((i + 1) * s.span + c.args.t)) j c.at-s.result c.at-s.ensures.sized s.count _ _ _ _ inv.best c.loop-j-test.true
    (rows_fit s.count (λ q. size_at z s.readings.now (q * s.span + c.args.t)) sum_limit (s.small c.args.t c.requires.1)) in
    record { size = omega arith; fits = (inv.even_choice, (inv.even_kept, omega arith)) }

pub loop-j-preserved : goal.loop-j-preserved
loop-j-preserved g c =
    let w = g.R.Reading.weight in
    let z = g.R.Reading.size in
    let s = c.args.self.now in
    let j = c.loop-j.j in
    let inv = c.loop-j.invariant in
    let f = s.few.0 in
    let j8 : j ≤ 8 = omega arith in
    let e = c.extend-next.ensures inv.even_choice inv.odd_choice inv.even_kept inv.odd_kept in
    let o = c.extend-odd.ensures inv.odd_choice inv.even_choice inv.odd_kept inv.even_kept in
    record {
      even_choice = e.0;
      odd_choice = o.0;
      even_kept = e.1.0;
      odd_kept = o.1.0;
      best = parity_step g.R.Reading (λ i. weight_at w s.readings.now ((i + 1) * s.span + c.args.t)) (λ i. size_at z s.readings.now ((i + 1) * s.span + c.args.t)) j c.at-s.result c.at-s.ensures.weighs c.at-s.ensures.sized ((1 * 2 ^ j) % 4294967296) (bit_is j j8)
          inv.even_choice c.loop-j.even.reading inv.odd_choice c.loop-j.odd.reading inv.best e.0 c.extend-next.result.reading o.0 c.extend-odd.result.reading e.1.1 o.1.1;
    }

pub returns : goal.returns
returns g c =
    let s = c.args.self.now in
    let f0 = c.requires.0 in
    let e : c.loop-j.j ≡ s.count = omega arith in
    subst (λ (k : ℕ). KeptByParity g.M.Message.keeps g.R.Reading (λ i. weight_at g.R.Reading.weight s.readings.now ((i + 1) * s.span + c.args.t)) (λ i. size_at g.R.Reading.size s.readings.now ((i + 1) * s.span + c.args.t)) k
    c.loop-j.even.message c.loop-j.even.reading c.loop-j.odd.message c.loop-j.odd.reading) e c.loop-j.invariant
