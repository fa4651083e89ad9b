use Rattle.std.proofs.Common.{◌≡◌, ◌<◌, ◌≤◌, true, false, List, map, length, sym, ap, ◌∙◌, subst, arith, rules}
use Rattle.std.specs.List.{AllByRecursion}
use Rattle.code.specs.Limits.{sum_limit}
use Rattle.code.specs.Words.{odd}
use Rattle.coset_layer.specs.Pile.{opposite_at}
use Rattle.coset_layer.proofs.Opposites.{opposite_step, rest_step, opposite_done, weights_at, sizes_at, small_at, twice_at}
use Rattle.coset_layer.proofs.negate_at.Goals as goal
use Rattle.coset_layer.proofs.negate_at.Goals.{then-rest-eq1, else-rest-eq1}

pub loop-x-preserved : goal.loop-x-preserved
loop-x-preserved g c =
    let lt : c.loop-x.x-index < length c.loop-x.word = omega arith in
    let op = g.R.Reading.opposite in
    let at = opposite_step op c.loop-x.word c.loop-x.x-index c.loop-x.rest c.x-item.result lt in
    let past = rest_step op c.loop-x.word c.loop-x.x-index c.loop-x.rest c.x-item.result lt in
    elim c.if-rest-eq1.branch [
      | then-rest-eq1 w ↦
          let o : odd c.loop-x.rest ≡ true = search rules in
          (past _ _ w.word-is _ c.loop-x.invariant.0, at _ _ w.word-is (rw o w.negate.ensures) ∙ c.loop-x.invariant.1)
      | else-rest-eq1 w ↦
          let o : odd c.loop-x.rest ≡ false = search rules in
          (past _ _ w.word-is _ c.loop-x.invariant.0, at _ _ w.word-is (rw o) ∙ c.loop-x.invariant.1)
    ]

pub returns : goal.returns
returns g c =
    let r = g.R.Reading in
    let h : length c.loop-x.word ≤ c.loop-x.x-index = omega arith in
    let word = c.args.word.now in
    let is = sym (opposite_done r.opposite c.loop-x.word c.loop-x.x-index c.loop-x.rest h) ∙ c.loop-x.invariant.1 in
    let law = g.met.R.Reading.negation in
    record {
      negated = is;
      back = ap (λ (l : List _). opposite_at r.opposite l c.args.mask) is ∙ twice_at r.weight r.size r.opposite law word c.args.mask c.requires;
      small = subst (AllByRecursion (λ x. r.size x ≤ sum_limit)) (sym is) (small_at r.weight r.size r.opposite law word c.args.mask c.requires);
      sizes = ap (map r.size) is ∙ sizes_at r.weight r.size r.opposite law word c.args.mask c.requires;
      weights = ap (map r.weight) is ∙ weights_at r.weight r.size r.opposite law word c.args.mask c.requires;
    }
