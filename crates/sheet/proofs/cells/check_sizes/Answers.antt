use Rattle.std.proofs.Common.{get_or, refl, subst, arith, below_more}
use Rattle.std.proofs.lemmas.List.{get_or_read, get_or_default}
use Rattle.sheet.specs.Cells.{Fits, Overgrown}
use Rattle.sheet.proofs.cells.check_sizes.Goals as goal

pub returns-then-not-takes : goal.returns-then-not-takes
returns-then-not-takes g c =
    let m = g.R.Reading in
    let i = c.loop-place.place in
    let ss = c.args.samples.now in
    let xs = c.args.cells.now in
    let on = c.loop-place-test.true in
    record {
      place = i;
      on = on;
      before = c.loop-place.invariant;
      here = λ x d.
          subst (λ y. Overgrown m (get_or ss i x) y) (get_or_read xs i _ (omega arith) c.index-cells-place.is d)
          (subst (λ y. Overgrown m y c.index-cells-place.result) (get_or_default ss i _ x on) (c.takes.ensures.no c.if-not-takes.true));
      names = refl;
    }

pub loop-place-preserved : goal.loop-place-preserved
loop-place-preserved g c =
    let m = g.R.Reading in
    let i = c.loop-place.place in
    let ss = c.args.samples.now in
    let xs = c.args.cells.now in
    let on = c.loop-place-test.true in
    λ k x d h. below_more (λ j. Fits m (get_or ss j x) (get_or xs j d)) i
    (λ j hj. c.loop-place.invariant j x d hj)
    (subst (λ y. Fits m (get_or ss i x) y) (get_or_read xs i _ (omega arith) c.index-cells-place.is d)
    (subst (λ y. Fits m y c.index-cells-place.result) (get_or_default ss i _ x on) (c.takes.ensures.yes c.if-not-takes.false)))
    k h
