use Rattle.std.proofs.Common.{get_or, sym, ap, ◌∙◌, subst, below_more}
use Rattle.std.proofs.lemmas.List.{at_drop_all, get_or_default}
use Rattle.std.proofs.lemmas.Result.{err_from_is_err_and}
use Rattle.sample.specs.Samples.{answer, first_fault, Good}
use Rattle.sample.proofs.Faults.{first_none, first_some, answer_err, answer_ok}
use Rattle.sample.proofs.first_bad.Goals as goal

pub returns-in_err-labels-clause-value : goal.returns-in_err-labels-clause-value
returns-in_err-labels-clause-value c =
    let p = err_from_is_err_and c.from_residual.result c.from_residual.ensures.1 in
    let some = first_some c.args.samples.now c.loop-place.place _ _ c.loop-place-test.true (answer_err _ _ _ c.in_err-labels.ensures.value) in
    rw (p.1, p.2) (ap (λ o. answer o tt) (sym some ∙ c.loop-place.invariant.0))

pub loop-place-preserved : goal.loop-place-preserved
loop-place-preserved c =
    let e = c.in_ok-labels.ensures in
    let v = c.loop-place.invariant in
    let xs = c.args.samples.now in
    let i = c.loop-place.place in (
      sym (first_none xs i _ c.loop-place-test.true (answer_ok _ _ _ e.value)) ∙ v.0,
      λ k x h. below_more (λ j. Good (get_or xs j x)) i (λ j hj. v.1 j x hj) (subst Good (get_or_default xs i _ x c.loop-place-test.true) e.rule) k h,
    )

pub returns-clause-value : goal.returns-clause-value
unfolding first_fault
returns-clause-value c = ap (λ o. answer o tt) (sym (at_drop_all (first_fault c.loop-place.place) _ _ c.loop-place-test.false) ∙ c.loop-place.invariant.0)
