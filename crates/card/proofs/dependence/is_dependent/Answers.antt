use Rattle.std.proofs.Common.{◌+◌, eqb, get_or, take, ap, ◌∙◌, subst}
use Rattle.std.proofs.lemmas.List.{take_all, take_more, length_push}
use Rattle.std.proofs.lemmas.Bool.{eqb-true, eq-eqb}
use Rattle.std.specs.Cmp.{both_ways}
use Rattle.card.specs.Rows.{dependent}
use Rattle.card.specs.Echelon.{Reduced, SameSpan}
use Rattle.card.proofs.Decided.{dependent_from_span, span_from_dependent}
use Rattle.card.proofs.Echelons.{echelon_push, same_span_push, zero_spans, spans_zero}
use Rattle.card.proofs.dependence.is_dependent.Goals as goal

pub loop-other-preserved : goal.loop-other-preserved
loop-other-preserved c =
    let basis = c.loop-other.basis in
    let rows = c.args.rows.now in
    let i = c.loop-other.other-index in
    let x = c.reduce-lead.result in
    let r : Reduced basis (get_or rows i 0) x = rw (← c.as_slice.ensures.value) c.reduce-lead.ensures in
    rw (c.put.ensures, take_more rows i 0 c.loop-other-test.true) (record {
      count = length_push basis x ∙ ap (λ n. n + 1) c.loop-other.invariant.count;
      echelon = echelon_push basis x c.loop-other.invariant.echelon r.lacks;
      same = same_span_push basis (take i rows) x (get_or rows i 0) c.loop-other.invariant.same r.spans;
    })

pub returns : goal.returns
returns c =
    let basis = c.loop-other.basis in
    let rows = c.args.rows.now in
    let row = c.args.row in
    let x = c.reduce.result in
    let same : SameSpan basis rows = subst (SameSpan basis) (take_all c.loop-other.other-index rows c.loop-other-test.false) c.loop-other.invariant.same in
    let r : Reduced basis row x = rw (← c.as_slice-2.ensures.value) c.reduce.ensures in
    both_ways (eqb x 0) (dependent rows row)
    (λ t. dependent_from_span rows row (zero_spans basis rows row x same r (eqb-true x 0 t)))
    (λ t. eq-eqb x 0 (spans_zero basis rows row x c.loop-other.invariant.echelon same r (span_from_dependent rows row t)))
