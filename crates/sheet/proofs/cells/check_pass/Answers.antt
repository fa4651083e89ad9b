use Rattle.std.proofs.Common.{◌∙◌, inl}
use Rattle.std.proofs.lemmas.Result.{err_from_is_err_and}
use Rattle.sample.proofs.Faults.{answer_err, answer_ok}
use Rattle.sheet.proofs.Checks.{check_length, check_full, check_samples_lem, checked_whole}
use Rattle.sheet.proofs.cells.check_pass.Goals as goal

pub returns-then-samples-cells : goal.returns-then-samples-cells
returns-then-samples-cells g c = inl (check_length _ _ _ c.if-samples-cells.true)

pub returns-then-passes-ge-MAX_PASSES : goal.returns-then-passes-ge-MAX_PASSES
returns-then-passes-ge-MAX_PASSES g c = inl (check_full _ _ _ c.if-samples-cells.false c.if-passes-ge-MAX_PASSES.true)

pub returns-in_err-check_samples : goal.returns-in_err-check_samples
returns-in_err-check_samples g c =
    let p = err_from_is_err_and c.from_residual.result c.from_residual.ensures.1 in
    rw (p.1, p.2) (inl (check_samples_lem _ _ _ c.if-samples-cells.false c.if-passes-ge-MAX_PASSES.false ∙ answer_err _ _ _ c.in_err-check_samples.ensures.value))

pub returns : goal.returns
returns g c =
    let long = c.if-samples-cells.false in
    let few = c.if-passes-ge-MAX_PASSES.false in
    let e = c.in_ok-check_samples.ensures in
    checked_whole _ _ _ _ _ (check_samples_lem _ _ _ long few ∙ answer_ok _ _ _ e.value) long few e.rule c.check_sizes.ensures
