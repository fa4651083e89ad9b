use Rattle.std.proofs.Common.{◌≡◌, ◌∙◌, ℕ, ◌+◌, length, sym, subst, eqb, rules, tests, length-append}
use Rattle.std.proofs.lemmas.Iterator.Consumers.{YieldsList-at, YieldsList-end, YieldsList-turn}
use Rattle.std.proofs.lemmas.Iterator.Splits.{YieldsList-from_slice_split}
use Rattle.std.proofs.lemmas.Result.{err_from_is_err_and}
use Rattle.card_text.specs.Drafts.{finished, in_line}
use Rattle.card_text.proofs.Readings.{Left, left_more, left_fault, left_none, says_described}
use Rattle.card_text.proofs.read.read_lines.Goals as goal

pub returns-in_err-draft-clause-answer : goal.returns-in_err-draft-clause-answer
returns-in_err-draft-clause-answer c =
    let bytes = c.args.bytes.now in
    let it = c.split-line-items.ensures in
    let (inside, is) = YieldsList-turn
    (YieldsList-at c.into_iter-line-iterator.ensures.into_iter_gives (YieldsList-from_slice_split _ (λ b. eqb b 10) bytes it.rest it.done it.closure (λ x b q k. search (rules, tests))))
    c.loop-line.yielded _ c.loop-line.yielded_by _ _ c.in-Some.line c.in-Some.is c.next.ensures.steps in
    let p = err_from_is_err_and c.from_residual.result c.from_residual.ensures.1 in
    rw (p.1, p.2) (left_fault bytes c.in-Some.line.now (length c.loop-line.yielded) c.loop-line.count c.loop-line.draft inside is c.loop-line.invariant c.in_err-draft.field-0.0 c.in_err-draft.ensures)

pub loop-line-preserved : goal.loop-line-preserved
loop-line-preserved c =
    let bytes = c.args.bytes.now in
    let it = c.split-line-items.ensures in
    let (inside, is) = YieldsList-turn
    (YieldsList-at c.into_iter-line-iterator.ensures.into_iter_gives (YieldsList-from_slice_split _ (λ b. eqb b 10) bytes it.rest it.done it.closure (λ x b q k. search (rules, tests))))
    c.loop-line.yielded _ c.loop-line.yielded_by _ _ c.in-Some.line c.in-Some.is c.next.ensures.steps in
    subst (λ (i : ℕ). Left bytes i (c.loop-line.count + 1) c.in_ok-draft.draft) (sym (length-append c.loop-line.yielded _))
    (left_more bytes c.in-Some.line.now (length c.loop-line.yielded) c.loop-line.count c.loop-line.draft inside is c.loop-line.invariant c.in_ok-draft.draft c.in_ok-draft.ensures)

pub returns : goal.returns
returns c =
    let bytes = c.args.bytes.now in
    let it = c.split-line-items.ensures in
    let end = YieldsList-end
    (YieldsList-at c.into_iter-line-iterator.ensures.into_iter_gives (YieldsList-from_slice_split _ (λ b. eqb b 10) bytes it.rest it.done it.closure (λ x b q k. search (rules, tests))))
    c.loop-line.yielded _ c.loop-line.yielded_by _ _ c.in-None.is c.next.ensures.steps in
    let done : c.map_err.result ≡ in_line c.loop-line.count (finished c.loop-line.draft) = search rules in
    let answer = done ∙ left_none bytes (length c.loop-line.yielded) c.loop-line.count c.loop-line.draft end.1 c.loop-line.invariant in
    record { answer = answer; says = says_described bytes c.map_err.result answer }
