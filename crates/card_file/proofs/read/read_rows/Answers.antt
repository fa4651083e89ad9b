use Rattle.std.proofs.Common.{◌≡◌, ℕ, ◌+◌, ◌-◌, ◌<◌, ◌≤◌, length, take, drop, sym, refl, ap, ap₂, ◌∙◌, arith}
use Rattle.std.proofs.lemmas.Result.{err_from_is_err_and}
use Rattle.card.specs.Cards.{pushed, verdict}
use Rattle.card_file.specs.Files.{read_rows_lem, row_of}
use Rattle.card_file.proofs.FileBytes.{read_short, read_refused, read_more}
use Rattle.card_file.proofs.read.read_rows.Goals as goal

pub returns-in_default : goal.returns-in_default
returns-in_default g c =
    let bs = c.loop-done.rest.now in
    let short : length bs < 8 = c.in_default.ensures.cases in
    let some : 0 < c.args.count - c.loop-done._done = omega arith in
    sym (read_short g.C.TakesRows.part (c.args.count - c.loop-done._done) (g.C.TakesRows.shown c.loop-done.card) bs some short) ∙ c.loop-done.invariant

pub returns-in_err-take : goal.returns-in_err-take
returns-in_err-take g c =
    let s = g.C.TakesRows.part in
    let k = g.C.TakesRows.shown c.loop-done.card in
    let bs = c.loop-done.rest.now in
    let some : 0 < c.args.count - c.loop-done._done = omega arith in
    let long : 8 ≤ length bs = c.in-Some.ensures.variant.0 refl in
    let row : c.in-Some.row.now ≡ take 8 bs = c.in-Some.ensures.cases.0 in
    let v = c.in_err-take.ensures.answer ∙ ap (verdict k s) (c.from_le_bytes.ensures ∙ ap row_of row) in
    let p = err_from_is_err_and c.from_residual.result c.from_residual.ensures.1 in
    rw (p.1, p.2) (sym (read_refused s (c.args.count - c.loop-done._done) k bs c.in_err-take.field-0.0 some long v) ∙ c.loop-done.invariant)

pub loop-done-preserved : goal.loop-done-preserved
loop-done-preserved g c =
    let s = g.C.TakesRows.part in
    let shown = g.C.TakesRows.shown in
    let k = shown c.loop-done.card in
    let bs = c.loop-done.rest.now in
    let n = c.args.count - c.loop-done._done in
    let some : 0 < n = omega arith in
    let long : 8 ≤ length bs = c.in-Some.ensures.variant.0 refl in
    let row : c.in-Some.row.now ≡ take 8 bs = c.in-Some.ensures.cases.0 in
    let after : c.in-Some.after.now ≡ drop 8 bs = c.in-Some.ensures.cases.1 in
    let is = c.from_le_bytes.ensures ∙ ap row_of row in
    let v = c.in_ok-take.ensures.answer ∙ ap (verdict k s) is in
    let less : c.args.count - (c.loop-done._done + 1) ≡ n - 1 = omega arith in
    ap₂ (read_rows_lem s (c.args.count - (c.loop-done._done + 1))) (c.in_ok-take.ensures.card ∙ ap (pushed k s) is) after
    ∙ ap (λ (m : ℕ). read_rows_lem s m (pushed k s (row_of (take 8 bs))) (drop 8 bs)) less
    ∙ sym (read_more s n k bs c.in_ok-take.field-0 some long v) ∙ c.loop-done.invariant
