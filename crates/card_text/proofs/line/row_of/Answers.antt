use Rattle.std.proofs.Common.{List, ◌++◌, length, ℕ, ap, ◌∙◌, subst, ◌≤◌, arith}
use Rattle.std.specs.Iterator.Adapters.{rev_source}
use Rattle.std.specs.Slice.Iter.{iter_rest}
use Rattle.card_text.proofs.Steps.{row_more}
use Rattle.card_text.proofs.line.row_of.Goals as goal

pub overflow_mul-row : goal.overflow_mul-row
overflow_mul-row c =
    let (done, all, row) = c.loop-digit.invariant in
    let fits = subst (λ (ds : List ℕ). length ds ≤ 64) (all ∙ ap (λ (l : List ℕ). l ++ done) c.in-Some.ensures.steps) c.requires in
    omega (arith, row_more (iter_rest (rev_source c.next.new.self)) done c.in-Some.digit.now c.loop-digit.row fits row)

pub overflow_add-row : goal.overflow_add-row
overflow_add-row c =
    let (done, all, row) = c.loop-digit.invariant in
    let fits = subst (λ (ds : List ℕ). length ds ≤ 64) (all ∙ ap (λ (l : List ℕ). l ++ done) c.in-Some.ensures.steps) c.requires in
    omega (arith, c.from.ensures, row_more (iter_rest (rev_source c.next.new.self)) done c.in-Some.digit.now c.loop-digit.row fits row)
