use Rattle.std.proofs.Common.{◌≡◌, ℕ, ◌≤◌, ◌<◌, List, length, take, reverse, ap, sym, ◌∙◌, ⊎_elim, arith, rules, take_all}
use Rattle.std.specs.List.{fold}
use Rattle.std.proofs.iter.runs.Made.{chains}
use Rattle.std.proofs.lemmas.Bool.{cases_lt}
use Rattle.std.proofs.lemmas.List.{length-take}
use Rattle.finder.specs.Fold.{column, column_rows}
use Rattle.finder.proofs.Folds.{with_digit, column_folded}
use Rattle.finder.proofs.fold.column_of.Goals as goal

pub returns : goal.returns
returns c =
    let rows = c.args.rows.now in
    let k = c.min.result in
    let is : c.fold.result ≡ fold (with_digit c.args.i) 0 (reverse (take k rows)) = search (rules, chains) in
    let l = length-take k rows in
    let few : length (take k rows) ≤ 16 = omega arith in
    let same : take k rows ≡ take column_rows rows =
    ⊎_elim
    (λ (h : column_rows < length rows). let e : k ≡ column_rows = omega arith in ap (λ (j : ℕ). take j rows) e)
    (λ h. take_all k rows (omega arith) ∙ sym (take_all column_rows rows h))
    (cases_lt column_rows (length rows)) in
    is ∙ column_folded (take k rows) c.args.i few ∙ ap (λ (r : List ℕ). column r c.args.i) same
