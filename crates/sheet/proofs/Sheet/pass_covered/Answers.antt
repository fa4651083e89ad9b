use Rattle.std.proofs.Common.{◌≡◌, ◌-◌, min, ◌++◌, length, take, drop, sym, refl, ap, ◌∙◌, subst, arith}
use Rattle.std.proofs.lemmas.Result.{err_from_is_err_and}
use Rattle.std.proofs.lemmas.List.{length-take}
use Rattle.code.specs.Limits.{max_places}
use Rattle.sheet.specs.Cells.{PassFails, Passed}
use Rattle.sheet.proofs.Books.{not_passed, passed}
use Rattle.sheet.proofs.Checks.{pass_rule}
use Rattle.sheet.proofs.Fronts.{front_is, rest_is, length_is, part_is, put_back}
use Rattle.sheet.proofs.Sheet.pass_covered.Goals as goal

pub returns-in_err-self : goal.returns-in_err-self
returns-in_err-self g c =
    let t = c.args.self.now in
    let ss = c.args.samples.now in
    let n = c.covering-n.result - 0 in
    let f = c.in_err-self.ensures in
    let cells = put_back t.cells.now c.add_pass.new.cells n f.1 in
    let fails = subst (λ xs. PassFails g.R.Reading ss t.passes xs c.in_err-self.field-0.0) (part_is t.cells.now n (omega (arith, c.covering-n.ensures))) f.0 in
    let p = err_from_is_err_and c.from_residual.result c.from_residual.ensures.1 in
    rw (p.1, p.2) (record {
      book = λ h st. let q = not_passed _ h t _ ss _ (record { named = refl; cells = cells; passes = refl }) fails st in (q.0, (q.1, pass_rule _ ss _ q.1));
      cells = (fails, record { named = refl; cells = cells; passes = refl });
      kept = record { named = refl; long = ap length cells; beyond = ap (drop max_places) cells };
    })

pub returns : goal.returns
returns g c =
    let t = c.args.self.now in
    let ss = c.args.samples.now in
    let n = c.covering-n.result - 0 in
    let nis : n ≡ min max_places (length t.cells.now) = omega (arith, c.covering-n.ensures) in
    let ys = c.add_pass.new.cells in
    let count = c.in_ok-self.field-0 in
    let w = ap length (part_is t.cells.now n nis) ∙ length-take max_places t.cells.now in
    let l : length ys ≡ n = c.add_pass.auto.cells ∙ w ∙ sym nis in
    let p = subst (λ xs. Passed g.R.Reading ss t.passes xs (take max_places (ys ++ drop n t.cells.now)) count) (part_is t.cells.now n nis)
    (subst (λ zs. Passed g.R.Reading ss t.passes (take n t.cells.now) zs count) (sym (front_is t.cells.now ys n nis l)) c.in_ok-self.ensures) in
    record {
      book = λ h st. let q = passed _ h t _ ss _ (length_is t.cells.now ys n nis l) p refl st in (q.0, (q.1, pass_rule _ ss _ q.1));
      cells = (p, refl);
      kept = record { named = refl; long = length_is t.cells.now ys n nis l; beyond = rest_is t.cells.now ys n nis l };
    }
