use Rattle.std.proofs.Common.{◌≡◌, ◌-◌, min, length, sym, refl, ◌∙◌, subst, arith}
use Rattle.std.proofs.lemmas.List.{length-take}
use Rattle.code.specs.Limits.{max_places}
use Rattle.sheet.specs.Cells.{AllBlank}
use Rattle.sheet.proofs.Books.{cleared, laid_out}
use Rattle.sheet.proofs.Fronts.{front_is, rest_is, length_is}
use Rattle.sheet.proofs.Sheet.clear_covered.Goals as goal

pub returns : goal.returns
returns g c =
    let xs = c.args.self.now.cells.now in
    let ys = c.lay_out.new.cells in
    let n = c.covering-n.result - 0 in
    let nis : n ≡ min max_places (length xs) = omega (arith, c.covering-n.ensures) in
    let l : length ys ≡ n = c.lay_out.auto.cells ∙ length-take _ xs ∙ omega arith in
    let long = length_is xs ys n nis l in
    let z = subst (AllBlank g.R.Reading) (sym (front_is xs ys n nis l)) c.lay_out.ensures in
    record {
      book = λ h st. (cleared _ h _ _ long refl z st, tt);
      fresh = laid_out _ _ refl z;
      cells = z;
      passes = refl;
      kept = record { named = refl; long = long; beyond = rest_is xs ys n nis l };
    }
