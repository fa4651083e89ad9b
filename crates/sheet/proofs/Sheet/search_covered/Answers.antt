use Rattle.std.proofs.Common.{◌-◌, refl, subst, arith}
use Rattle.sheet.proofs.Books.{not_moved}
use Rattle.sheet.proofs.Searches.{Searched, searched}
use Rattle.sheet.proofs.Fronts.{part_is, put_back}
use Rattle.sheet.proofs.Sheet.search_covered.Goals as goal

pub returns : goal.returns
returns g c =
    let t = c.args.self.now in
    let n = c.covering-n.result - 0 in
    let work = c.args.work.now in
    let after = c.search.new.work in
    let r = c.search.result in
    let cells = put_back t.cells.now c.search.new.word n c.search.ensures.same in
    let a = subst (λ xs. Searched g.R.Reading (g.F.Finder.meaning c.args.finder.now) xs work after r) (part_is t.cells.now n (omega (arith, c.covering-n.ensures))) c.search.ensures.answer in
    record {
      book = λ h st. (not_moved _ h t _ (record { named = refl; cells = cells; passes = refl }) st, searched _ _ h t work after r a st);
      cells = a;
      same = record { named = refl; cells = cells; passes = refl };
    }
