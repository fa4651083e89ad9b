use Rattle.sheet.proofs.Searches.{both_agree}
use Rattle.sheet.proofs.Sheet.search_twice.Goals as goal

pub returns : goal.returns
returns g c =
    let x = c.search_covered-first.ensures in
    let y = c.search_covered-second.ensures in
    record {
      between = c.search_covered-first.new.self;
      left = c.search_covered-first.new.work;
      by_first = x;
      by_second = y;
      agree = both_agree g.R.Reading (g.A.Finder.meaning c.args.a.now) (g.B.Finder.meaning c.args.b.now) c.args.self.now c.search_covered-first.new.self _ _ _ _ _ x.same.cells x.cells y.cells;
    }
