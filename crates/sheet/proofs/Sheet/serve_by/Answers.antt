use Rattle.std.proofs.Common.{rules}
use Rattle.sheet.proofs.Runs.{kept_same, search_by, served_search}
use Rattle.sheet.proofs.Sheet.serve_by.Goals as goal

pub returns-in-Search : goal.returns-in-Search
returns-in-Search g c = record {
  law = λ by gives.
      let n = c.in-Search.name in
      rw c.in-Search.is (served_search g.R.Reading by n _ _ _ _ _ (search_by g.R.Reading _ _ _ _ _ _ _ (gives n c.finder_of.result (search rules)) c.search.ensures));
  kept = kept_same c.search.ensures.same;
}
