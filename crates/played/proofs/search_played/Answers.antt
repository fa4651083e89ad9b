use Rattle.played.proofs.Again.{again}
use Rattle.played.proofs.search_played.Goals as goal

pub returns : goal.returns
returns g c = record {
  law = c.search.ensures;
  again = again _ _ _ _ _ _ _ g.met.R.Reading.main_unit c.search.ensures;
}
