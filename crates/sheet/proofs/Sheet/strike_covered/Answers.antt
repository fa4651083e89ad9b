use Rattle.std.proofs.Common.{refl, arith, drop-set-lt}
use Rattle.std.proofs.lemmas.List.{length-set}
use Rattle.code.specs.Limits.{max_places}
use Rattle.sheet.proofs.Books.{struck, not_struck}
use Rattle.sheet.proofs.Sheet.strike_covered.Goals as goal

pub returns-then-place-covering : goal.returns-then-place-covering
returns-then-place-covering g c = record {
  book = λ h st. not_struck _ h c.args.self.now c.args.place (omega arith) st;
  cells = (omega arith, refl, record { named = refl; cells = refl; passes = refl });
  kept = record { named = refl; long = refl; beyond = refl };
}

pub returns : goal.returns
returns g c = record {
  book = λ h st. struck _ h c.args.self.now _ c.args.place c.blank.result refl refl (omega arith) c.blank.ensures st;
  cells = (omega arith, refl, (c.blank.result, c.blank.ensures, refl));
  kept = record { named = refl; long = length-set _ _ _; beyond = drop-set-lt max_places c.args.self.now.cells.now c.args.place _ (omega arith) };
}
