use Rattle.std.proofs.Common.{◌≡◌, drop}
use Rattle.sheet.specs.Stands.{Kept}
use Rattle.sheet.specs.Runs.{ByName, RanFrom}
use Rattle.sheet.proofs.Sheet.run.Given as goal

abbrev pub invariant-loop-i : goal.invariant-loop-i
invariant-loop-i g l = record {
  law : ByName g.L.Fn l.finder_of g.F.Finder.meaning (λ by. RanFrom g.R.Reading by l.requests l.i l.initial.self l.self l.initial.work l.work l.answers);
  kept : Kept l.initial.self l.self;
  rest : drop l.i l.answers ≡ drop l.i l.initial.answers;
}
