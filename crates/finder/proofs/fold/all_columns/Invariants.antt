use Rattle.std.proofs.Common.{◌≡◌, ℕ, ◌<◌, get_or, take}
use Rattle.finder.specs.Fold.{column, column_rows}
use Rattle.finder.proofs.fold.all_columns.Given as goal

abbrev pub invariant-loop-i : goal.invariant-loop-i
invariant-loop-i l = (k : ℕ) → k < l.i → get_or l.slot-items k 0 ≡ column (take column_rows l.rows) k
