use Rattle.std.proofs.Common.{◌≡◌, ◌-◌}
use Rattle.card_file.specs.Files.{read_rows_lem}
use Rattle.card_file.proofs.read.read_rows.Given as goal

abbrev pub invariant-loop-done : goal.invariant-loop-done
invariant-loop-done g l =
    read_rows_lem g.C.TakesRows.part (l.count - l._done) (g.C.TakesRows.shown l.card) l.rest ≡ read_rows_lem g.C.TakesRows.part l.count (g.C.TakesRows.shown l.initial.card) l.bytes
