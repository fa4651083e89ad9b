use Rattle.std.proofs.Common.{◌≡◌, ◌*◌, ◌++◌, take, drop}
use Rattle.card_file.specs.Files.{rows_bytes}
use Rattle.card_file.proofs.bytes.write_rows.Given as goal

abbrev pub invariant-loop-i : goal.invariant-loop-i
invariant-loop-i l = l.out ≡ rows_bytes (take l.i l.rows) ++ drop (8 * l.i) l.initial.out
