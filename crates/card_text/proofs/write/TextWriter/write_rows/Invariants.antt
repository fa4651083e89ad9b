use Rattle.std.proofs.Common.{drop}
use Rattle.card_text.proofs.Writings.{RowsLeft}
use Rattle.card_text.proofs.write.TextWriter.write_rows.Given as goal

abbrev pub invariant-loop-row : goal.invariant-loop-row
invariant-loop-row l = RowsLeft l.section l.len (drop l.row-index l.rows) l.rows l.initial.self l.self
