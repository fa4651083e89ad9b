use Rattle.std.proofs.Common.{drop, arith}
use Rattle.std.proofs.lemmas.List.{drop_all}
use Rattle.card_text.proofs.Writings.{row_room, rows_done, rows_step}
use Rattle.card_text.proofs.write.TextWriter.write_rows.Goals as goal

pub write_row-requires : goal.write_row-requires
write_row-requires c =
    row_room c.args.section c.args.len c.args.rows.now c.args.rows.now c.loop-row.row-index c.args.self.now c.loop-row.self c.loop-row-test.true c.loop-row.invariant

pub loop-row-preserved : goal.loop-row-preserved
loop-row-preserved c =
    rows_step c.args.section c.args.len c.args.rows.now c.args.rows.now c.loop-row.row-index c.args.self.now c.loop-row.self c.write_row.new.self c.loop-row-test.true
    c.loop-row.invariant c.write_row.ensures

pub returns : goal.returns
returns c =
    let rows = c.args.rows.now in
    rows_done c.args.section c.args.len (drop c.loop-row.row-index rows) rows c.args.self.now c.loop-row.self (drop_all c.loop-row.row-index rows (omega arith)) c.loop-row.invariant
