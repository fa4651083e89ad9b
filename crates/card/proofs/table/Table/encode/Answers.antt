use Rattle.std.proofs.Common.{◌∙◌, ◌<◌, ◌^◌, length}
use Rattle.code.proofs.Spans.{independent_distinct}
use Rattle.card.specs.Cards.{rows_of}
use Rattle.card.proofs.Tables.{shifted_out}
use Rattle.card.proofs.table.Table.encode.Goals as goal

pub returns-clause-distinct : goal.returns-clause-distinct
returns-clause-distinct c other h same =
    let all = c.all_rows-rows in
    let m = c.args.message in
    let below : m < 2 ^ length (rows_of c.args.self.now) = rw (← all.ensures.value) (shifted_out (length all.result.now) m c.if-message-rows-ne0.false) in
    independent_distinct (rows_of c.args.self.now) all.ensures.lawful.independent other m h below (rw (← all.ensures.value) (rw all.ensures.value same ∙ c.word_of.ensures.value))
