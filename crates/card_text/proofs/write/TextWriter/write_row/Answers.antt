use Rattle.card_text.proofs.Writings.{wrote_then}
use Rattle.card_text.proofs.write.TextWriter.write_row.Goals as goal

pub returns : goal.returns
returns c =
    rw c.word_of.ensures.value at (wrote_then c.write_word.ensures (wrote_then c.write_digits.ensures c.write_bytes.ensures))
