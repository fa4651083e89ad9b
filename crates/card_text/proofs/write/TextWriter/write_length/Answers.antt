use Rattle.card_text.proofs.Writings.{wrote_then}
use Rattle.card_text.proofs.write.TextWriter.write_length.Goals as goal

pub returns : goal.returns
returns c =
    rw c.places.ensures.value at (wrote_then c.write_word.ensures (wrote_then c.write_decimal.ensures c.write_bytes.ensures))
