use Rattle.card_text.proofs.Writings.{wrote_then}
use Rattle.card_text.proofs.write.TextWriter.write_word.Goals as goal

pub returns : goal.returns
returns c = wrote_then c.write_bytes.ensures c.write_bytes-2.ensures
