use Rattle.std.proofs.Common.{length}
use Rattle.card_text.proofs.Readings.{Left}
use Rattle.card_text.proofs.read.read_lines.Given as goal

abbrev pub invariant-loop-line : goal.invariant-loop-line
invariant-loop-line l = Left l.bytes (length l.yielded) l.count l.draft
