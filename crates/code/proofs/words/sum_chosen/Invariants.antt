use Rattle.std.proofs.Common.{◌≡◌, drop}
use lib.Bits.{bit_xor}
use Rattle.code.specs.Words.{codeword}
use Rattle.code.proofs.words.sum_chosen.Given as goal

abbrev pub invariant-loop-row : goal.invariant-loop-row
invariant-loop-row l = bit_xor l.sum (codeword (drop l.row-index l.rows) l.rest) ≡ codeword l.rows l.message
