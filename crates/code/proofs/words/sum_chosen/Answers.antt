use Rattle.std.proofs.Common.{ℕ, ◌+◌, ◌/◌, drop, sym, ap, ◌∙◌, arith}
use lib.Bits.{bit_xor}
use Rattle.code.specs.Words.{codeword}
use Rattle.code.proofs.Codewords.{codeword-xor, sum_skips, sum_takes, sum_ends}
use Rattle.code.proofs.words.sum_chosen.Goals as goal
use Rattle.code.proofs.words.sum_chosen.Goals.{then-rest-eq1, else-rest-eq1}

pub loop-row-preserved : goal.loop-row-preserved
loop-row-preserved c =
    let rows = c.args.rows.now in
    let i = c.loop-row.row-index in
    let rest = c.loop-row.rest in
    let so_far = c.loop-row.invariant in
    let tail : ℕ → ℕ = λ s. bit_xor s (codeword (drop (i + 1) rows) (rest / 2)) in
    elim c.if-rest-eq1.branch [
      | then-rest-eq1 w ↦ ap tail w.sum-is ∙ sum_takes rows i c.loop-row.sum rest c.args.message c.loop-row-test.true so_far w.if-rest-eq1.true
      | else-rest-eq1 w ↦ ap tail w.sum-is ∙ sum_skips rows i c.loop-row.sum rest c.args.message c.loop-row-test.true so_far w.if-rest-eq1.false
    ]

pub returns : goal.returns
returns c =
    let rows = c.args.rows.now in
    let value = sum_ends rows c.loop-row.row-index c.loop-row.sum c.loop-row.rest c.args.message (omega arith) c.loop-row.invariant in
    record {
      value = value;
      linear = λ other. ap (λ (s : ℕ). bit_xor s (codeword rows other)) value ∙ sym (codeword-xor rows c.args.message other);
    }
