use Rattle.std.proofs.Common.{ℕ, ◌+◌, ◌*◌, ◌≤◌, length, sym, ap₂, ◌∙◌, mul-le-mul, arith}
use Rattle.card_text.proofs.Writings.{label_size, rows_length}
use Rattle.card_text.proofs.write.rows_size.Goals as goal

pub returns : goal.returns
returns c =
    let rows = c.args.rows.now in
    let word = c.word_of.result.now in
    let wide : length word + 1 + c.places.result + 1 ≤ 75 = omega (arith, c.word_of.ensures.bound, c.places.ensures.lawful) in
    record {
      value = ap₂ (λ (m n : ℕ). length rows * (m + n + 1)) (label_size word c.args.section c.word_of.ensures.value) c.places.ensures.value
          ∙ sym (rows_length c.args.section c.args.len rows);
      bound = mul-le-mul c.requires wide;
    }
