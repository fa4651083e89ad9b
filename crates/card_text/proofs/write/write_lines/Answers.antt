use Rattle.std.proofs.Common.{rules, ◌≡◌, ℕ, ◌+◌, Bool, false, cond, ltb, ◌++◌, length, drop, sym, ap, ◌∙◌, arith}
use Rattle.std.proofs.lemmas.Bool.{le-ltb}
use Rattle.card.specs.Cards.{Card}
use Rattle.card_file.proofs.FileBytes.{card_is}
use Rattle.card_text.specs.Texts.{text_of}
use Rattle.card_text.proofs.Writings.{wrote_same, wrote_then}
use Rattle.card_text.proofs.TextBack.{text_taken}
use Rattle.card_text.proofs.write.write_lines.Goals as goal

pub returns : goal.returns
returns c =
    let k = c.args.card.now in
    let out = c.args.out.now in
    let n = c.word_length-len.result in
    let u = c.write_rows-3.new.self in
    let same : ◌≡◌ {A = Card} (record { len = n; group = c.section_rows-group.result.now; transform = c.section_rows-transform.result.now; coset = c.section_rows-coset.result.now }) k =
    card_is k (c.word_length-len.ensures.value) c.section_rows-group.ensures.value c.section_rows-transform.ensures.value c.section_rows-coset.ensures.value in
    let w = wrote_same (ap text_of same)
    (wrote_then c.write_length.ensures (wrote_then c.write_rows.ensures (wrote_then c.write_rows-2.ensures c.write_rows-3.ensures))) in
    let first : 0 + length (text_of k) ≡ length (text_of k) = omega arith in
    let e : u.end ≡ length (text_of k) = w.end ∙ first in
    let o : u.memory.now ≡ text_of k ++ drop (length (text_of k)) out = w.memory ∙ ap (λ (m : ℕ). text_of k ++ drop m out) first in
    let f : ltb (length out) (length (text_of k)) ≡ false = le-ltb (length out) (length (text_of k)) (omega (arith, w.room)) in
    record {
      answer = simp (f, e);
      bytes = search rules ∙ o ∙ sym (ap (λ (x : Bool). cond x out (text_of k ++ drop (length (text_of k)) out)) f);
      back = text_taken k out _ u.end c.word_length-len.ensures.lawful e (search rules ∙ o);
    }
