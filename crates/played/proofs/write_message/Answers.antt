use Rattle.std.proofs.Common.{◌≡◌, length, Ok, ap, ◌∙◌, arith}
use Rattle.std.proofs.lemmas.List.{length-take}
use Rattle.played.proofs.Writes.{encoded_ok, written}
use Rattle.played.proofs.write_message.Goals as goal

pub returns : goal.returns
returns c =
    let n = c.places-n.result in
    let xs = c.args.samples.now in
    let ys = c.write_digits.new.samples in
    let e = c.places-n.ensures.value ∙ c.word_length.ensures.value in
    let w = encoded_ok c.args.card.now c.args.message c.in_ok-word.word c.in_ok-word.ensures.answer in
    let room = c.if-samples-n.false in
    let l : length ys ≡ n = c.write_digits.auto.samples ∙ length-take _ xs ∙ omega arith in
    record {
      answer = record {
        short = λ h. absurd (omega arith);
        too_large = λ a b. let lt = w.0 in absurd (omega arith);
        taken = λ a b. ap (λ k. Ok k) e;
      };
      written = written _ c.args.message c.args.levels n c.in_ok-word.word xs ys e room l w.1 c.write_digits.ensures;
    }
