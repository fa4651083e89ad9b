use Rattle.std.proofs.Common.{◌≡◌, ◌+◌, ◌*◌, true, false, ltb, length, take, drop, sym, ap, ◌∙◌, arith}
use Rattle.std.proofs.lemmas.List.{take_at}
use Rattle.std.proofs.lemmas.Bool.{lt-ltb, le-ltb}
use Rattle.card_file.specs.Files.{file_of, read_card_lem}
use Rattle.card_file.proofs.FileBytes.{file_length, file_written}
use Rattle.card_file.proofs.RoundTrip.{read_back}
use Rattle.card_file.proofs.write.write_file.Goals as goal

pub returns-then-out-size : goal.returns-then-out-size
returns-then-out-size c =
    let k = c.args.card.now in
    let out = c.args.out.now in
    let b : ltb (length out) (length (file_of k)) ≡ true = lt-ltb (length out) (length (file_of k)) (omega (arith, file_length k, ap length c.rows.ensures.value)) in
    record { answer = simp b; bytes = simp b; back = tt }

pub returns : goal.returns
returns c =
    let k = c.args.card.now in
    let out = c.args.out.now in
    let size = 4 + 8 * length c.rows.result.now in
    let n = c.places.ensures.value ∙ c.word_length.ensures.value in
    let all : size ≡ length (file_of k) = omega (arith, file_length k, ap length c.rows.ensures.value) in
    let f : ltb (length out) (length (file_of k)) ≡ false = le-ltb (length out) (length (file_of k)) (omega (arith, all)) in
    let written = file_written k c.places.result size c.write_sections.new.out out (omega arith) n all c.write_sections.ensures in
    record {
      answer = simp (f, all);
      bytes = rw f written;
      back = ap read_card_lem (ap (take size) written ∙ take_at (file_of k) (drop (length (file_of k)) out) size (sym all)) ∙ read_back k c.word_length.ensures.lawful;
    }
