use Rattle.std.proofs.Common.{◌+◌, Some, None, sym, refl, arith}
use Rattle.std.proofs.lemmas.List.{drop_all, take_all, take_rest}
use Rattle.card_text.specs.Lines.{word_length_lem}
use Rattle.card_text.proofs.Steps.{word_before}
use Rattle.card_text.proofs.line.split_word.Goals as goal

pub returns-in-Some : goal.returns-in-Some
returns-in-Some c =
    let line = c.args.line.now in
    let (word, inside) = word_before line (Some c.in-Some.end) c.in-Some.ensures in
    rw (sym word) (record { word = refl; rest = take_rest line (c.in-Some.end + 1) })

pub returns-in-None : goal.returns-in-None
returns-in-None c =
    let line = c.args.line.now in
    let whole = word_before line None c.in-None.ensures in
    record { word = sym (take_all (word_length_lem line) line (omega (arith, whole))); rest = sym (drop_all (word_length_lem line + 1) line (omega (arith, whole))) }
