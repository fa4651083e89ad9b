use Rattle.std.proofs.Common.{◌≡◌, ◌+◌, ◌-◌, ◌*◌, length, get_or, take, ap, ◌∙◌, arith}
use Rattle.std.proofs.lemmas.List.{take_more, length-take-le}
use Rattle.card_file.specs.Files.{row_bytes, rows_bytes}
use Rattle.card_file.proofs.FileBytes.{bytes_push, bytes_length, written_more}
use Rattle.card_file.proofs.bytes.write_rows.Goals as goal

pub loop-i-preserved : goal.loop-i-preserved
loop-i-preserved c =
    let rows = c.args.rows.now in
    let i = c.loop-i.i in
    let front = rows_bytes (take i rows) in
    let wide : 8 * i + 8 - 8 * i ≡ 8 = omega arith in
    let next : 8 * (i + 1) ≡ 8 * i + 8 = omega arith in
    let size : length front ≡ 8 * i = bytes_length (take i rows) ∙ ap (λ n. 8 * n) (length-take-le i rows (omega arith)) in
    rw (wide, next, take_more rows i 0 c.loop-i-test.true, bytes_push (take i rows) (get_or rows i 0), c.copy_from_slice.ensures.after, c.to_le_bytes.ensures)
    (written_more c.args.out.now front c.loop-i.out (row_bytes (get_or rows i 0)) (8 * i) 8 size c.loop-i.invariant)
