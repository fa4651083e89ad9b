use Rattle.std.proofs.Common.{◌<◌, ◌-◌, length, set, ◌∙◌, arith, length-set, suc, refl}
use Rattle.std.proofs.lemmas.List.{append-nil, drop_all}
use Rattle.card_file.proofs.FileBytes.{first_then}
use Rattle.card_file.proofs.bytes.write_section.Goals as goal

pub returns : goal.returns
returns c =
    let out = c.args.out.now in
    let n = length c.args.rows.now in
    let rest = length (set out 0 n) - 1 in
    let some : 0 < length out = omega (arith, c.requires.size) in
    first_then n rest c.write_rows.new.out out some
    ∙ rw (drop_all (suc rest) out (omega (arith, length-set out 0 n)), append-nil c.write_rows.new.out, c.write_rows.ensures) refl
