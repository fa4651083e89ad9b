use Rattle.std.proofs.Common.{arith, ◌<◌, ◌∙◌}
use Rattle.std.proofs.lemmas.List.{length-set}
use Rattle.code.proofs.Tables.{zeros_pushed}
use Rattle.code.proofs.rows.Rows.put_last.Goals as goal

pub invariant_of-self : goal.invariant_of-self
invariant_of-self g c =
    let n = g.row.N in
    let t = c.self.inside.table in
    let k = c.self.inside.count in
    let inv = c.self.invariant in
    let room : k < n = omega arith in
    (length-set t k _ ∙ inv.0, omega arith, zeros_pushed n k _ t inv.0 room inv.2)
