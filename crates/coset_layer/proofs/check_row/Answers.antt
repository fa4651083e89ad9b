use Rattle.std.proofs.Common.{◌≡◌, ◌^◌, true, ltb, arith, rules}
use Rattle.std.proofs.lemmas.Bool.{ltb-true}
use Rattle.coset_layer.specs.Piles.{pile_more}
use Rattle.coset_layer.proofs.check_row.Goals as goal

pub returns-clause-whole : goal.returns-clause-whole
returns-clause-whole c below own lb lo =
    let fits : ltb c.args.row (2 ^ c.args.n) ≡ true = search rules in
    pile_more c.args.n below own c.args.row (omega arith) (ltb-true c.args.row (2 ^ c.args.n) fits)
