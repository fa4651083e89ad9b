use Rattle.std.proofs.Common.{ℕ, List, ◌∷◌, get_or, take, sym, subst}
use lib.Bits.{bit_and, bit_or}
use Rattle.std.proofs.lemmas.List.{take_all, take_more}
use Rattle.std.proofs.lemmas.Bool.{eqb-true, eq-eqb}
use Rattle.card.specs.Places.{Places}
use Rattle.card.proofs.Places.{places_one, places_more, concur_from, from_concur, concur_after, concur_before}
use Rattle.card.proofs.concurrence.concurs.Goals as goal

pub loop-other-init : goal.loop-other-init
loop-other-init c = places_one c.args.row

pub loop-other-preserved : goal.loop-other-preserved
loop-other-preserved c =
    let g = c.args.group.now in
    let i = c.loop-other.other-index in
    let r = get_or g i 0 in
    subst (λ (l : List ℕ). Places (c.args.row ∷ l) (bit_or c.loop-other.seen r) (bit_or c.loop-other.many (bit_and c.loop-other.seen r)) (bit_and c.loop-other.all r))
    (sym (take_more g i 0 c.loop-other-test.true))
    (places_more (c.args.row ∷ take i g) r c.loop-other.seen c.loop-other.many c.loop-other.all c.loop-other.invariant)

pub returns : goal.returns
returns c =
    let g = c.args.group.now in
    let row = c.args.row in
    let seen = c.loop-other.seen in
    let many = c.loop-other.many in
    let all = c.loop-other.all in
    let p = subst (λ (l : List ℕ). Places (row ∷ l) seen many all) (take_all c.loop-other.other-index g c.loop-other-test.false) c.loop-other.invariant in
    record {
      only = λ t. concur_after g row (concur_from (row ∷ g) seen many all p (eqb-true (bit_and many all) many t));
      every = λ h. eq-eqb (bit_and many all) many (from_concur (row ∷ g) seen many all p (concur_before g row h));
    }
