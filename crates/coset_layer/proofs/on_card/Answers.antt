use Rattle.std.proofs.Common.{◌≡◌, ℕ, ◌+◌, ◌≤◌, List, ◌++◌, length, take, drop, sym, ap, ◌∙◌, subst, ap₂, arith, rules}
use Rattle.std.proofs.lemmas.List.{length-append, append_assoc}
use Rattle.code.specs.declared.refusal.Section.TheVariants.{Group, Transform, Coset}
use Rattle.code.specs.Limits.{max_rows}
use Rattle.card.specs.Cards.{max_section_rows}
use Rattle.card.specs.Rows.{Within}
use Rattle.coset_layer.specs.Pile.{layer_rows, pile_rows}
use Rattle.coset_layer.specs.Piles.{last_within, two_piles}
use Rattle.coset_layer.proofs.on_card.Goals as goal

pub returns-clause-rows : goal.returns-clause-rows
returns-clause-rows g c span rows =
    let k = c.args.card.now in
    let n = (g.F.Finder.meaning c.args.below).span in
    let below = (g.F.Finder.meaning c.args.below).rows in
    let coset = c.args.coset.now in
    let is = c.requires.coset in
    let lc = ap length is in
    let law = c.requires.lawful in
    let a = law.few Group in
    let b = law.few Transform in
    let d = law.few Coset in
    let l = ap length rows ∙ length-append k.group k.transform in
    let few : length coset ≤ max_section_rows = omega arith in
    let room : length below + length coset ≤ max_rows = omega arith in
    let whole : Within k.len k.coset = last_within k.len k.transform k.coset (last_within k.len k.group (k.transform ++ k.coset) law.within) in
    let within : Within n coset = subst (λ (m : ℕ). Within m coset) (sym span) (subst (λ (r : List ℕ). Within k.len r) (sym is) whole) in
    let lower : c.first_of.result ≡ take layer_rows coset = search rules in
    let upper : c.first_of-2.result ≡ take layer_rows (drop layer_rows coset) = search rules in
    ap₂ (λ (p q : List ℕ). pile_rows n (pile_rows n below p) q) lower upper
    ∙ two_piles n below coset few room within
    ∙ ap₂ (λ (p q : List ℕ). p ++ q) rows is
    ∙ append_assoc k.group k.transform k.coset
