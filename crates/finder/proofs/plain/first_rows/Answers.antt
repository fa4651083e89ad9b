use Rattle.std.proofs.Common.{◌≡◌, ℕ, ◌+◌, ◌-◌, List, refl, length, take, sym, ap, ap₂, ◌∙◌, subst, arith}
use Rattle.std.proofs.lemmas.List.{take_all, length-take}
use Rattle.code.specs.Limits.{Length}
use Rattle.card.specs.Rows.{Within}
use Rattle.card.specs.Cards.{Card, Lawful, rows_of}
use Rattle.finder.proofs.CardRows.{first_two, first_few, first_within}
use Rattle.finder.proofs.plain.first_rows.Goals as goal

-- the table holds the first rows of the card
taken : (k : Card) (count : ℕ) (all held : List ℕ) → count ≡ length k.group + length k.transform → Lawful k → all ≡ rows_of k → held ≡ take 16 (take (count - 0) all) → held ≡ take count (rows_of k)
taken k count all held is law same h =
    let s : count - 0 ≡ count = omega arith in
    let few = first_few k count is law in
    let t = length-take (count - 0) all in
    h ∙ take_all 16 (take (count - 0) all) (omega arith) ∙ ap₂ (λ (n : ℕ) (l : List ℕ). take n l) s same

pub invariant_of-result : goal.invariant_of-result
invariant_of-result c =
    let k = c.args.card.now in
    let law = c.rows.ensures.lawful in
    let is = taken k c.args.count c.rows.result.now c.first_of.result c.requires law c.rows.ensures.value c.first_of.ensures in
    let t = length-take c.args.count (rows_of k) in
    let few = first_few k c.args.count c.requires law in
    let l = ap length is in
    record {
      sized = subst Length (sym c.word_length.ensures.value) law.sized;
      few = omega arith;
      within =
          subst (λ (n : ℕ). Within n c.first_of.result) (sym c.word_length.ensures.value)
          (subst (λ (l : List ℕ). Within k.len l) (sym is) (first_within k c.args.count c.requires law));
    }

pub returns : goal.returns
returns c =
    let k = c.args.card.now in
    let is = taken k c.args.count c.rows.result.now c.first_of.result c.requires c.rows.ensures.lawful c.rows.ensures.value c.first_of.ensures ∙ first_two k c.args.count c.requires in
    rw (is, c.word_length.ensures.value) refl
