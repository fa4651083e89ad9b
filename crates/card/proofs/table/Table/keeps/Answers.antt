use Rattle.std.proofs.Common.{List, ℕ, [], ◌∷◌, ◌++◌, sym, subst}
use Rattle.std.specs.Cmp.{both_ways}
use Rattle.card.specs.Rows.{Concur, concordant}
use Rattle.card.proofs.Decided.{concordant_from, concur_from_concordant}
use Rattle.card.proofs.Tables.{within_push, within_left}
use Rattle.card.proofs.table.Table.keeps.Goals as goal

pub returns-in-Group : goal.returns-in-Group
returns-in-Group c =
    let k = c.args.self.now in
    let row = c.args.row in
    let group = k.group ++ row ∷ [] in
    let v = c.section_rows.ensures.value in
    let w = within_push k.len k.group row (within_left k.len k.group (k.transform ++ k.coset) c.section_rows.ensures.lawful.within) c.requires in
    rw c.in-Group.is
    (both_ways c.concurs.result (concordant k.len group)
    (λ h. concordant_from k.len group (subst (λ (l : List ℕ). Concur (l ++ row ∷ [])) v (c.concurs.ensures.only h)))
    (λ h. c.concurs.ensures.every (subst (λ (l : List ℕ). Concur (l ++ row ∷ [])) (sym v) (concur_from_concordant k.len group w h))))
