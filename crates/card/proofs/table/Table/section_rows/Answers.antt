use Rattle.std.proofs.Common.{◌≡◌, ◌+◌, ◌-◌, length, drop, arith}
use Rattle.std.proofs.lemmas.List.{length-take}
use Rattle.code.specs.declared.refusal.Section.TheVariants.{Group, Transform, Coset}
use Rattle.card.proofs.table.Table.section_rows.Goals as goal

pub returns-in-Group-clause-few : goal.returns-in-Group-clause-few
returns-in-Group-clause-few c = rw c.as_slice-rows.ensures.value (c.self.invariant.lawful.few Group)

pub returns-in-Transform-clause-few : goal.returns-in-Transform-clause-few
returns-in-Transform-clause-few c =
    let f = c.self.invariant.lawful.few Transform in
    let e : c.self.inside.group + c.self.inside.transform - c.self.inside.group ≡ c.self.inside.transform = omega arith in
    rw (c.as_slice-rows.ensures.value, e) f

pub returns-in-Coset-clause-few : goal.returns-in-Coset-clause-few
returns-in-Coset-clause-few c =
    let f = c.self.invariant.lawful.few Coset in
    let rows = c.as_slice-rows.result.now in
    let n = c.self.inside.group + c.self.inside.transform in
    let g = rw (← c.as_slice-rows.ensures.value) at f in
    omega (arith, g, length-take (length rows - n) (drop n rows))
