use Rattle.std.proofs.Common.{◌≡◌, ◌-◌, ◌++◌, length, take, refl, sym, ap, ◌∙◌, subst, arith}
use Rattle.std.proofs.lemmas.List.{length-append, take_at}
use Rattle.code.specs.declared.refusal.Section.TheVariants.{Group, Transform}
use Rattle.card.specs.Rows.{Concur}
use Rattle.finder.specs.Search.{Meaning}
use Rattle.group_finder.proofs.with_group.Goals as goal

pub invariant_of-result : goal.invariant_of-result
invariant_of-result c =
    let k = c.args.card.now in
    let rows = c.args.plain.rows in
    let is : rows ≡ k.group ++ k.transform = ap (λ (m : Meaning). m.rows) c.requires.plain in
    let l = ap length is ∙ length-append k.group k.transform in
    let e = c.requires.group in
    let a = c.requires.lawful.few Group in
    let b = c.requires.lawful.few Transform in
    let front : take c.args.group rows ≡ k.group = ap (take c.args.group) is ∙ take_at k.group k.transform c.args.group (sym e) in
    record { few = (omega arith, omega arith, omega arith); concur = subst Concur (sym front) c.requires.lawful.concurring }

pub returns-clause-meaning : goal.returns-clause-meaning
returns-clause-meaning c =
    let k = c.args.card.now in
    let rows = c.args.plain.rows in
    let is : rows ≡ k.group ++ k.transform = ap (λ (m : Meaning). m.rows) c.requires.plain in
    let span : c.args.plain.span ≡ k.len = ap (λ (m : Meaning). m.span) c.requires.plain in
    let l = length-append k.group k.transform in
    let others : length (k.group ++ k.transform) - length k.group ≡ length k.transform = omega arith in
    rw (span, is, c.requires.group, others) refl
