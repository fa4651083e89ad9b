use Rattle.std.proofs.Common.{ℕ, List, subst}
use Rattle.std.proofs.lemmas.List.{take_all}
use Rattle.card.specs.Echelon.{Reduced}
use Rattle.card.proofs.Echelons.{reduced_none, reduced_more}
use Rattle.card.proofs.dependence.reduce.Goals as goal

pub loop-lead-init : goal.loop-lead-init
loop-lead-init c = reduced_none c.args.row

pub loop-lead-preserved : goal.loop-lead-preserved
loop-lead-preserved c =
    reduced_more c.args.basis.now c.loop-lead.lead-index c.args.row c.loop-lead.rest c.without-rest.result
    c.loop-lead-test.true c.requires c.loop-lead.invariant c.without-rest.ensures

pub returns : goal.returns
returns c =
    subst (λ (l : List ℕ). Reduced l c.args.row c.loop-lead.rest) (take_all c.loop-lead.lead-index c.args.basis.now c.loop-lead-test.false) c.loop-lead.invariant
