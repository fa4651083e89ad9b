use Rattle.std.proofs.Common.{◌+◌, ◌<◌, ◌≤◌, length, sym, subst, arith}
use Rattle.std.proofs.lemmas.List.{get_or_default}
use Rattle.code.specs.Limits.{full_label, sum_limit}
use Rattle.sample.specs.declared.Sample.TheVariants.{Dropout}
use Rattle.sheet.proofs.Adds.{added_more}
use Rattle.sheet.proofs.cells.add_samples.Goals as goal

pub grown-requires : goal.grown-requires
grown-requires g c =
    let i = c.loop-place.place in
    let a = c.index-cells-place.result in
    let on : i < length c.args.samples.now = omega arith in
    record {
      room = subst (λ y. g.R.Reading.size y + full_label ≤ sum_limit) (sym (c.loop-place.invariant.others i a (omega arith))) (c.requires.fits i Dropout a on).room;
      good = c.requires.good i _ on;
    }

pub loop-place-preserved : goal.loop-place-preserved
loop-place-preserved g c =
    let i = c.loop-place.place in
    let on : i < length c.args.samples.now = omega arith in
    added_more _ _ _ _ _ _ _ _ (omega arith) on (get_or_default c.loop-place.cells i _ _ (omega arith)) c.grown.ensures c.loop-place.invariant
