use Rattle.std.proofs.Common.{◌≡◌, ◌≢◌, get_or, set, ◌∙◌, arith, below_more}
use Rattle.std.proofs.lemmas.List.{get_or-set_same, get_or-set_other}
use Rattle.code.specs.Words.{digit}
use Rattle.played.specs.Played.{played_as}
use Rattle.played.proofs.write_digits.Goals as goal

pub loop-place-preserved : goal.loop-place-preserved
loop-place-preserved c =
    let i = c.loop-place.place in
    let ys = c.loop-place.samples in
    let y = c.digit_sample.result in
    λ k x h. below_more (λ j. get_or (set ys i y) j x ≡ played_as (digit j c.args.levels) (digit j c.args.word)) i
    (λ j hj. let ne : j ≢ i = omega arith in get_or-set_other ys i j y x ne ∙ c.loop-place.invariant j x hj)
    (get_or-set_same ys i y x (omega arith) ∙ c.digit_sample.ensures)
    k h
