use Rattle.std.proofs.Common.{◌<◌, length, pos, ap, ◌∙◌, arith, below_more}
use Rattle.hadamard.proofs.Entries.{same_at, other_at}
use Rattle.finder.proofs.Folds.{blank_more}
use Rattle.finder.proofs.fold.blank.Goals as goal

pub loop-x-preserved : goal.loop-x-preserved
loop-x-preserved g c =
    let w = g.R.Reading.weight in
    let z = g.R.Reading.size in
    let i = c.loop-x.x-index in
    let v = c.make-zero.result in
    let lt : i < length c.loop-x.list = omega arith in (
      below_more _ _ (λ k h. other_at w c.loop-x.list i k v (pos 0) (omega arith) ∙ c.loop-x.invariant.0 k h) (same_at w c.loop-x.list i v (pos 0) lt ∙ c.make-zero.ensures.weighs ∙ ap pos (omega arith)),
      blank_more z c.loop-x.list i v lt c.loop-x.invariant.1 (let s = c.make-zero.ensures.small in omega arith),
    )
