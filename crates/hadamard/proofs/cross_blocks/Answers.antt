use Rattle.std.proofs.Common.{◌≡◌, ◌+◌, ◌-◌, ◌*◌, ◌≤◌, length, take, drop, sym, ap, ◌∙◌, subst, mul-le-mul_right, arith, rules}
use borrow.Rule.Slice.PartMut.{put_mid}
use denote.Param.{layout}
use prog.Memory.{size as bytes_of}
use Rattle.hadamard.specs.Stages.{Crossed, Staged}
use Rattle.hadamard.proofs.Blocks.{fits, block_long, stage_step}
use Rattle.hadamard.proofs.cross_blocks.Given as given
use Rattle.hadamard.proofs.cross_blocks.Goals as goal
use Rattle.hadamard.proofs.cross_blocks.Goals.{In-loop-b}

-- the block ends within the list
within : (g : given.Over) (c : In-loop-b g) → c.loop-b.b * (c.args.half + c.args.half) + (c.args.half + c.args.half) ≤ length c.args.list.now
within g c = fits (c.args.half + c.args.half) c.args.blocks c.loop-b.b (length c.args.list.now) c.loop-b-test.true c.requires.long

pub overflow_add-size : goal.overflow_add-size
overflow_add-size g c = omega (arith, within g c)

pub overflow_mul-base : goal.overflow_mul-base
overflow_mul-base g c = omega (arith, within g c)

pub overflow_add-base : goal.overflow_add-base
overflow_add-base g c = omega (arith, within g c)

pub offset_bounds-list-base : goal.offset_bounds-list-base
offset_bounds-list-base g c =
    let w = within g c in
    let l : c.loop-b.b * (c.args.half + c.args.half) ≤ length c.args.list.now = omega arith in
    omega (arith, mul-le-mul_right (bytes_of (layout g.row.R)) l)

pub slice_bounds-cross-end : goal.slice_bounds-cross-end
slice_bounds-cross-end g c = let w = within g c in search rules

pub loop-b-preserved : goal.loop-b-preserved
loop-b-preserved g c =
    let weight = g.R.Reading.weight in
    let size = g.R.Reading.size in
    let h = c.args.half in
    let k = c.loop-b.b in
    let cur = c.loop-b.list in
    let ys = c.cross.new.list in
    let w = fits (h + h) c.args.blocks k (length c.args.list.now) c.loop-b-test.true c.requires.long in
    let s : k * (h + h) + (h + h) - k * (h + h) ≡ h + h = omega arith in
    let long = c.cross.auto.list ∙ ap (λ m. length (take m (drop (k * (h + h)) cur))) s ∙ block_long (h + h) c.args.blocks k cur c.loop-b-test.true (c.loop-b.auto.list ∙ c.requires.long) in
    let crossed = subst (λ m. Crossed g.R.Reading h h (take m (drop (k * (h + h)) cur)) ys) s c.cross.ensures in
    subst (λ m. Staged g.R.Reading h c.args.blocks (k + 1) c.args.list.now (put_mid (k * (h + h)) m cur ys)) (sym s)
    (stage_step g.R.Reading h c.args.blocks k c.args.list.now cur ys long (omega (arith, c.loop-b.auto.list)) c.loop-b-test.true c.loop-b.invariant crossed)
