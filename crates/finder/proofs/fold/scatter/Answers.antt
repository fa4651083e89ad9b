use Rattle.std.proofs.Common.{◌≡◌, ℕ, ◌+◌, ◌<◌, ◌≤◌, [], ◌∷◌, ◌++◌, length, get_or, set, pos, ◌+ℤ◌, sym, ap, ◌∙◌, subst, ap₂, arith, rules}
use Rattle.std.proofs.lemmas.List.{length-set, length-append}
use Rattle.std.proofs.lemmas.Slice.Zip.{zip_turn}
use Rattle.std.proofs.lemmas.List.Sums.{get_or-le-sum_by}
use Rattle.std.proofs.ByRecursion.{All-get_or}
use Rattle.code.specs.Limits.{size_limit}
use Rattle.hadamard.proofs.Entries.{read_at}
use Rattle.finder.proofs.Folds.{Scattered, fold_skips, fold_step, total_step}
use Rattle.finder.proofs.fold.scatter.Goals as goal

pub add-requires : goal.add-requires
add-requires g c =
    let size = g.R.Reading.size in
    let word = c.args.word.now in
    let cur = c.loop-x.list in
    let i = length c.loop-x.yielded in
    let turn = zip_turn word c.args.slots.now c.loop-x.yielded c.into_iter-x-iterator.result c.loop-x.x-iterator c.next.new.self c.next.result (search rules) (search rules) c.loop-x.yielded_by _ c.in-Some.is c.next.ensures.steps in
    let x = c.in-Some.x.now in
    let low : i < length word = turn.0 in
    let small = All-get_or (λ x. size x ≤ size_limit) word i x low c.requires.small in
    let f = ap size (turn.2 x) in
    let old = get_or-le-sum_by size cur c.in-Some.slot.now c.index-list-at.result c.if-at-list.true in
    let e = ap size c.index-list-at.is in
    let t = c.loop-x.invariant.1 in
    let n = c.requires.fits.1 in
    omega arith

pub loop-x-preserved-then-at-list : goal.loop-x-preserved-then-at-list
loop-x-preserved-then-at-list g c =
    let w = g.R.Reading.weight in
    let size = g.R.Reading.size in
    let slots = c.args.slots.now in
    let word = c.args.word.now in
    let cur = c.loop-x.list in
    let i = length c.loop-x.yielded in
    let turn = zip_turn word slots c.loop-x.yielded c.into_iter-x-iterator.result c.loop-x.x-iterator c.next.new.self c.next.result (search rules) (search rules) c.loop-x.yielded_by _ c.in-Some.is c.next.ensures.steps in
    let at : c.in-Some.slot.now ≡ get_or slots i 0 = turn.3 0 in
    let n : length (c.loop-x.yielded ++ (c.in-Some.x, c.in-Some.slot) ∷ []) ≡ i + 1 = length-append c.loop-x.yielded _ in
    let x = c.in-Some.x.now in
    let here : x ≡ get_or word i x = turn.2 x in
    let new = read_at w word i x (pos 0) turn.0 here in
    let small = All-get_or (λ x. size x ≤ size_limit) word i x turn.0 c.requires.small in
    let f = ap size here in
    let low : get_or slots i 0 < length cur = let h = c.if-at-list.true in omega arith in
    let v = c.add.result in
    let held = c.index-list-at.is ∙ ap (λ (k : ℕ). get_or cur k c.index-list-at.result) at in
    let old = read_at w cur (get_or slots i 0) c.index-list-at.result (pos 0) low held in
    subst (λ (k : ℕ). Scattered g.R.Reading slots word (set cur k v) (length (c.loop-x.yielded ++ (c.in-Some.x, c.in-Some.slot) ∷ []))) (sym at) (
    subst (Scattered g.R.Reading slots word (set cur (get_or slots i 0) v)) (sym n) (
      λ x l. fold_step g.R.Reading slots word cur i v low c.loop-x.invariant.0 (c.add.ensures.weighs ∙ ap₂ (λ a b. a +ℤ b) (sym old) (sym new)) x (simp length-set at l),
      total_step g.R.Reading slots word cur i v low c.index-list-at.result held (size x) c.add.ensures.small (omega arith) c.loop-x.invariant.1,
    ))

pub loop-x-preserved : goal.loop-x-preserved
loop-x-preserved g c =
    let w = g.R.Reading.weight in
    let size = g.R.Reading.size in
    let slots = c.args.slots.now in
    let word = c.args.word.now in
    let cur = c.loop-x.list in
    let i = length c.loop-x.yielded in
    let turn = zip_turn word slots c.loop-x.yielded c.into_iter-x-iterator.result c.loop-x.x-iterator c.next.new.self c.next.result (search rules) (search rules) c.loop-x.yielded_by _ c.in-Some.is c.next.ensures.steps in
    let at : c.in-Some.slot.now ≡ get_or slots i 0 = turn.3 0 in
    let n : length (c.loop-x.yielded ++ (c.in-Some.x, c.in-Some.slot) ∷ []) ≡ i + 1 = length-append c.loop-x.yielded _ in
    let high : length cur ≤ get_or slots i 0 = let h = c.if-at-list.false in omega arith in
    let t = c.loop-x.invariant.1 in
    subst (Scattered g.R.Reading slots word cur) (sym n) (fold_skips g.R.Reading slots word cur i high c.loop-x.invariant.0, omega arith)
