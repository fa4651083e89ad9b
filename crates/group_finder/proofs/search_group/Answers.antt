use Rattle.std.proofs.Common.{◌≡◌, ℕ, ◌+◌, ◌*◌, ◌^◌, ◌<◌, ◌≤◌, map, length, get_or, take, pos, sum_by, sym, ap, ◌∙◌, arith, pow_mono}
use Rattle.std.proofs.lemmas.Nat.{pow_pos}
use Rattle.std.proofs.lemmas.List.{length-take-le, length-map}
use Rattle.std.proofs.lemmas.Slice.{drop-append-drop}
use Rattle.code.specs.Limits.{sum_limit}
use Rattle.hadamard.specs.Transform.{weight_at}
use Rattle.hadamard.proofs.Entries.{at_take}
use Rattle.finder.specs.Fold.{sum_of_slot}
use Rattle.finder.proofs.Refusals.{taken_facts}
use Rattle.group_finder.specs.Concurring.{concurs_at}
use Rattle.group_finder.proofs.Whole.{sizes_fit, value_agrees, whole_best}
use Rattle.group_finder.proofs.search_group.Goals as goal

pub group_slots-slots-requires-clause-concurs : goal.group_slots-slots-requires-clause-concurs
group_slots-slots-requires-clause-concurs g c = concurs_at c.args.group.now c.requires.concur

pub slice_bounds-readings-end : goal.slice_bounds-readings-end
slice_bounds-readings-end g c =
    let f = (taken_facts c.args.places c.args.need (map g.R.Reading.size c.args.word.now) (length c.args.work.now) c.in_ok-fold.ensures.taken).2 in
    let k = c.fold.auto.work in
    let h : c.args.need ≤ length c.fold.new.work = omega arith in
    h

pub slice_bounds-readings-end-2 : goal.slice_bounds-readings-end-2
slice_bounds-readings-end-2 g c =
    let f = (taken_facts c.args.places c.args.need (map g.R.Reading.size c.args.word.now) (length c.args.work.now) c.in_ok-fold.ensures.taken).2 in
    let k = c.fold.auto.work in
    sym (length-take-le c.args.need c.fold.new.work (omega arith))

pub transform_parts-requires-clause-long : goal.transform_parts-requires-clause-long
transform_parts-requires-clause-long g c =
    let f = (taken_facts c.args.places c.args.need (map g.R.Reading.size c.args.word.now) (length c.args.work.now) c.in_ok-fold.ensures.taken).2 in
    let k = c.fold.auto.work in
    length-take-le c.args.need c.fold.new.work (omega arith) ∙ c.requires.room ∙ ap (λ (x : ℕ). (length c.args.group.now + 2) * x) (sym c.choice_count-span.ensures)

pub invariant_of-lists : goal.invariant_of-lists
invariant_of-lists g c =
    let z = g.R.Reading.size in
    let f1 = c.requires.few.1 in
    let group = c.args.group.now in
    let others = c.args.others.now in
    let k = c.args.need in
    let mid = c.fold.new.work in
    let span = c.choice_count-span.result in
    let is = c.choice_count-span.ensures in
    let p = pow_pos (length others) in
    let u : 2 ^ length others ≤ 2 ^ 8 = pow_mono f1 in
    let folded = c.in_ok-fold.ensures in
    let facts = (taken_facts c.args.places k (map z c.args.word.now) (length c.args.work.now) folded.taken).2 in
    let kept = c.fold.auto.work in
    let most = c.requires.sized.1 in
    let small : sum_by z (take k mid) ≤ sum_limit = (let t = folded.total in omega arith) in
    record {
      few = (c.requires.few.0, omega arith, omega arith);
      long = c.transform_parts.auto.lists ∙ length-take-le k mid (omega arith) ∙ c.requires.room ∙ ap (λ (x : ℕ). (length group + 2) * x) (sym is);
      small = λ t l. sizes_fit g.R.Reading span (length group + 2) t (take k mid) c.transform_parts.new.lists c.transform_parts.ensures l small;
    }

pub returns : goal.returns
returns g c =
    let w = g.R.Reading.weight in
    let z = g.R.Reading.size in
    let word = c.args.word.now in
    let work = c.args.work.now in
    let group = c.args.group.now in
    let others = c.args.others.now in
    let n = c.args.places in
    let k = c.args.need in
    let mid = c.fold.new.work in
    let final = c.transform_parts.new.lists in
    let slots = c.group_slots-slots.result in
    let span = c.choice_count-span.result in
    let is = c.choice_count-span.ensures in
    let folded = c.in_ok-fold.ensures in
    let facts = taken_facts n k (map z word) (length work) folded.taken in
    let f0 = facts.0 in
    let f2 = facts.2 in
    let kept = c.fold.auto.work in
    let e = length-map word z in
    let lw : n ≡ length word = omega arith in
    let list = take k mid in
    let ll : length list ≡ k = length-take-le k mid (omega arith) in
    let room : length list ≡ (length group + 2) * span = ll ∙ c.requires.room ∙ ap (λ (x : ℕ). (length group + 2) * x) (sym is) in
    let kinds = λ (i : ℕ) (l : i < length word). c.group_slots-slots.ensures.slots i (omega arith) in
    let entries = λ (i : ℕ) (l : i < length word). c.group_slots-slots.ensures.entries i (omega arith) in
    let sums = λ (x : ℕ) (l : x < length list). at_take w (pos 0) k mid x (omega arith) ∙ folded.sums x (omega arith) ∙ ap (λ (j : ℕ). sum_of_slot (λ i. get_or slots i 0) (weight_at w word) j x) lw in
    let done = c.transform_parts.ensures in
    let m = c.best.result.message in
    let top = c.best.ensures.top in
    record {
      taken = folded.taken;
      is_best = whole_best g.R.Reading group others slots word list final span is room kinds entries sums done m top;
      weighs = c.best.ensures.weighs ∙ value_agrees g.R.Reading group others slots word list final span is room kinds entries sums done m top.within;
      beyond = drop-append-drop k mid final k (omega arith) (c.transform_parts.auto.lists ∙ ll) ∙ folded.beyond;
    }
