use borrow.Rule.Slice.PartMut.{post_of}
use Rattle.std.proofs.Common.{◌≡◌, ℕ, ◌-◌, ◌^◌, ◌≤◌, ◌++◌, map, length, get_or, take, pos, sum_by, sym, ap, ◌∙◌, subst, arith, rules, pow_mono}
use Rattle.std.proofs.lemmas.Nat.{pow_pos}
use Rattle.std.proofs.lemmas.List.{length-take-le, length-map}
use Rattle.std.proofs.lemmas.Slice.{drop-append-drop}
use Rattle.code.specs.Limits.{sum_limit}
use Rattle.code.specs.Words.{Top, agrees}
use Rattle.code.proofs.Tops.{top_same}
use Rattle.hadamard.specs.Transform.{weight_at, Transformed}
use Rattle.hadamard.proofs.Entries.{at_take}
use Rattle.hadamard.proofs.Powers.{verdict-taken}
use Rattle.finder.specs.Search.{Answered}
use Rattle.finder.specs.Fold.{sum_of_slot}
use Rattle.finder.proofs.Refusals.{taken_facts}
use Rattle.finder.specs.PlainRows.{transform_taken, holds_agreements}
use Rattle.finder.proofs.plain.search_rows.Goals as goal

pub slice_bounds-list-end : goal.slice_bounds-list-end
slice_bounds-list-end g c =
    let t = c.in_ok-fold.ensures.taken in
    let f = (taken_facts c.args.span c.args.need (map g.R.Reading.size c.args.word.now) (length c.args.work.now) t).2 in
    let k = c.fold.auto.work in
    omega arith

pub unwrap-requires : goal.unwrap-requires
unwrap-requires g c =
    let z = g.R.Reading.size in
    let k = c.args.need in
    let mid = c.fold.new.work in
    let list = take (k - 0) mid in
    let folded = c.in_ok-fold.ensures in
    let f = (taken_facts c.args.span k (map z c.args.word.now) (length c.args.work.now) folded.taken).2 in
    let kept = c.fold.auto.work in
    let s : k - 0 ≡ k = omega arith in
    let is : list ≡ take k mid = ap (λ (j : ℕ). take j mid) s in
    let room : length list ≡ 2 ^ length c.args.rows.now = length-take-le (k - 0) mid (omega arith) ∙ s ∙ c.requires.room in
    let most = c.requires.sized.1 in
    let small : sum_by z list ≤ sum_limit = (let t = folded.total in let u = ap (sum_by z) is in omega arith) in
    rw (c.transform.ensures.value ∙ sym (verdict-taken (length list) (sum_by z list) (length c.args.rows.now) c.requires.few room small)) (search rules)

pub first_largest-requires : goal.first_largest-requires
first_largest-requires g c =
    let t = c.in_ok-fold.ensures.taken in
    let f = (taken_facts c.args.span c.args.need (map g.R.Reading.size c.args.word.now) (length c.args.work.now) t).2 in
    let k = c.fold.auto.work in
    let long = c.transform.auto.list ∙ length-take-le (c.args.need - 0) c.fold.new.work (omega arith) in
    let p = pow_pos (length c.args.rows.now) in
    let q : 2 ^ length c.args.rows.now ≤ 2 ^ 16 = pow_mono c.requires.few in
    let r = c.requires.room in
    (omega arith, omega arith)

pub returns : goal.returns
returns g c =
    let w = g.R.Reading.weight in
    let z = g.R.Reading.size in
    let rows = c.args.rows.now in
    let word = c.args.word.now in
    let work = c.args.work.now in
    let n = c.args.span in
    let k = c.args.need in
    let mid = c.fold.new.work in
    let final = c.transform.new.list in
    let folded = c.in_ok-fold.ensures in
    let facts = taken_facts n k (map z word) (length work) folded.taken in
    let f0 = facts.0 in
    let f2 = facts.2 in
    let kept = c.fold.auto.work in
    let e = length-map word z in
    let lw : n ≡ length word = omega arith in
    let s : k - 0 ≡ k = omega arith in
    let list = take (k - 0) mid in
    let is : list ≡ take k mid = ap (λ (j : ℕ). take j mid) s in
    let long : length list ≡ k = length-take-le (k - 0) mid (omega arith) ∙ s in
    let room : length list ≡ 2 ^ length rows = long ∙ c.requires.room in
    let most = c.requires.sized.1 in
    let small : sum_by z list ≤ sum_limit = (let t = folded.total in let u = ap (sum_by z) is in omega arith) in
    let done : Transformed g.R.Reading list final = transform_taken c.transform.result (Transformed g.R.Reading list final) (λ _. final ≡ list) (length list) (sum_by z list) (length rows) c.requires.few room small c.transform.ensures.value c.transform.ensures.list in
    let same = holds_agreements g.R.Reading rows c.columns-slots.result word list final c.requires.few room (λ i l. c.columns-slots.ensures i (omega arith))
    (λ x l. at_take w (pos 0) (k - 0) mid x (omega arith) ∙ folded.sums x (omega arith) ∙ ap (λ (j : ℕ). sum_of_slot (λ i. get_or c.columns-slots.result i 0) (weight_at w word) j x) lw) done in
    let m = c.first_largest.result.message in
    let top = subst (λ (j : ℕ). Top (weight_at w final) j m) (c.transform.auto.list ∙ room) c.first_largest.ensures.top in
    record {
      taken = folded.taken;
      is_best = top_same (weight_at w final) (agrees rows (map w word)) (2 ^ length rows) m same top;
      weighs = c.first_largest.ensures.weighs ∙ same m top.within;
      beyond = drop-append-drop (k - 0) mid final k (omega arith) (c.transform.auto.list ∙ length-take-le (k - 0) mid (omega arith)) ∙ folded.beyond;
    }
