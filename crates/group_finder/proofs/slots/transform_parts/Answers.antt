use Rattle.std.proofs.Common.{◌≡◌, ℕ, ◌+◌, ◌-◌, ◌*◌, ◌^◌, ◌≤◌, List, length, take, drop, sum_by, sym, ap, ◌∙◌, subst, arith, rules}
use borrow.Rule.Slice.PartMut.{put_mid}
use Rattle.code.specs.Limits.{sum_limit}
use Rattle.hadamard.specs.Transform.{Transformed}
use Rattle.hadamard.proofs.Powers.{verdict-taken}
use Rattle.group_finder.specs.Choices.{PartsDone}
use Rattle.finder.specs.PlainRows.{transform_taken}
use Rattle.group_finder.proofs.Parts.{part_same, part_long, part_small, parts_step, parts_rest}
use Rattle.group_finder.proofs.slots.transform_parts.Goals as goal

pub unwrap-requires : goal.unwrap-requires
unwrap-requires g c =
    let z = g.R.Reading.size in
    let span = c.args.span in
    let q = c.loop-q.q in
    let cur = c.loop-q.lists in
    let long : length cur ≡ c.args.count * span = c.loop-q.auto.lists ∙ c.requires.long in
    let low = c.loop-q-test.true in
    let rest = c.loop-q.invariant.1 in
    let k : q * span + span - q * span ≡ span = omega arith in
    let part = take (q * span + span - q * span) (drop (q * span) cur) in
    let same : part ≡ take span (drop (q * span) c.args.lists.now) = ap (λ (j : ℕ). take j (drop (q * span) cur)) k ∙ part_same g.R.Reading span q c.args.count c.args.lists.now cur c.transform.new.list long low rest in
    let room : length part ≡ 2 ^ c.requires.power.0 = ap (λ (j : ℕ). length (take j (drop (q * span) cur))) k ∙ part_long g.R.Reading span q c.args.count c.args.lists.now cur c.transform.new.list long low rest ∙ c.requires.power.1.1 in
    let small : sum_by z part ≤ sum_limit = (let e = ap (sum_by z) same in let s = part_small g.R.Reading span q c.args.count c.args.lists.now cur c.transform.new.list long low rest c.requires.small in omega arith) in
    rw (c.transform.ensures.value ∙ sym (verdict-taken (length part) (sum_by z part) c.requires.power.0 (let f = c.requires.power.1.0 in omega arith) room small)) (search rules)

pub loop-q-preserved : goal.loop-q-preserved
loop-q-preserved g c =
    let w = g.R.Reading.weight in
    let z = g.R.Reading.size in
    let span = c.args.span in
    let q = c.loop-q.q in
    let count = c.args.count in
    let old = c.args.lists.now in
    let cur = c.loop-q.lists in
    let ys = c.transform.new.list in
    let long : length cur ≡ count * span = c.loop-q.auto.lists ∙ c.requires.long in
    let low = c.loop-q-test.true in
    let rest = c.loop-q.invariant.1 in
    let k : q * span + span - q * span ≡ span = omega arith in
    let mid : take (q * span + span - q * span) (drop (q * span) cur) ≡ take span (drop (q * span) old) = ap (λ (j : ℕ). take j (drop (q * span) cur)) k ∙ part_same g.R.Reading span q count old cur ys long low rest in
    let lmid : length (take (q * span + span - q * span) (drop (q * span) cur)) ≡ span = ap (λ (j : ℕ). length (take j (drop (q * span) cur))) k ∙ part_long g.R.Reading span q count old cur ys long low rest in
    let small : sum_by z (take (q * span + span - q * span) (drop (q * span) cur)) ≤ sum_limit = (let e = ap (sum_by z) mid in let s = part_small g.R.Reading span q count old cur ys long low rest c.requires.small in omega arith) in
    let tr : Transformed g.R.Reading (take (q * span + span - q * span) (drop (q * span) cur)) ys =
    transform_taken c.transform.result (Transformed g.R.Reading (take (q * span + span - q * span) (drop (q * span) cur)) ys) (λ _. ys ≡ take (q * span + span - q * span) (drop (q * span) cur))
    (length (take (q * span + span - q * span) (drop (q * span) cur))) (sum_by z (take (q * span + span - q * span) (drop (q * span) cur))) c.requires.power.0 (let q = c.requires.power.1.0 in omega arith) (lmid ∙ c.requires.power.1.1) small c.transform.ensures.value c.transform.ensures.list in
    let tr' = subst (λ (l : List g.row.R.Denot). Transformed g.R.Reading l ys) mid tr in
    let lys : length ys ≡ span = c.transform.auto.list ∙ lmid in (
      subst (λ (j : ℕ). PartsDone g.R.Reading span (q + 1) old (put_mid (q * span) j cur ys)) (sym k) (parts_step g.R.Reading span q count old cur ys long low rest lys c.loop-q.invariant.0 tr'),
      subst (λ (j : ℕ). drop ((q + 1) * span) (put_mid (q * span) j cur ys) ≡ drop ((q + 1) * span) old) (sym k) (parts_rest g.R.Reading span q count old cur ys long low rest lys c.loop-q.invariant.0 tr'),
    )
