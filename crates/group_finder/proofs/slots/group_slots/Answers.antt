use Rattle.std.proofs.Common.{◌≡◌, ℕ, ◌+◌, ◌*◌, ◌/◌, ◌^◌, ◌<◌, ◌≤◌, List, length, get_or, take, set, sym, ap, ◌∙◌, subst, ap₂, arith, pow_mono, below_more}
use lib.Arith.{digits_div, digits_lt}
use Rattle.std.proofs.lemmas.List.{get_or-set_same, get_or-set_other, length-set, take_all}
use Rattle.finder.specs.Fold.{column, column_rows}
use Rattle.finder.specs.Gather.{column_below}
use Rattle.group_finder.specs.Choices.{Slotted, Concurs}
use Rattle.group_finder.proofs.SlotSums.{slot_below}
use Rattle.group_finder.proofs.slots.group_slots.Goals as goal

-- the columns of few rows are those of all of them
few_column : (rows : List ℕ) (i : ℕ) → length rows ≤ 8 → column (take column_rows rows) i ≡ column rows i
few_column rows i h = ap (λ (r : List ℕ). column r i) (take_all column_rows rows (omega arith))

pub slot_of-slot-requires : goal.slot_of-slot-requires
slot_of-slot-requires c =
    let group = c.args.group.now in
    let e = c.columns-groups.ensures c.loop-i.i (let p = c.places-i-end.ensures.value in omega arith) ∙ few_column group c.loop-i.i c.requires.few.0 in
    (c.requires.few.0, subst (λ (x : ℕ). Concurs (length group) x) (sym e) (c.requires.concurs c.loop-i.i))

low_column : (span : ℕ) (others : List ℕ) (i : ℕ) → span ≡ 2 ^ length others → column others i < span
low_column span others i e = let b = column_below others i in omega arith

pub overflow_add-slots : goal.overflow_add-slots
overflow_add-slots c =
    let q = c.slot_of-slot.result in
    let i = c.loop-i.i in
    let f0 = c.requires.few.0 in
    let f1 = c.requires.few.1 in
    let f2 = c.requires.few.2 in
    let group = c.args.group.now in
    let others = c.args.others.now in
    let e = c.loop-i.invariant.3 i (omega arith) c.loop-i-test.true in
    let s = slot_below (length group) _ q c.slot_of-slot.ensures in
    let lq : q < 10 = omega arith in
    let lc = low_column c.args.span others i f2 in
    let p : 2 ^ length others ≤ 2 ^ 8 = pow_mono f1 in
    let d : q * c.args.span + column others i < 10 * c.args.span = digits_lt lq lc in
    omega arith

pub loop-i-preserved : goal.loop-i-preserved
loop-i-preserved c =
    let xs = c.loop-i.slots in
    let i = c.loop-i.i in
    let span = c.args.span in
    let q = c.slot_of-slot.result in
    let group = c.args.group.now in
    let others = c.args.others.now in
    let old = get_or xs i 0 in
    let v = q * span + old in
    let long : length xs ≡ 64 = c.loop-i.invariant.0 in
    let within : i < c.args.places = (let p = c.places-i-end.ensures.value in omega arith) in
    let most = c.places-i-end.ensures.lawful.1 in
    let low : i < length xs = omega arith in
    let d : old ≡ column others i = c.loop-i.invariant.3 i (omega arith) c.loop-i-test.true in
    let g : get_or c.columns-groups.result i 0 ≡ column group i = c.columns-groups.ensures i within ∙ few_column group i c.requires.few.0 in
    let lc : old < span = (let h = low_column span others i c.requires.few.2 in omega arith) in
    let same : get_or (set xs i v) i 0 ≡ v = get_or-set_same xs i v 0 low in
    let part : get_or (set xs i v) i 0 / span ≡ q = ap (λ (x : ℕ). x / span) same ∙ digits_div q lc in
    let other : (k : ℕ) → (k ≡ i → ⊥) → get_or (set xs i v) k 0 ≡ get_or xs k 0 = λ k h. get_or-set_other xs i k v 0 h in (
      simp length-set long,
      below_more (λ k. Slotted (length group) (column group k) (get_or (set xs i v) k 0 / span)) i
          (λ k h. subst (λ (x : ℕ). Slotted (length group) (column group k) (x / span)) (sym (other k (omega arith))) (c.loop-i.invariant.1 k h))
          (subst (λ (x : ℕ). Slotted (length group) (column group i) x) (sym part) (subst (λ (x : ℕ). Slotted (length group) x q) g c.slot_of-slot.ensures)),
      below_more (λ k. get_or (set xs i v) k 0 ≡ get_or (set xs i v) k 0 / span * span + column others k) i
          (λ k h. subst (λ (x : ℕ). x ≡ x / span * span + column others k) (sym (other k (omega arith))) (c.loop-i.invariant.2 k h))
          (same ∙ ap₂ (λ (x y : ℕ). x * span + y) (sym part) d),
      λ k h l. other k (omega arith) ∙ c.loop-i.invariant.3 k (omega arith) l,
    )
