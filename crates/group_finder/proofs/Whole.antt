-- The group finder as a whole.
use Rattle.std.proofs.Common.{◌≡◌, ℕ, zero, suc, ◌+◌, ◌*◌, ◌/◌, ◌%◌, ◌^◌, ◌<◌, ◌≤◌, cond, eqb, List, ◌++◌, map, length, get_or, take, drop, ℤ, pos, ◌+ℤ◌, sum_by, sym, ap, ◌∙◌, subst, ap₂, mul-le-mul_right, mod-lt, div-lt_iff_lt-mul, add-mul, add-one, arith, pow-add}
use native.Mathlib.Nat.{mod-add-div'}
use lib.Arith.{digits_lt}
use Rattle.code.specs.Limits.{sum_limit}
use Rattle.std.proofs.lemmas.Nat.{pow_pos}
use Rattle.std.proofs.lemmas.List.{length-map, length-append, length-take-le, length-drop, drop-drop, drop-map, take-map, get_or-take, get_or-drop}
use Rattle.std.proofs.lemmas.List.Sums.{sum_by-take-drop}
use Rattle.hadamard.specs.Transform.{weight_at, size_at}
use Rattle.code.specs.Words.{negated_if, agrees, Top, Best}
use Rattle.hadamard.proofs.Sums.{summed_ext}
use Rattle.code.proofs.Tops.{top_same}
use Rattle.finder.specs.Fold.{column, sum_of_slot}
use Rattle.group_finder.specs.Choices.{totalled, choice_value, group_value, Slotted, slot_sum, PartsDone, parity}
use Rattle.finder.specs.Gather.{column_below}
use Rattle.group_finder.proofs.SlotSums.{decompose, part_spectrum}
use Rattle.group_finder.proofs.Sizes.{totalled_mono}
use Rattle.reading.specs.declared.Reading.{Ghosts as Kind}

parts_total : {R : Type 0} (size : R → ℕ) (span : ℕ) (xs : List R) (n : ℕ) → totalled n (λ q. sum_by size (take span (drop (q * span) xs))) + sum_by size (drop (n * span) xs) ≡ sum_by size xs
parts_total size span xs zero = let z : 0 * span ≡ 0 = omega arith in ap (λ (j : ℕ). 0 + sum_by size (drop j xs)) z ∙ omega arith
parts_total size span xs (suc n) =
    let e : n * span + span ≡ suc n * span = (let m = add-mul n 1 span in let a : (n + 1) * span ≡ suc n * span = ap (λ (j : ℕ). j * span) (add-one n) in omega arith) in
    let d = ap (sum_by size) (drop-drop span (n * span) xs ∙ ap (λ (j : ℕ). drop j xs) e) in
    omega (arith, parts_total size span xs n, sum_by-take-drop size (drop (n * span) xs) span)

-- the sizes that one choice of the others meets
pub sizes_fit : {R : Type 0} (kind : Kind R) (span n t : ℕ) (old new : List R) → PartsDone kind span n old new → t < span → sum_by kind.size old ≤ sum_limit → totalled n (λ q. size_at kind.size new (q * span + t)) ≤ sum_limit
sizes_fit kind span n t old new done low small =
    omega (arith, totalled_mono n (λ q. size_at kind.size new (q * span + t)) (λ q. sum_by kind.size (take span (drop (q * span) old))) (λ q l. done.small q l t low), parts_total kind.size span old n)

choice_ext : (f g : ℕ → ℤ) (J s : ℕ) → ((q : ℕ) → q < J + 2 → f q ≡ g q) → choice_value f J s ≡ choice_value g J s
choice_ext f g J s h =
    ap₂ (λ x y. x +ℤ y) (h 0 (omega arith)) (ap₂ (λ x y. x +ℤ y) (summed_ext J _ _ (λ i l. ap (negated_if _) (h (i + 1) (omega arith)))) (ap (negated_if (parity s)) (h (J + 1) (omega arith))))

module _ {R : Type 0} (kind : Kind R) (group others slots : List ℕ) (word folded final : List R) (span : ℕ) (power : span ≡ 2 ^ length others)
    (room : length folded ≡ (length group + 2) * span)
    (kinds : (i : ℕ) → i < length word → Slotted (length group) (column group i) (get_or slots i 0 / span))
    (entries : (i : ℕ) → i < length word → get_or slots i 0 ≡ get_or slots i 0 / span * span + column others i) where
  module _ (sums : (x : ℕ) → x < length folded → weight_at kind.weight folded x ≡ sum_of_slot (λ i. get_or slots i 0) (λ i. weight_at kind.weight word i) (length word) x) (done : PartsDone kind span (length group + 2) folded final) where
    entry : (q t : ℕ) → q < length group + 2 → t < span → weight_at kind.weight final (q * span + t) ≡ slot_sum (λ i. get_or slots i 0 / span) (column others) (λ i. weight_at kind.weight word i) (length (map kind.weight word)) t q
    entry q t lq lt =
        let n = length-map word kind.weight in
        let m : (q + 1) * span ≤ (length group + 2) * span = mul-le-mul_right span (omega arith) in
        let a = add-mul q 1 span in
        let lp : length (take span (drop (q * span) folded)) ≡ span = length-take-le span (drop (q * span) folded) (let l = length-drop (q * span) folded in omega arith) in
        done.weighs q lq t lt
        ∙ part_spectrum (map kind.weight (take span (drop (q * span) folded))) (length (map kind.weight word)) span q t (λ i. get_or slots i 0 / span) (column others) (λ i. weight_at kind.weight word i)
        (length-map (take span (drop (q * span) folded)) kind.weight ∙ lp)
        (λ i l. let b = column_below others i in omega arith)
        (λ x l.
        let d : q * span + x < (length group + 2) * span = digits_lt lq l in
        ap (λ (v : List ℤ). get_or v x (pos 0)) (sym (take-map kind.weight span (drop (q * span) folded))) ∙ get_or-take span (map kind.weight (drop (q * span) folded)) x (pos 0) l
        ∙ ap (λ (v : List ℤ). get_or v x (pos 0)) (sym (drop-map kind.weight (q * span) folded)) ∙ get_or-drop (q * span) (map kind.weight folded) x (pos 0)
        ∙ sums (q * span + x) (omega arith)
        ∙ summed_ext (length word) _ _ (λ i k. ap (λ (c : ℕ). cond (eqb c (q * span + x)) (weight_at kind.weight word i) (pos 0)) (entries i (omega arith)))
        ∙ ap (λ (j : ℕ). sum_of_slot (λ i. get_or slots i 0 / span * span + column others i) (λ i. weight_at kind.weight word i) j (q * span + x)) (sym n))

    pub value_agrees : (m : ℕ) → m < span * 2 ^ length group → group_value (weight_at kind.weight final) span (length group) m ≡ agrees (group ++ others) (map kind.weight word) m
    value_agrees m h =
        let J = length group in
        let n = length-map word kind.weight in
        let t = m / 2 ^ J in
        let s = m % 2 ^ J in
        let p = pow_pos J in
        let ls : s < 2 ^ J = mod-lt m p in
        let lt : t < span = (div-lt_iff_lt-mul p).1 h in
        let e : s + t * 2 ^ J ≡ m = mod-add-div' m (2 ^ J) in
        choice_ext (λ q. weight_at kind.weight final (q * span + t)) (slot_sum (λ i. get_or slots i 0 / span) (column others) (λ i. weight_at kind.weight word i) (length (map kind.weight word)) t) J s (λ q l. entry q t l lt)
        ∙ sym (decompose group others (map kind.weight word) (λ i. get_or slots i 0 / span) (λ i l. kinds i (omega arith)) s t ls)
        ∙ ap (agrees (group ++ others) (map kind.weight word)) e

    pub whole_best : (m : ℕ) → Top (group_value (weight_at kind.weight final) span (length group)) (span * 2 ^ length group) m → Best (group ++ others) (map kind.weight word) m
    whole_best m t =
        let e : span * 2 ^ length group ≡ 2 ^ length (group ++ others) =
        ap (λ (x : ℕ). x * 2 ^ length group) power ∙ sym (pow-add 2 (length others) (length group)) ∙ ap (λ (k : ℕ). 2 ^ k) (let l = length-append group others in omega arith) in
        subst (λ (k : ℕ). Top (agrees (group ++ others) (map kind.weight word)) k m) e (top_same (group_value (weight_at kind.weight final) span (length group)) (agrees (group ++ others) (map kind.weight word)) (span * 2 ^ length group) m value_agrees t)
