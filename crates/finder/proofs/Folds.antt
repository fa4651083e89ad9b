-- One turn of the loops that fold a word.
use Rattle.std.proofs.Common.{◌≡◌, ℕ, ◌+◌, ◌*◌, ◌/◌, ◌%◌, ◌^◌, ◌<◌, ◌≤◌, cond, eqb, List, [], ◌∷◌, length, get_or, take, set, reverse, pos, ◌+ℤ◌, sum_by, sym, refl, ap, ◌∙◌, ⊎_elim, add-one, arith, pow_mono, mod-eq_of_lt}
use lib.IntN.{+ℤ_idr}
use Rattle.std.specs.List.{fold}
use Rattle.std.specs.Int.Bits.{bit_or}
use Rattle.std.proofs.lemmas.Nat.{or_shifted}
use Rattle.std.proofs.lemmas.List.{take_more_set, reverse-append}
use Rattle.std.proofs.lemmas.List.Sums.{sum_by-set, sum_by_push, fold-append}
use Rattle.std.proofs.lemmas.Bool.{cases_eq, eq-eqb, ne_eqb, cond-true, cond-false}
use Rattle.code.specs.Limits.{size_limit}
use Rattle.hadamard.specs.Transform.{weight_at}
use Rattle.hadamard.proofs.Entries.{same_at, other_at}
use Rattle.finder.specs.Fold.{column, sum_of_slot}
use Rattle.finder.specs.Gather.{column_below}
use Rattle.reading.specs.declared.Reading.{Ghosts as Kind}

-- each entry weighs the sum of the first n readings whose slot it is, and no size was above the limit
abbrev pub Scattered : {R : Type 0} (kind : Kind R) (slots : List ℕ) (word list : List R) (n : ℕ) → Type 0
Scattered kind slots word list n =
    ((x : ℕ) → x < length list → weight_at kind.weight list x ≡ sum_of_slot (λ k. get_or slots k 0) (weight_at kind.weight word) n x)
    × (sum_by kind.size list ≤ n * size_limit)

-- one reading more
module _ {R : Type 0} (kind : Kind R) (slots : List ℕ) (word cur : List R) (i : ℕ) where
  abbrev Sums : List R → ℕ → Type 0
  Sums xs n = (x : ℕ) → x < length xs → weight_at kind.weight xs x ≡ sum_of_slot (λ k. get_or slots k 0) (weight_at kind.weight word) n x

  one_more : (x : ℕ) → sum_of_slot (λ k. get_or slots k 0) (weight_at kind.weight word) (i + 1) x ≡ sum_of_slot (λ k. get_or slots k 0) (weight_at kind.weight word) i x +ℤ cond (eqb (get_or slots i 0) x) (weight_at kind.weight word i) (pos 0)
  one_more x = ap (λ (k : ℕ). sum_of_slot (λ k. get_or slots k 0) (weight_at kind.weight word) k x) (add-one i)

  elsewhere : (x : ℕ) → (x ≡ get_or slots i 0 → ⊥) → sum_of_slot (λ k. get_or slots k 0) (weight_at kind.weight word) i x ≡ sum_of_slot (λ k. get_or slots k 0) (weight_at kind.weight word) (i + 1) x
  elsewhere x n =
      let at = get_or slots i 0 in
      let old = sum_of_slot (λ k. get_or slots k 0) (weight_at kind.weight word) i in
      sym (one_more x ∙ ap (λ z. old x +ℤ z) (cond-false (eqb at x) (weight_at kind.weight word i) (pos 0) (ne_eqb at x (λ e. n (sym e)))) ∙ +ℤ_idr (old x))

  -- a slot beyond the list
  pub fold_skips : length cur ≤ get_or slots i 0 → Sums cur i → Sums cur (i + 1)
  fold_skips high inv x l = inv x l ∙ elsewhere x (omega arith)

  module _ (v : R) (low : get_or slots i 0 < length cur) where
    pub fold_step : Sums cur i → kind.weight v ≡ weight_at kind.weight cur (get_or slots i 0) +ℤ weight_at kind.weight word i → (x : ℕ) → x < length cur → weight_at kind.weight (set cur (get_or slots i 0) v) x ≡ sum_of_slot (λ k. get_or slots k 0) (weight_at kind.weight word) (i + 1) x
    fold_step inv is x l =
        let at = get_or slots i 0 in
        let old = sum_of_slot (λ k. get_or slots k 0) (weight_at kind.weight word) i in
        ⊎_elim
        (λ (e : x ≡ at).
        ap (λ (k : ℕ). weight_at kind.weight (set cur at v) k) e ∙ same_at kind.weight cur at v (pos 0) low ∙ is ∙ ap (λ z. z +ℤ weight_at kind.weight word i) (inv at low)
        ∙ ap (λ z. old at +ℤ z) (sym (cond-true (eqb at at) (weight_at kind.weight word i) (pos 0) (eq-eqb at at refl)))
        ∙ ap (λ (k : ℕ). old k +ℤ cond (eqb at k) (weight_at kind.weight word i) (pos 0)) (sym e) ∙ sym (one_more x))
        (λ n. other_at kind.weight cur at x v (pos 0) n ∙ inv x l ∙ elsewhere x n)
        (cases_eq x at)

    pub total_step : (old : R) → old ≡ get_or cur (get_or slots i 0) old → (r : ℕ) → kind.size v ≤ kind.size old + r → r ≤ size_limit → sum_by kind.size cur ≤ i * size_limit → sum_by kind.size (set cur (get_or slots i 0) v) ≤ (i + 1) * size_limit
    total_step old is r a b c =
        let e = sum_by-set kind.size cur (get_or slots i 0) v old low in
        let f = ap kind.size is in
        omega arith

-- one entry more is blank
pub blank_more : {R : Type 0} (size : R → ℕ) (xs : List R) (i : ℕ) (v : R) → i < length xs → sum_by size (take i xs) ≡ 0 → size v ≤ 0 → sum_by size (take (i + 1) (set xs i v)) ≡ 0
blank_more size xs i v h e z = ap (sum_by size) (take_more_set xs i v h) ∙ sum_by_push size (take i xs) v ∙ omega arith

-- one row before the others
abbrev pub with_digit : ℕ → ℕ → ℕ → ℕ
with_digit i c r = bit_or (c * 2 ^ 1 % 2 ^ 64) (r / 2 ^ i % 2)

pub column_folded : (rows : List ℕ) (i : ℕ) → length rows ≤ 16 → fold (with_digit i) 0 (reverse rows) ≡ column rows i
column_folded [] i h = refl
column_folded (r ∷ rs) i h =
    let c = column rs i in
    let d = r / 2 ^ i % 2 in
    let b = column_below rs i in
    let s : length rs ≤ 16 = omega arith in
    let p : 2 ^ length rs ≤ 2 ^ 16 = pow_mono s in
    let whole : c * 2 ^ 1 % 2 ^ 64 ≡ c * 2 ^ 1 = mod-eq_of_lt (omega arith) in
    ap (fold (with_digit i) 0) (reverse-append (r ∷ []) rs)
    ∙ fold-append (with_digit i) 0 (reverse rs) (r ∷ [])
    ∙ ap (λ (x : ℕ). with_digit i x r) (column_folded rs i (omega arith))
    ∙ ap (λ (x : ℕ). bit_or x d) whole
    ∙ or_shifted c 1 d (omega arith)
    ∙ omega arith
