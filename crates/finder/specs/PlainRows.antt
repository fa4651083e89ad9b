-- The plain finder: what its transformed list holds, and its law.
use Rattle.std.specs.Prelude.{◌≡◌, ℕ, ◌^◌, ◌<◌, ◌≤◌, cond, List, map, length, take, ℤ, pos, Ok, Err, Result, ◌==◌, slice_index, slice_index_or}
use Rattle.std.proofs.Common.{sym, ap, subst, ◌∙◌, arith}
use Rattle.std.proofs.lemmas.List.FromFn.{get_or-map-range_with_len}
use Rattle.std.proofs.lemmas.List.{length-map, take_all}
use Rattle.card.specs.Rows.{Within}
use Rattle.code.specs.Limits.{Length, sum_limit}
use Rattle.code.specs.Words.{agrees}
use Rattle.code.specs.declared.refusal.Refusal.{Refusal}
use Rattle.hadamard.specs.Transform.{spectrum, Transformed, verdict, weight_at}
use Rattle.hadamard.proofs.Powers.{verdict-taken}
use Rattle.hadamard.proofs.Sums.{summed_ext}
use Rattle.finder.specs.Fold.{column, column_rows, sum_of_slot}
use Rattle.finder.specs.Search.{Lawful}
use Rattle.finder.specs.Gather.{column_below, folded_agrees}
use Rattle.reading.specs.declared.Reading.{Ghosts as Kind}

-- a transform that is not refused
abbrev pub outcome : Type 0 → (Refusal → Type 0) → Result Unit Refusal → Type 0
outcome A B r = elim r [ Ok u ↦ A | Err e ↦ B e ]

pub transform_taken : (r : Result Unit Refusal) (A : Type 0) (B : Refusal → Type 0) (n s t : ℕ) → t ≤ 16 → n ≡ 2 ^ t → s ≤ sum_limit → r ≡ verdict n s → outcome A B r → A
transform_taken r A B n s t l e h v x = subst (outcome A B) (v ∙ sym (verdict-taken n s t l e h)) x

-- entry m of the transformed list is the agreement of m
module _ {R : Type 0} (kind : Kind R) (rows slots : List ℕ) (word list final : List R) (few : length rows ≤ column_rows) (room : length list ≡ 2 ^ length rows)
    (cols : (i : ℕ) → i < length word → slice_index slots i ≡ column (take column_rows rows) i)
    (sums : (x : ℕ) → x < length list → weight_at kind.weight list x ≡ sum_of_slot (λ i. slice_index slots i) (weight_at kind.weight word) (length word) x) where
  pub holds_agreements : Transformed kind list final → (m : ℕ) → m < 2 ^ length rows → weight_at kind.weight final m ≡ agrees rows (map kind.weight word) m
  holds_agreements t m l =
      let n = length-map word kind.weight in
      let k = length-map list kind.weight in
      let whole : take column_rows rows ≡ rows = take_all column_rows rows few in
      ap (λ (v : List ℤ). slice_index_or v m (pos 0)) t.weights
      ∙ get_or-map-range_with_len (spectrum (map kind.weight list)) 0 (length (map kind.weight list)) m m (pos 0) (omega arith) (omega arith)
      ∙ folded_agrees (map kind.weight word) rows (map kind.weight list) m (λ i h. let b = column_below rows i in omega arith)
      (λ x h. sums x (omega arith)
      ∙ summed_ext (length word) _ _ (λ i j. ap (λ (c : ℕ). cond (c == x) (weight_at kind.weight word i) (pos 0)) (cols i (omega arith) ∙ ap (λ (r : List ℕ). column r i) whole))
      ∙ ap (λ (j : ℕ). sum_of_slot (column rows) (weight_at kind.weight word) j x) (sym n))

pub plain_lawful : (n : ℕ) (rows : List ℕ) → Length n → length rows ≤ column_rows → Within n rows → Lawful (record { span = n; rows = rows; need = 2 ^ length rows })
plain_lawful n rows s f w = record { sized = s; few = omega arith; small = omega arith; within = w }
