-- A table's rows, section by section.
use Rattle.std.proofs.Common.{◌≡◌, ℕ, ◌+◌, ◌/◌, ◌^◌, ◌<◌, ◌≤◌, true, false, not, eqb, leb, List, [], ◌∷◌, ◌++◌, length, Ok, Err, sym, ap, ◌∙◌, subst, inl, inr, arith, length-append}
use native.Mathlib.Nat.{div-eq_of_lt}
use Rattle.std.proofs.lemmas.Nat.{le-div, pow_pos}
use Rattle.std.proofs.lemmas.List.{get_or_append_left, get_or-append-add, get_or_push, length_push}
use Rattle.std.proofs.lemmas.Bool.{le-leb, lt-leb, cases_lt, eq-eqb, ne_eqb}
use Rattle.code.specs.declared.refusal.Section.{Section}
use Rattle.code.specs.declared.refusal.Refusal.TheVariants.{DependentRow, ConcurrenceBroken}
use Rattle.card.specs.Rows.{dependent, Within}
use Rattle.card.specs.Cards.{Card, rows_of, section_of, keeps, verdict}

-- the verdict, by which checks pass
module _ (k : Card) (s : Section) (row n : ℕ) (is : n ≡ length (section_of k s)) where
  pub verdict_dependent : leb (2 ^ k.len) row ≡ false → n < 8 → dependent (rows_of k) row ≡ true → Err (DependentRow s n) ≡ verdict k s row
  verdict_dependent a b d =
      let b' : leb 8 (length (section_of k s)) ≡ false = lt-leb 8 (length (section_of k s)) (omega arith) in
      simp (a, b', d, is)

  pub verdict_concurrence : leb (2 ^ k.len) row ≡ false → n < 8 → dependent (rows_of k) row ≡ false → keeps k s row ≡ false → Err (ConcurrenceBroken s n) ≡ verdict k s row
  verdict_concurrence a b d e =
      let b' : leb 8 (length (section_of k s)) ≡ false = lt-leb 8 (length (section_of k s)) (omega arith) in
      simp (a, b', d, e, is)

  pub verdict_ok : leb (2 ^ k.len) row ≡ false → n < 8 → dependent (rows_of k) row ≡ false → keeps k s row ≡ true → Ok tt ≡ verdict k s row
  verdict_ok a b d e =
      let b' : leb 8 (length (section_of k s)) ≡ false = lt-leb 8 (length (section_of k s)) (omega arith) in
      simp (a, b', d, e)

-- a row shifted past the length is 0 unless it has a digit beyond
pub shifted_beyond : (n row : ℕ) → not (eqb (row / 2 ^ n) 0) ≡ leb (2 ^ n) row
shifted_beyond n row =
    elim (cases_lt row (2 ^ n)) [
      | inl l ↦ ap not (eq-eqb (row / 2 ^ n) 0 (div-eq_of_lt l)) ∙ sym (lt-leb (2 ^ n) row l)
      | inr l ↦
          let q : 1 ≤ row / 2 ^ n = le-div 1 row (2 ^ n) (pow_pos n) (omega arith) in
          ap not (ne_eqb (row / 2 ^ n) 0 (λ e. omega arith)) ∙ sym (le-leb (2 ^ n) row l)
    ]

pub shifted_out : (n row : ℕ) → row / 2 ^ n ≡ 0 → row < 2 ^ n
shifted_out n row z =
    elim (cases_lt row (2 ^ n)) [
      | inl l ↦ l
      | inr l ↦ let q : 1 ≤ row / 2 ^ n = le-div 1 row (2 ^ n) (pow_pos n) (omega arith) in absurd (omega arith)
    ]

-- no digit beyond, with one row more
pub within_push : (n : ℕ) (rows : List ℕ) (r : ℕ) → Within n rows → r < 2 ^ n → Within n (rows ++ r ∷ [])
within_push n rows r w h j l =
    elim (cases_lt j (length rows)) [
      | inl k ↦ subst (λ (x : ℕ). x < 2 ^ n) (sym (get_or_append_left rows (r ∷ []) 0 j k)) (w j k)
      | inr k ↦
          let e : length rows ≡ j = omega (arith, length_push rows r) in
          subst (λ (x : ℕ). x < 2 ^ n) (sym (get_or_push rows r 0 j e)) h
    ]

pub within_left : (n : ℕ) (xs ys : List ℕ) → Within n (xs ++ ys) → Within n xs
within_left n xs ys w j h = subst (λ (x : ℕ). x < 2 ^ n) (get_or_append_left xs ys 0 j h) (w j (omega (arith, length-append xs ys)))

pub within_right : (n : ℕ) (xs ys : List ℕ) → Within n (xs ++ ys) → Within n ys
within_right n xs ys w j h = subst (λ (x : ℕ). x < 2 ^ n) (get_or-append-add xs ys j 0) (w (length xs + j) (omega (arith, length-append xs ys)))
