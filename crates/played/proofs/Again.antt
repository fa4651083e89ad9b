-- What was played once at full level is found again.
use Rattle.std.proofs.Common.{◌≡◌, ℕ, ◌+◌, ◌*◌, ◌^◌, ◌<◌, ◌≤◌, List, [], ◌∷◌, ◌++◌, length, get_or, replicate, ℤ, pos, ◌≤ℤ◌, ◌<ℤ◌, Result, sym, ap, ◌∙◌, subst, ap₂, inl, inr, mul_assoc, arith}
use lib.Bits.{bit_xor, xor_self, xor_lt, xor_zero_l}
use lib.Signed.{clash_ℤ}
use Rattle.std.proofs.lemmas.Bool.{cases_eq}
use Rattle.code.specs.Limits.{full_label}
use Rattle.code.specs.Spans.{Independent}
use Rattle.code.specs.Words.{Best, agrees, agreement, codeword, negated_at}
use Rattle.code.specs.declared.refusal.Refusal.{Refusal}
use Rattle.code.proofs.Agreements.{agreement_negated}
use Rattle.code.proofs.Xor.{cancel}
use Rattle.code.proofs.Spans.{independent_distinct}
use Rattle.card.specs.Cards.{rows_of}
use Rattle.sample.specs.declared.Sample.{Sample}
use Rattle.sample.proofs.Faults.{first_good}
use Rattle.reading.specs.declared.Reading.{Ghosts as Kind}
use Rattle.finder.specs.Search.{Meaning}
use Rattle.finder.specs.declared.found.Found.{Found}
use Rattle.sheet.specs.declared.Sheet.{Sheet}
use Rattle.sheet.specs.Cells.{covered}
use Rattle.sheet.specs.Book.{Call, Pass, Book, book_of, add_labels, unless_refused}
use Rattle.sheet.specs.Stands.{cells_of, book_at, SearchLaw}
use Rattle.sheet.proofs.Books.{book_push}
use Rattle.sheet.proofs.Checks.{check_samples_lem}
use Rattle.played.specs.Played.{PlaysWord, Again}
use Rattle.played.proofs.Levels.{agree_less, agree_zero, codeword_within}
use Rattle.played.proofs.Blank.{quiet_book}
use Rattle.played.proofs.Totals.{full_totals, plays_good}

module _ (rows : List ℕ) (n F m : ℕ) (within : (j : ℕ) → j < length rows → get_or rows j 0 < 2 ^ n) (ind : Independent rows) (some : 0 < F) (low : m < 2 ^ length rows) where
  abbrev pub totals : List ℤ
  totals = negated_at (replicate n (pos F)) (codeword rows m)

  agrees_as : (j : ℕ) → agrees rows totals j ≡ agreement (replicate n (pos F)) (bit_xor (codeword rows m) (codeword rows j))
  agrees_as j = agreement_negated (replicate n (pos F)) (codeword rows m) (codeword rows j)

  pub own_agreement : agrees rows totals m ≡ pos (n * F)
  own_agreement = agrees_as m ∙ ap (agreement (replicate n (pos F))) (xor_self (codeword rows m)) ∙ agree_zero n F

  other_agreement : (j : ℕ) → j < 2 ^ length rows → (j ≡ m → ⊥) → agrees rows totals j <ℤ pos (n * F)
  other_agreement j h ne =
      subst (λ z. z <ℤ pos (n * F)) (sym (agrees_as j))
      (agree_less n F (bit_xor (codeword rows m) (codeword rows j)) some
      (xor_lt n (codeword rows m) (codeword rows j) (codeword_within n rows m within) (codeword_within n rows j within))
      (λ z. ne (independent_distinct rows ind j m h low (sym (same_words (codeword rows m) (codeword rows j) z)))))
    where
      same_words : (a b : ℕ) → bit_xor a b ≡ 0 → a ≡ b
      same_words a b z = sym (cancel a b) ∙ ap (λ x. bit_xor x b) z ∙ xor_zero_l b

  pub only_best : (j : ℕ) → Best rows totals j → j ≡ m
  only_best j t = elim (cases_eq j m) [
    | inl e ↦ e
    | inr ne ↦ absurd (clash_ℤ (other_agreement j t.within ne) (subst (λ z. z ≤ℤ agrees rows totals j) own_agreement (t.greatest m low)))
  ]

module _ {R : Type 0} (kind : Kind R) where
  -- the totals that stand after the one pass
  pub once_totals : (n : ℕ) (h : List Call) (samples : List Sample) (c : ℕ) → (book_of kind.MAIN_UNIT kind.SECOND_UNIT n h).count ≡ 0 → length samples ≡ n → PlaysWord c samples →
      (book_of kind.MAIN_UNIT kind.SECOND_UNIT n (h ++ Pass samples ∷ [])).totals ≡ negated_at (replicate n (pos (full_label * kind.MAIN_UNIT))) c
  once_totals n h samples c none long plays =
      let b = book_of kind.MAIN_UNIT kind.SECOND_UNIT n h in
      let q = quiet_book kind.MAIN_UNIT kind.SECOND_UNIT n h in
      let new : Book = record { count = b.count + 1; totals = add_labels kind.MAIN_UNIT kind.SECOND_UNIT b.totals samples } in
      let taken = check_samples_lem (length b.totals) b.count samples (long ∙ sym q.places) (omega arith) ∙ first_good samples (plays_good c samples plays) in
      ap (λ x. x.totals) (book_push kind.MAIN_UNIT kind.SECOND_UNIT n h (Pass samples))
      ∙ ap (λ o. (unless_refused o new b).totals) taken
      ∙ ap (λ ts. add_labels kind.MAIN_UNIT kind.SECOND_UNIT ts samples) (q.nothing none)
      ∙ full_totals kind.MAIN_UNIT kind.SECOND_UNIT n samples c long plays

  pub again : (t u : Sheet R) (by : Meaning) (work after : List R) (r : Result (Found R) Refusal) → 1 ≤ kind.MAIN_UNIT →
      SearchLaw kind t u by work after r → Again kind t by (length work) r
  again t u by work after r unit law card m h samples lawful low st none plays long cov sp rw' fits =
      let n = card.len in
      let F = full_label * kind.MAIN_UNIT in
      let c = codeword (rows_of card) m in
      let rule = (law.book (h ++ Pass samples ∷ []) st).1 in
      let ts = ap (λ k. (book_of kind.MAIN_UNIT kind.SECOND_UNIT k (h ++ Pass samples ∷ [])).totals) cov
      ∙ once_totals n h samples c (subst (λ k. (book_of kind.MAIN_UNIT kind.SECOND_UNIT k h).count ≡ 0) cov none) long plays in
      let places : length (book_at kind (h ++ Pass samples ∷ []) t).totals ≡ by.span =
      (quiet_book kind.MAIN_UNIT kind.SECOND_UNIT (covered (cells_of t)) (h ++ Pass samples ∷ [])).places ∙ cov ∙ sym sp in
      let a = rule.answered places fits in
      let f = a.0 in
      let best = subst (λ x. Best x (negated_at (replicate n (pos F)) c) f.message) rw' (subst (λ x. Best by.rows x f.message) ts a.2) in
      let is = only_best (rows_of card) n F m lawful.within lawful.independent (omega arith) low f.message best in (
        f,
        a.1,
        is,
        a.3 ∙ ap₂ (λ x y. agrees x y f.message) rw' ts ∙ ap (agrees (rows_of card) (negated_at (replicate n (pos F)) c)) is
            ∙ own_agreement (rows_of card) n F m lawful.within lawful.independent (omega arith) low ∙ ap pos (sym (mul_assoc n full_label kind.MAIN_UNIT)),
      )
