-- The verdict on a row says what a reader would say.
use Rattle.std.proofs.Common.{◌≡◌, ℕ, ◌^◌, ◌<◌, true, false, List, [], ◌∷◌, ◌++◌, length, Result, sym, refl, inl, inr}
use Rattle.std.proofs.lemmas.Bool.{le-leb, lt-leb, cases_Bool}
use Rattle.code.specs.declared.refusal.Section.{Section}
use Rattle.code.specs.declared.refusal.Section.TheVariants.{Group, Transform, Coset}
use Rattle.code.specs.declared.refusal.Refusal.{Refusal}
use Rattle.code.specs.Spans.{Span}
use Rattle.card.specs.Rows.{Within, dependent, concordant}
use Rattle.card.specs.Cards.{Card, Lawful, Keeps, Told, keeps, rows_of, section_of, verdict}
use Rattle.card.proofs.Decided.{dependent_from_span, span_from_dependent, concordant_from, concur_from_concordant}
use Rattle.card.proofs.Tables.{verdict_dependent, verdict_concurrence, verdict_ok, within_push, within_left}

pub not_dependent : (rows : List ℕ) (x : ℕ) → (Span rows x → ⊥) → dependent rows x ≡ false
not_dependent rows x out =
    elim (cases_Bool (dependent rows x)) [ inl t ↦ absurd (out (span_from_dependent rows x t)) | inr f ↦ f ]

pub keeps_true : (k : Card) (s : Section) (row : ℕ) → Keeps s (section_of k s) row → keeps k s row ≡ true
keeps_true k Group row h = concordant_from k.len (k.group ++ row ∷ []) h
keeps_true k Transform row h = refl
keeps_true k Coset row h = refl

pub keeps_false : (k : Card) (s : Section) (row : ℕ) → Lawful k → row < 2 ^ k.len → (Keeps s (section_of k s) row → ⊥) → keeps k s row ≡ false
keeps_false k Group row l lt out =
    let n = k.len in
    let rows = k.group ++ row ∷ [] in
    let w : Within n rows = within_push n k.group row (within_left n k.group (k.transform ++ k.coset) l.within) lt in
    elim (cases_Bool (concordant n rows)) [ inl t ↦ absurd (out (concur_from_concordant n rows w t)) | inr f ↦ f ]
keeps_false k Transform row l lt out = absurd (out tt)
keeps_false k Coset row l lt out = absurd (out tt)

pub told-verdict : (k : Card) (s : Section) (row : ℕ) → Lawful k → Told k s row (verdict k s row)
told-verdict k s row l =
    let n = length (section_of k s) in
    let inside : row < 2 ^ k.len → _ = λ h. lt-leb (2 ^ k.len) row h in
    record {
      beyond = λ h. let t = le-leb (2 ^ k.len) row h in simp t;
      full = λ h f. let t = lt-leb (2 ^ k.len) row h in let u = le-leb 8 n f in simp (t, u);
      dependent = λ h f sp. sym (verdict_dependent k s row n refl (inside h) f (dependent_from_span (rows_of k) row sp));
      broken = λ h f out bad. sym (verdict_concurrence k s row n refl (inside h) f (not_dependent (rows_of k) row out) (keeps_false k s row l h bad));
      taken = λ h f out good. sym (verdict_ok k s row n refl (inside h) f (not_dependent (rows_of k) row out) (keeps_true k s row good));
    }

pub told_by : (k k' : Card) (s : Section) (row : ℕ) (r : Result (Unit {0}) Refusal) → Lawful k → k ≡ k' → r ≡ verdict k' s row → Told k' s row r
told_by k k' s row r l e is = rw (is, ← e) (told-verdict k s row l)
