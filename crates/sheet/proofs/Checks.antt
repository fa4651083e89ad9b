-- The checks of a pass, and their order.
use Rattle.std.proofs.Common.{◌≡◌, ℕ, ◌+◌, ◌*◌, ◌<◌, ◌≤◌, cond, ltb, List, [], ◌∷◌, length, get_or, Some, None, Ok, Err, Result, ap, ◌∙◌, inl, inr, arith, le-ltb, lt-ltb, eq-eqb, ne_eqb, MatchResult}
use Rattle.code.specs.Limits.{full_label}
use Rattle.code.specs.declared.refusal.Refusal.{Refusal}
use Rattle.code.specs.declared.refusal.Refusal.TheVariants.{PassLengthDiffers, TooManyPasses}
use Rattle.reading.specs.declared.Reading.{Ghosts as Kind}
use Rattle.sample.specs.declared.Sample.{Sample}
use Rattle.sample.specs.Samples.{answer, first_fault, AllGood}
use Rattle.sample.proofs.Faults.{first_good, first_bad}
use Rattle.sample.proofs.Bounds.{main_bound, second_bound}
use Rattle.sheet.specs.Cells.{max_passes, pass_check, Fits, FirstOvergrown, PassFits, PassFails}
use Rattle.sheet.specs.Book.{Book, pass_answer, PassRule}

-- an element of a list that has one
pub some_of : {X : Type 0} (xs : List X) (k : ℕ) → k < length xs → X
some_of [] k h = absurd (omega arith)
some_of (x ∷ xs) k h = x

pub check_length : (n k : ℕ) (ss : List Sample) → (length ss ≡ n → ⊥) → pass_check n k ss ≡ Some PassLengthDiffers
check_length n k ss h = ap (λ b. cond b (cond (ltb k max_passes) (first_fault 0 ss) (Some TooManyPasses)) (Some PassLengthDiffers)) (ne_eqb (length ss) n h)

pub check_full : (n k : ℕ) (ss : List Sample) → length ss ≡ n → max_passes ≤ k → pass_check n k ss ≡ Some TooManyPasses
check_full n k ss e h =
    ap (λ b. cond b (cond (ltb k max_passes) (first_fault 0 ss) (Some TooManyPasses)) (Some PassLengthDiffers)) (eq-eqb (length ss) n e)
    ∙ ap (λ b. cond b (first_fault 0 ss) (Some TooManyPasses)) (le-ltb k max_passes h)

pub check_samples_lem : (n k : ℕ) (ss : List Sample) → length ss ≡ n → k < max_passes → pass_check n k ss ≡ first_fault 0 ss
check_samples_lem n k ss e h =
    ap (λ b. cond b (cond (ltb k max_passes) (first_fault 0 ss) (Some TooManyPasses)) (Some PassLengthDiffers)) (eq-eqb (length ss) n e)
    ∙ ap (λ b. cond b (first_fault 0 ss) (Some TooManyPasses)) (lt-ltb k max_passes h)

-- the book's answer keeps the rule in words
pub pass_rule : (b : Book) (ss : List Sample) (r : Result ℕ Refusal) → r ≡ pass_answer b ss → PassRule b ss r
pass_rule b ss r is = record {
  length_differs = λ h. is ∙ ap (λ o. answer o (b.count + 1)) (check_length (length b.totals) b.count ss h);
  too_many = λ e h. is ∙ ap (λ o. answer o (b.count + 1)) (check_full (length b.totals) b.count ss e h);
  first_bad = λ l h e f. is ∙ ap (λ o. answer o (b.count + 1)) (check_samples_lem (length b.totals) b.count ss l h ∙ first_bad ss e f);
  taken = λ l h g. is ∙ ap (λ o. answer o (b.count + 1)) (check_samples_lem (length b.totals) b.count ss l h ∙ first_good ss g);
}

module _ {R : Type 0} (kind : Kind R) where
  -- a cell no larger than so many passes make it takes every good sample
  pub none_overgrown : (ss : List Sample) (cells : List R) (n : ℕ) (e : Refusal) → AllGood ss → n < max_passes → length ss ≡ length cells →
      ((k : ℕ) (d : R) → k < length cells → kind.size (get_or cells k d) ≤ full_label * n) → FirstOvergrown kind ss cells e → ⊥
  none_overgrown ss cells n e good few long light f =
      let k = f.place in
      let x = some_of ss k f.on in
      let d = some_of cells k (omega (arith, f.on)) in
      let l = light k d (omega (arith, f.on)) in
      let a = main_bound (get_or ss k x) (good k x f.on) in
      let b = second_bound (get_or ss k x) (good k x f.on) in
      elim (f.here x d) [ inl h ↦ omega arith | inr h ↦ let g = h.1.small in let o = h.2 in omega arith ]

  -- a pass that met the first checks stands or falls by the sizes
  pub checked_whole : (ss : List Sample) (n : ℕ) (cells : List R) (r : Result (Unit {0}) Refusal) → pass_check (length cells) n ss ≡ None → length ss ≡ length cells → n < max_passes → AllGood ss →
      MatchResult r (λ _. (k : ℕ) (x : Sample) (d : R) → k < length ss → Fits kind (get_or ss k x) (get_or cells k d)) (FirstOvergrown kind ss cells) →
      MatchResult r (λ _. PassFits kind ss n cells) (PassFails kind ss n cells)
  checked_whole ss n cells (Ok _) is long few good f = record { checked = is; long = long; few = few; good = good; fits = f }
  checked_whole ss n cells (Err e) is long few good f = inr (is, good, few, long, f)
