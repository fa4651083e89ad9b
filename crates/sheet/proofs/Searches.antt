-- A search of a sheet that stands for a history: no cell is too large, so it is turned down by length or work memory alone.
use Rattle.std.proofs.Common.{◌≡◌, ℕ, suc, ◌+◌, ◌<◌, ◌≤◌, cond, List, [], ◌∷◌, map, length, get_or, take, Some, None, Ok, Err, Option, Result, sym, refl, ap, ◌∙◌, subst, arith, le-leb, MatchResult}
use Rattle.std.proofs.lemmas.List.{length-map, length-take, get_or-take, get_or-map}
use Rattle.code.specs.Limits.{max_places, size_limit}
use Rattle.code.specs.Words.{Best, agrees}
use Rattle.code.specs.declared.refusal.Refusal.{Refusal}
use Rattle.code.specs.declared.refusal.Refusal.TheVariants.{SizeTooLarge}
use Rattle.code.proofs.Tops.{best_unique}
use Rattle.reading.specs.declared.Reading.{Ghosts as Kind}
use Rattle.finder.specs.declared.found.Found.{Found}
use Rattle.finder.specs.Search.{Meaning, large_from, refusal, Answered, Refused}
use Rattle.finder.proofs.Refusals.{wrong_length, right_length, memory_short, memory-fits}
use Rattle.sheet.specs.declared.Sheet.{Sheet}
use Rattle.sheet.specs.Book.{Call, SearchRule}
use Rattle.sheet.specs.Stands.{cells_of, front, book_at, Stands, SameFound}
use Rattle.sheet.proofs.Checks.{some_of}

none_large : (i : ℕ) (ss : List ℕ) (after : Option Refusal) → ((k : ℕ) → k < length ss → get_or ss k 0 ≤ size_limit) → large_from i ss after ≡ after
none_large i [] after all = refl
none_large i (x ∷ xs) after all =
    ap (λ t. cond t (large_from (i + 1) xs after) (Some (SizeTooLarge i))) (le-leb x size_limit (all 0 (omega arith)))
    ∙ none_large (i + 1) xs after (λ k h. all (suc k) (omega arith))

module _ {R : Type 0} (kind : Kind R) (by : Meaning) where
  -- a search of the word was answered r
  abbrev pub Searched : (word work after : List R) → Result (Found R) Refusal → Type 0
  Searched word work after r = MatchResult r
      (Answered kind by word work after)
      (Refused kind.size by.span by.need word work after)

  module _ (word work after : List R) where
    refused_is : (r : Result (Found R) Refusal) (x : Refusal) → refusal by.span by.need (map kind.size word) (length work) ≡ Some x →
        Searched word work after r → r ≡ Err x
    refused_is (Ok f) x is a = let t = a.taken in let z : ◌≡◌ {A = ℕ} 0 1 = cc in absurd (omega arith)
    refused_is (Err e) x is a = let t : Some e ≡ Some x = sym a.reason ∙ is in cc

    answered_is : (r : Result (Found R) Refusal) → refusal by.span by.need (map kind.size word) (length work) ≡ None → Searched word work after r →
        (f : Found R) × (r ≡ Ok f) × Best by.rows (map kind.weight word) f.message × (kind.weight f.reading ≡ agrees by.rows (map kind.weight word) f.message)
    answered_is (Ok f) is a = (f, refl, a.is_best, a.weighs)
    answered_is (Err e) is a = let t = a.reason in let z : ◌≡◌ {A = ℕ} 0 1 = cc in absurd (omega arith)

    rule_of : (r : Result (Found R) Refusal) → ((k : ℕ) (d : R) → k < length word → kind.size (get_or word k d) ≤ size_limit) → Searched word work after r →
        SearchRule kind by (length work) (map kind.weight word) r
    rule_of r light a =
        let span = by.span in
        let need = by.need in
        let lw = length-map word kind.weight in
        let ls = length-map word kind.size in
        let small : (k : ℕ) → k < length (map kind.size word) → get_or (map kind.size word) k 0 ≤ size_limit = λ k h.
        let d = some_of word k (omega arith) in
        let e = get_or-map kind.size word k d 0 (omega arith) in let l = light k d (omega arith) in omega arith in
        let whole : length (map kind.weight word) ≡ span → refusal span need (map kind.size word) (length work) ≡ _ = λ h.
        right_length span need (map kind.size word) (length work) (omega arith) ∙ none_large 0 (map kind.size word) _ small in
        record {
          length_differs = λ h. refused_is r _ (wrong_length span need (map kind.size word) (length work) (λ e. h (omega arith))) a;
          work_short = λ h short. refused_is r _ (whole h ∙ memory_short need (length work) short) a;
          answered = λ h fits. answered_is r (whole h ∙ memory-fits need (length work) fits) a;
        }

  pub searched : (h : List Call) (t : Sheet R) (work after : List R) (r : Result (Found R) Refusal) → Searched (front t) work after r →
      Stands kind h t → SearchRule kind by (length work) (book_at kind h t).totals r
  searched h t work after r a st =
      subst (λ ws. SearchRule kind by (length work) ws r) st.totals
      (rule_of (front t) work after r
      (λ k d hk.
      let l = length-take max_places (cells_of t) in
      let e = ap kind.size (get_or-take max_places (cells_of t) k d (omega arith)) in
      let o = st.light k d (omega arith) in let f = st.few in omega arith)
      a)

-- two searches of the same cells with the same rows agree
pub both_agree : {R : Type 0} (kind : Kind R) (first second : Meaning) (t u : Sheet R) (work left after : List R) (r r' : Result (Found R) Refusal) → cells_of u ≡ cells_of t →
    Searched kind first (front t) work left r → Searched kind second (front u) left after r' → first.rows ≡ second.rows → SameFound kind r r'
both_agree kind first second t u work left after (Ok f) (Ok g) same x y eq =
    let totals = map kind.weight (front t) in
    let ws = ap (λ xs. map kind.weight (take max_places xs)) same in
    let other = subst (λ rows. Best rows totals g.message) (sym eq) (subst (λ vs. Best second.rows vs g.message) ws y.is_best) in
    let m = best_unique first.rows totals f.message g.message x.is_best other in (
      m,
      x.weighs ∙ ap (agrees first.rows totals) m ∙ ap (λ rows. agrees rows totals g.message) eq
          ∙ ap (λ vs. agrees second.rows vs g.message) (sym ws) ∙ sym y.weighs,
    )
both_agree kind first second t u work left after (Ok f) (Err e) same x y eq = tt
both_agree kind first second t u work left after (Err e) r' same x y eq = tt
