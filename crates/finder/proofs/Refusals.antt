-- When a search is refused, and what one that is not refused may rely on.
use Rattle.std.proofs.Common.{◌≡◌, ℕ, ◌+◌, ◌<◌, ◌≤◌, cond, eqb, leb, ltb, List, [], ◌∷◌, map, length, Some, None, Option, refl, sym, ap, ◌∙◌, subst, ⊎_elim, arith}
use Rattle.std.specs.List.{AllByRecursion, position, position_from}
use Rattle.std.proofs.lemmas.Iterator.Adapters.{position_from-zero}
use Rattle.std.proofs.lemmas.List.{length-map}
use Rattle.std.proofs.lemmas.Bool.{cond-true, cond-false, eq-eqb, ne_eqb, le-leb, lt-leb, lt-ltb, le-ltb}
use Rattle.std.proofs.lemmas.Bool.Decides.{leb_tells, eqb_tells}
use Rattle.code.specs.Limits.{size_limit, sum_limit}
use Rattle.code.specs.declared.refusal.Refusal.{Refusal}
use Rattle.code.specs.declared.refusal.Refusal.TheVariants.{WordLengthDiffers, SizeTooLarge, WorkMemoryShort}
use Rattle.finder.specs.Search.{large_from, refusal}

some_none : (e : Refusal) → Some e ≡ None → ⊥
some_none e h = let z : ◌≡◌ {A = ℕ} 0 1 = cc in omega arith

-- what is said of a word that has the right length and no large size
abbrev pub memory : ℕ → ℕ → Option Refusal
memory need have = cond (leb need have) None (Some WorkMemoryShort)

module _ (n need : ℕ) (sizes : List ℕ) (have : ℕ) where
  pub wrong_length : (length sizes ≡ n → ⊥) → refusal n need sizes have ≡ Some WordLengthDiffers
  unfolding refusal
  wrong_length h = cond-false (eqb (length sizes) n) _ _ (ne_eqb (length sizes) n h)

  pub right_length : length sizes ≡ n → refusal n need sizes have ≡ large_from 0 sizes (memory need have)
  unfolding refusal
  right_length h = cond-true (eqb (length sizes) n) _ _ (eq-eqb (length sizes) n h)

-- what is said of a word whose first large size has this place
abbrev pub large_or : Option ℕ → Option Refusal → Option Refusal
large_or (Some place) after = Some (SizeTooLarge place)
large_or None after = after

large_found : {R : Type 0} (size : R → ℕ) (xs : List R) (i : ℕ) (after : Option Refusal) → large_from i (map size xs) after ≡ large_or (position_from (λ x. ltb size_limit (size x)) i xs) after
large_found size [] i after = refl
large_found size (x ∷ xs) i after =
    ⊎_elim
    (λ t. cond-true (leb (size x) size_limit) _ _ t.0 ∙ large_found size xs (i + 1) after ∙ sym (ap (λ (o : Option ℕ). large_or o after) (cond-false (ltb size_limit (size x)) _ _ (le-ltb size_limit (size x) t.1))))
    (λ t. cond-false (leb (size x) size_limit) _ _ t.0 ∙ sym (ap (λ (o : Option ℕ). large_or o after) (cond-true (ltb size_limit (size x)) _ _ (lt-ltb size_limit (size x) t.1))))
    (leb_tells (size x) size_limit)

-- what is said of a word of the right length, by the place of its first large size
pub first_refusal : {R : Type 0} (size : R → ℕ) (word : List R) (n need have : ℕ) (large : Option ℕ) → length word ≡ n → large ≡ position (λ x. ltb size_limit (size x)) word → refusal n need (map size word) have ≡ large_or large (memory need have)
first_refusal size word n need have large long is =
    right_length n need (map size word) have (length-map word size ∙ long)
    ∙ large_found size word 0 (memory need have)
    ∙ ap (λ (o : Option ℕ). large_or o (memory need have)) (sym (position_from-zero (λ x. ltb size_limit (size x)) word) ∙ sym is)

pub memory_short : (need have : ℕ) → have < need → memory need have ≡ Some WorkMemoryShort
memory_short need have h = cond-false (leb need have) _ _ (lt-leb need have h)

pub memory-fits : (need have : ℕ) → need ≤ have → memory need have ≡ None
memory-fits need have h = cond-true (leb need have) _ _ (le-leb need have h)

large_none : (i : ℕ) (ss : List ℕ) (after : Option Refusal) → large_from i ss after ≡ None → AllByRecursion (λ s. s ≤ size_limit) ss × (after ≡ None)
large_none i [] after e = (tt, e)
large_none i (s ∷ ss) after e =
    ⊎_elim
    (λ t. let r = large_none (i + 1) ss after (rw t.0 at e) in ((t.1, r.0), r.1))
    (λ t. absurd (some_none (SizeTooLarge i) (rw t.0 at e)))
    (leb_tells s size_limit)

-- a search that is not refused has a word of the right length, no large size and room enough
pub taken_facts : (n need : ℕ) (sizes : List ℕ) (have : ℕ) → refusal n need sizes have ≡ None → (length sizes ≡ n) × AllByRecursion (λ s. s ≤ size_limit) sizes × (need ≤ have)
taken_facts n need sizes have e =
    ⊎_elim
    (λ t.
    let r = large_none 0 sizes (memory need have) (sym (right_length n need sizes have t.1) ∙ e) in
    (t.1, r.0, ⊎_elim (λ u. u.1) (λ u. absurd (some_none WorkMemoryShort (sym (cond-false (leb need have) _ _ u.0) ∙ r.1))) (leb_tells need have)))
    (λ t. absurd (some_none WordLengthDiffers (sym (wrong_length n need sizes have t.1) ∙ e)))
    (eqb_tells (length sizes) n)

pub all_sizes : {R : Type 0} (size : R → ℕ) (xs : List R) → AllByRecursion (λ s. s ≤ size_limit) (map size xs) → AllByRecursion (λ x. size x ≤ size_limit) xs
all_sizes size [] h = tt
all_sizes size (x ∷ xs) h = (h.0, all_sizes size xs h.1)

below_sum : {R : Type 0} (size : R → ℕ) (xs : List R) → AllByRecursion (λ x. size x ≤ size_limit) xs → AllByRecursion (λ x. size x ≤ sum_limit) xs
below_sum size [] h = tt
below_sum size (x ∷ xs) h = (let k = h.0 in omega arith, below_sum size xs h.1)

-- the readings of a word that a search took may be negated
pub taken_sizes : {R : Type 0} (size : R → ℕ) (n need : ℕ) (word same : List R) (have : ℕ) → refusal n need (map size word) have ≡ None → same ≡ word → AllByRecursion (λ x. size x ≤ sum_limit) same
taken_sizes size n need word same have e is = subst (AllByRecursion (λ x. size x ≤ sum_limit)) (sym is) (below_sum size word (all_sizes size word (taken_facts n need (map size word) have e).1))

-- a word that was taken is not refused
pub not_both : {X : Type 0} (n need : ℕ) (sizes others : List ℕ) (a b : ℕ) (e : Refusal) → refusal n need sizes a ≡ None → others ≡ sizes → b ≡ a → refusal n need others b ≡ Some e → X
not_both n need sizes others a b e taken same len refused =
    let clash : Some e ≡ None = sym refused ∙ ap (λ (l : List ℕ). refusal n need l b) same ∙ ap (refusal n need sizes) len ∙ taken in
    absurd (some_none e clash)
