-- What each call does to the book, and to a sheet that stands for it.
use Rattle.std.proofs.Common.{◌≡◌, ℕ, suc, ◌+◌, ◌*◌, ◌<◌, ◌≤◌, min, cond, List, [], ◌∷◌, ◌++◌, map, length, get_or, take, set, replicate, pos, ◌+ℤ◌, Some, Ok, Err, sym, refl, ap, ◌∙◌, subst, ap₂, inl, inr, arith}
use borrow.Author.Tests.{lt-true, le-false}
use lib.Seq.{take-set-lt}
use Rattle.std.proofs.lemmas.List.{length-map, length-take, length-set, get_or-take, get_or-set_same, get_or-set_other, map-set, set_past}
use Rattle.std.proofs.lemmas.Bool.{cases_eq}
use Rattle.code.specs.Limits.{max_places, full_label}
use Rattle.code.specs.declared.refusal.Refusal.{Refusal}
use Rattle.code.specs.declared.refusal.Refusal.TheVariants.{PlaceOffSheet}
use Rattle.reading.specs.declared.Reading.{Ghosts as Kind}
use Rattle.sample.specs.declared.Sample.{Sample}
use Rattle.sample.specs.Samples.{answer}
use Rattle.sample.proofs.Bounds.{main_bound, second_bound}
use Rattle.sheet.specs.declared.Sheet.{Sheet}
use Rattle.sheet.specs.Cells.{max_passes, covered, label_weight, pass_check, Blank, AllBlank, Passed, PassFails}
use Rattle.sheet.specs.Book.{Call, Pass, Strike, Clear, Search, Book, step, after, laid, book_of, add_labels, unless_refused, pass_answer, strike_answer}
use Rattle.sheet.specs.Stands.{cells_of, front, book_at, Stands, Same}
use Rattle.sheet.proofs.Checks.{none_overgrown, some_of}

after_push : (m s : ℕ) (b : Book) (h : List Call) (c : Call) → after m s b (h ++ (c ∷ [])) ≡ step m s (after m s b h) c
after_push m s b [] c = refl
after_push m s b (x ∷ h) c = after_push m s (step m s b x) h c

pub book_push : (m s n : ℕ) (h : List Call) (c : Call) → book_of m s n (h ++ (c ∷ [])) ≡ step m s (book_of m s n h) c
unfolding book_of
book_push m s n h c = after_push m s (laid n) h c

module _ {R : Type 0} (kind : Kind R) where
  blank_totals : (xs : List R) → AllBlank kind xs → map kind.weight xs ≡ replicate (length xs) (pos 0)
  blank_totals [] z = refl
  blank_totals (x ∷ xs) z =
      ap₂ (λ a b. a ∷ b) (z 0 x (omega arith)).weighs (blank_totals xs (λ k d h. z (suc k) d (omega arith)))

  -- the totals of cells to which samples were added
  new_totals : (xs ys : List R) (ss : List Sample) → length ys ≡ length xs → length ss ≡ length xs →
      ((k : ℕ) (x : Sample) (d : R) → k < length ss → kind.weight (get_or ys k d) ≡ kind.weight (get_or xs k d) +ℤ label_weight kind.MAIN_UNIT kind.SECOND_UNIT (get_or ss k x)) →
      map kind.weight ys ≡ add_labels kind.MAIN_UNIT kind.SECOND_UNIT (map kind.weight xs) ss
  new_totals [] [] ss e f w = refl
  new_totals [] (y ∷ ys) ss e f w = absurd (omega arith)
  new_totals (x ∷ xs) [] ss e f w = absurd (omega arith)
  new_totals (x ∷ xs) (y ∷ ys) [] e f w = absurd (omega arith)
  new_totals (x ∷ xs) (y ∷ ys) (z ∷ zs) e f w =
      ap₂ (λ a b. a ∷ b) (w 0 z x (omega arith)) (new_totals xs ys zs (omega arith) (omega arith) (λ k v d h. w (suc k) v d (omega arith)))

  stands_to : (h : List Call) (c : Call) (t u : Sheet R) → length (cells_of u) ≡ length (cells_of t) →
      u.passes ≡ (step kind.MAIN_UNIT kind.SECOND_UNIT (book_at kind h t) c).count →
      map kind.weight (front u) ≡ (step kind.MAIN_UNIT kind.SECOND_UNIT (book_at kind h t) c).totals →
      ((k : ℕ) (d : R) → k < covered (cells_of u) → kind.size (get_or (cells_of u) k d) ≤ full_label * u.passes) →
      u.passes ≤ max_passes →
      Stands kind (h ++ (c ∷ [])) u
  stands_to h c t u len count totals light few =
      let n : covered (cells_of u) ≡ covered (cells_of t) = ap (min max_places) len in
      let e = ap (λ k. book_of kind.MAIN_UNIT kind.SECOND_UNIT k (h ++ (c ∷ []))) n ∙ book_push kind.MAIN_UNIT kind.SECOND_UNIT (covered (cells_of t)) h c in
      record {
        count = count ∙ sym (ap (λ b. b.count) e);
        totals = totals ∙ sym (ap (λ b. b.totals) e);
        light = light;
        few = few;
      }

  -- the book of a sheet has as many places as the sheet covers
  pub places_are : (h : List Call) (t : Sheet R) → Stands kind h t → length (book_at kind h t).totals ≡ covered (cells_of t)
  places_are h t st = sym (ap length st.totals) ∙ length-map (front t) kind.weight ∙ length-take max_places (cells_of t)

  pub laid_out : (u : Sheet R) → u.passes ≡ 0 → AllBlank kind (front u) → Stands kind [] u
  unfolding book_of
  laid_out u e z = record {
    count = e;
    totals = blank_totals (front u) z ∙ ap (λ n. replicate n (pos 0)) (length-take max_places (cells_of u));
    light = λ k d h.
        let l : length (front u) ≡ min max_places (length (cells_of u)) = length-take max_places (cells_of u) in
        let b = (z k d (omega arith)).small in
        let r = ap kind.size (get_or-take max_places (cells_of u) k d (omega arith)) in omega arith;
    few = omega arith;
  }

  pub cleared : (h : List Call) (t u : Sheet R) → length (cells_of u) ≡ length (cells_of t) → u.passes ≡ 0 → AllBlank kind (front u) →
      Stands kind h t → Stands kind (h ++ (Clear ∷ [])) u
  cleared h t u len e z st =
      let o = laid_out u e z in
      stands_to h Clear t u len e
      (blank_totals (front u) z ∙ ap (λ n. replicate n (pos 0)) (length-take max_places (cells_of u) ∙ ap (min max_places) len ∙ sym (places_are h t st)))
      o.light o.few

  pub struck : (h : List Call) (t u : Sheet R) (k : ℕ) (v : R) → cells_of u ≡ set (cells_of t) k v → u.passes ≡ t.passes → k < covered (cells_of t) →
      Blank kind v → Stands kind h t →
      Stands kind (h ++ (Strike k ∷ [])) u × (Ok tt ≡ strike_answer (book_at kind h t) k)
  struck h t u k v is same below b st =
      let len : length (cells_of u) ≡ length (cells_of t) = ap length is ∙ length-set (cells_of t) k v in
      let n = places_are h t st in
      let at : k < length (book_at kind h t).totals = omega arith in (
        stands_to h (Strike k) t u len (same ∙ st.count)
            (ap (λ xs. map kind.weight (take max_places xs)) is ∙ ap (map kind.weight) (take-set-lt max_places (cells_of t) k v (omega arith)) ∙ map-set kind.weight (front t) k v
            ∙ ap₂ (λ xs z. set xs k z) st.totals b.weighs)
            (λ j d hj.
            let r = ap (λ xs. kind.size (get_or xs j d)) is in
            let z = b.small in
            elim (cases_eq j k) [
              | inl e ↦ let q = ap (λ i. kind.size (get_or (set (cells_of t) k v) i d)) e ∙ ap kind.size (get_or-set_same (cells_of t) k v d (omega arith)) in omega arith
              | inr ne ↦ let q = ap kind.size (get_or-set_other (cells_of t) k j v d ne) in let o = st.light j d (omega arith) in omega arith
            ])
            (let f = st.few in omega arith),
        ap (λ x. cond x (Ok tt) (Err (PlaceOffSheet k))) (lt-true k _ at),
      )

  pub not_struck : (h : List Call) (t : Sheet R) (k : ℕ) → covered (cells_of t) ≤ k → Stands kind h t →
      Stands kind (h ++ (Strike k ∷ [])) t × (Err (PlaceOffSheet k) ≡ strike_answer (book_at kind h t) k)
  not_struck h t k off st =
      let n = places_are h t st in
      let at : length (book_at kind h t).totals ≤ k = omega arith in (
        stands_to h (Strike k) t t refl st.count (st.totals ∙ sym (set_past _ k (pos 0) at)) st.light st.few,
        ap (λ x. cond x (Ok tt) (Err (PlaceOffSheet k))) (le-false k _ at),
      )

  -- a sheet that stands for a history is turned down by the book's checks alone
  book_check : (h : List Call) (t : Sheet R) (ss : List Sample) (e : Refusal) → PassFails kind ss t.passes (front t) e → Stands kind h t →
      pass_check (length (front t)) t.passes ss ≡ Some e
  book_check h t ss e (inl is) st = is
  book_check h t ss e (inr f) st =
      absurd (none_overgrown kind ss (front t) t.passes e f.1 f.2 f.3
      (λ k d hk.
      let l = length-take max_places (cells_of t) in
      let r = ap kind.size (get_or-take max_places (cells_of t) k d (omega arith)) in
      let o = st.light k d (omega arith) in omega arith)
      f.4)

  -- the book's own check of a pass is that of the covered cells
  check_is : (h : List Call) (t : Sheet R) (ss : List Sample) → Stands kind h t →
      pass_check (length (book_at kind h t).totals) (book_at kind h t).count ss ≡ pass_check (length (front t)) t.passes ss
  check_is h t ss st = ap₂ (λ i j. pass_check i j ss) (places_are h t st ∙ sym (length-take max_places (cells_of t))) (sym st.count)

  pub not_passed : (h : List Call) (t u : Sheet R) (ss : List Sample) (e : Refusal) → Same t u → PassFails kind ss t.passes (front t) e → Stands kind h t →
      Stands kind (h ++ (Pass ss ∷ [])) u × (Err e ≡ pass_answer (book_at kind h t) ss)
  not_passed h t u ss e same fails st =
      let b = book_at kind h t in
      let q = check_is h t ss st ∙ book_check h t ss e fails st in
      let new : Book = record { count = b.count + 1; totals = add_labels kind.MAIN_UNIT kind.SECOND_UNIT b.totals ss } in
      let stay = ap (λ o. unless_refused o new b) q in (
        stands_to h (Pass ss) t u (ap length same.cells) (same.passes ∙ st.count ∙ sym (ap (λ x. x.count) stay))
            (ap (λ xs. map kind.weight (take max_places xs)) same.cells ∙ st.totals ∙ sym (ap (λ x. x.totals) stay))
            (λ k d hk.
            let p = same.passes in let i = ap length same.cells in let v = ap (λ xs. kind.size (get_or xs k d)) same.cells in let l = st.light k d (omega arith) in
            subst (λ j. kind.size (get_or (cells_of u) k d) ≤ full_label * j) (sym p) (omega arith))
            (let f = st.few in let p = same.passes in omega arith),
        sym (ap (λ o. answer o (b.count + 1)) q),
      )

  pub passed : (h : List Call) (t u : Sheet R) (ss : List Sample) (count : ℕ) → length (cells_of u) ≡ length (cells_of t) →
      Passed kind ss t.passes (front t) (front u) count → u.passes ≡ count → Stands kind h t →
      Stands kind (h ++ (Pass ss ∷ [])) u × (Ok count ≡ pass_answer (book_at kind h t) ss)
  passed h t u ss count len p is st =
      let b = book_at kind h t in
      let q = check_is h t ss st ∙ p.fits.checked in
      let new : Book = record { count = b.count + 1; totals = add_labels kind.MAIN_UNIT kind.SECOND_UNIT b.totals ss } in
      let go = ap (λ o. unless_refused o new b) q in
      let lt = length-take max_places (cells_of t) in
      let lu = length-take max_places (cells_of u) in
      let long = p.fits.long in
      let more : count ≡ b.count + 1 = p.counted ∙ ap (λ k. k + 1) st.count in (
        stands_to h (Pass ss) t u len
            (is ∙ more ∙ sym (ap (λ x. x.count) go))
            (new_totals (front t) (front u) ss (omega arith) (omega arith) (λ k x d hk. (p.added.grown k x d hk).weighs)
            ∙ ap (λ xs. add_labels kind.MAIN_UNIT kind.SECOND_UNIT xs ss) st.totals ∙ sym (ap (λ x. x.totals) go))
            (λ k d hk.
            let x = some_of ss k (omega arith) in
            let a = (p.added.grown k x d (omega arith)).small in
            let g = p.fits.good k x (omega arith) in
            let v = main_bound (get_or ss k x) g in let w = second_bound (get_or ss k x) g in
            let l = st.light k d (omega arith) in let c = p.counted in
            let i = ap kind.size (get_or-take max_places (cells_of t) k d (omega arith)) in let j = ap kind.size (get_or-take max_places (cells_of u) k d (omega arith)) in omega arith)
            (let f = p.fits.few in let c = p.counted in omega arith),
        ap (λ k. Ok k) more ∙ sym (ap (λ o. answer o (b.count + 1)) q),
      )

  pub not_moved : (h : List Call) (t u : Sheet R) → Same t u → Stands kind h t → Stands kind (h ++ (Search ∷ [])) u
  not_moved h t u same st =
      stands_to h Search t u (ap length same.cells) (same.passes ∙ st.count) (ap (λ xs. map kind.weight (take max_places xs)) same.cells ∙ st.totals)
      (λ k d hk.
      let p = same.passes in let n = ap length same.cells in let e = ap (λ xs. kind.size (get_or xs k d)) same.cells in let l = st.light k d (omega arith) in
      subst (λ j. kind.size (get_or (cells_of u) k d) ≤ full_label * j) (sym p) (omega arith))
      (let f = st.few in let p = same.passes in omega arith)
