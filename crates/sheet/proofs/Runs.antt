-- One request more of a run, a run from a sheet just laid out, and searches by a name.
use Rattle.std.proofs.Common.{◌≡◌, ℕ, ◌+◌, ◌-◌, ◌<◌, ◌≤◌, min, ◌≢◌, List, [], ◌∷◌, ◌++◌, map, length, get_or, take, drop, set, ℤ, Some, Ok, Err, Result, sym, refl, ap, ◌∙◌, subst, inl, inr, arith, below_more, MatchResult}
use Rattle.std.proofs.lemmas.Bool.{cases_eq, cases_lt}
use Rattle.std.proofs.lemmas.List.{get_or_read, get_or-set_same, get_or-set_other, map_more, append_assoc, drop-drop}
use denote.Ref.{Bor}
use Rattle.code.specs.Limits.{max_places}
use Rattle.code.specs.Words.{Best, agrees}
use Rattle.code.proofs.Tops.{best_unique}
use Rattle.code.specs.declared.refusal.Refusal.{Refusal}
use Rattle.reading.specs.declared.Reading.{Ghosts as Kind}
use Rattle.finder.specs.declared.found.Found.{Found}
use Rattle.finder.specs.Search.{Meaning, Answered, Refused}
use Rattle.sheet.specs.declared.Sheet.{Sheet}
use Rattle.sheet.specs.declared.run.Request.{Request}
use Rattle.sheet.specs.declared.run.Request.TheVariants as request
use Rattle.sheet.specs.declared.run.Answer.{Answer}
use Rattle.sheet.specs.declared.run.Answer.TheVariants.{Searched}
use Rattle.sheet.specs.Cells.{covered}
use Rattle.sheet.specs.Book.{Book, Call, SearchRule, book_of}
use Rattle.sheet.specs.Stands.{cells_of, front, book_at, book_over, Stands, Booked, Kept, Same, SearchLaw}
use Rattle.sheet.specs.Runs.{call_of, calls_of, used, rows_sought, Agree, AnswersTo, Served, Ran, RanFrom, RanOver, Spared}

-- what is dropped from equal rests is equal
pub drop_further : {X : Type 0} (a b : ℕ) (xs ys : List X) → a ≤ b → drop a xs ≡ drop a ys → drop b xs ≡ drop b ys
drop_further a b xs ys h e =
    let is : a + (b - a) ≡ b = omega arith in
    ap (λ n. drop n xs) (sym is) ∙ sym (drop-drop (b - a) a xs) ∙ ap (drop (b - a)) e ∙ drop-drop (b - a) a ys ∙ ap (λ n. drop n ys) is

pub kept_then : {R : Type 0} {t u v : Sheet R} → Kept t u → Kept u v → Kept t v
kept_then a b = record { named = b.named ∙ a.named; long = b.long ∙ a.long; beyond = b.beyond ∙ a.beyond }

pub kept_same : {R : Type 0} {t u : Sheet R} → Same t u → Kept t u
kept_same same = record { named = same.named; long = ap length same.cells; beyond = ap (drop max_places) same.cells }

-- one request more spares what lies beyond its own need
pub spared_more : {R F : Type 0} (by : F → Meaning) (reqs : List (Request F)) (i : ℕ) (os : List (Answer R)) (q : Request F) (a : Answer R) (xs ys zs : List R) → i < length reqs → i < length os → q ≡ get_or reqs i q →
    drop (used by q a) zs ≡ drop (used by q a) ys →
    Spared by reqs i os xs ys → Spared by reqs (i + 1) (set os i a) xs zs
spared_more by reqs i os q a xs ys zs hr ha read one before b all =
    let mine : used by q a ≤ b =
    subst (λ x. used by q x ≤ b) (get_or-set_same os i a a ha)
    (subst (λ y. used by y (get_or (set os i a) i a) ≤ b) (sym (get_or_read reqs i q hr read q)) (all i q a (omega arith))) in
    drop_further (used by q a) b zs ys mine one
    ∙ before b (λ k d e hk. let ne : k ≢ i = omega arith in subst (λ x. used by (get_or reqs k d) x ≤ b) (get_or-set_other os i k a e ne) (all k d e (omega arith)))

module _ {R F : Type 0} (kind : Kind R) (by : F → Meaning) (reqs : List (Request F)) where
  pub ran_more : (work : ℕ) (h : List Call) (i : ℕ) (t u v : Sheet R) (os : List (Answer R)) (q : Request F) (a : Answer R) → i < length reqs → i < length os → q ≡ get_or reqs i q →
      length (cells_of u) ≡ length (cells_of t) →
      Booked kind u v (call_of q) (λ b. AnswersTo kind by work b q a) →
      Ran kind by work h reqs i t u os → Ran kind by work h reqs (i + 1) t v (set os i a)
  ran_more work h i t u v os q a hr ha read len booked ran =
      let before : List Call = h ++ calls_of i reqs in
      let one = booked before ran.stands in
      let pushed : before ++ (call_of q ∷ []) ≡ h ++ calls_of (i + 1) reqs =
      append_assoc h (calls_of i reqs) (call_of q ∷ [])
      ∙ ap (λ c. h ++ (calls_of i reqs ++ (call_of c ∷ []))) read
      ∙ ap (λ cs. h ++ cs) (sym (map_more call_of reqs i q hr)) in
      record {
        stands = subst (λ g. Stands kind g v) pushed one.0;
        answered = λ k d e hk.
            below_more (λ j. AnswersTo kind by work (book_at kind (h ++ calls_of j reqs) t) (get_or reqs j d) (get_or (set os i a) j e)) i
            (λ j hj. let ne : j ≢ i = omega arith in
            subst (λ x. AnswersTo kind by work (book_at kind (h ++ calls_of j reqs) t) (get_or reqs j d) x)
            (sym (get_or-set_other os i j a e ne)) (ran.answered j d e hj))
            (subst (λ x. AnswersTo kind by work (book_at kind before t) (get_or reqs i d) x) (sym (get_or-set_same os i a e ha))
            (subst (λ y. AnswersTo kind by work (book_at kind before t) y a) (get_or_read reqs i q hr read d)
            (subst (λ n. AnswersTo kind by work (book_of kind.MAIN_UNIT kind.SECOND_UNIT n before) q a) (ap (min max_places) len) one.1)))
            k hk;
      }

  -- one request more of a run
  pub ran_from_more : (i : ℕ) (t u v : Sheet R) (work mid after : List R) (os : List (Answer R)) (q : Request F) (a : Answer R) → length mid ≡ length work → i < length reqs → i < length os → q ≡ get_or reqs i q →
      Kept t u → Served kind by (length mid) u v q mid after a → RanFrom kind by reqs i t u work mid os → RanFrom kind by reqs (i + 1) t v work after (set os i a)
  ran_from_more i t u v work mid after os q a same hr ha read kept served ran =
      let one : Served kind by (length work) u v q mid after a = subst (λ n. Served kind by n u v q mid after a) same served in record {
        law = λ h st. ran_more (length work) h i t u v os q a hr ha read kept.long one.book (ran.law h st);
        spared = spared_more by reqs i os q a work mid after hr ha read one.spared ran.spared;
      }

-- ---- two searches

-- what was found is the best message of those rows at those totals, and weighs its agreement
pub record Finds {R : Type 0} (kind : Kind R) (rows : List ℕ) (totals : List ℤ) (x : Found R) : Type 0 where
  pub best : Best rows totals x.message
  pub weighs : kind.weight x.reading ≡ agrees rows totals x.message

-- two finds with the same rows at the same totals are the same
same_finds : {R : Type 0} (kind : Kind R) (rows : List ℕ) (totals others : List ℤ) (x y : Found R) → totals ≡ others → Finds kind rows totals x → Finds kind rows others y →
    (x.message ≡ y.message) × (kind.weight x.reading ≡ kind.weight y.reading)
same_finds kind rows totals others x y e f g =
    let h : Finds kind rows totals y = subst (λ ws. Finds kind rows ws y) (sym e) g in
    let m = best_unique rows totals x.message y.message f.best h.best in
    (m, f.weighs ∙ ap (agrees rows totals) m ∙ sym h.weighs)

module _ {R F : Type 0} (kind : Kind R) (by : F → Meaning) (work : ℕ) where
  rule_found : (finder : F) (totals : List ℤ) (r : Result (Found R) Refusal) (x : Found R) → r ≡ Ok x → SearchRule kind (by finder) work totals r →
      Finds kind (by finder).rows totals x
  rule_found finder totals r x is rule =
      elim (cases_eq (length totals) (by finder).span) [
        | inl e ↦ elim (cases_lt work (by finder).need) [
          | inl short ↦ let bad : Ok x ≡ Err _ = sym is ∙ rule.work_short e short in absurd (no_ok x _ bad)
          | inr fits ↦
              let a = rule.answered e fits in
              let same : a.0 ≡ x = ok_is a.0 x (sym a.1 ∙ is) in
              subst (λ f. Finds kind (by finder).rows totals f) same (record { best = a.2; weighs = a.3 })
        ]
        | inr ne ↦ let bad : Ok x ≡ Err _ = sym is ∙ rule.length_differs ne in absurd (no_ok x _ bad)
      ]
    where
      no_ok : (f : Found R) (e : Refusal) → ◌≡◌ {A = Result (Found R) Refusal} (Ok f) (Err e) → ⊥
      no_ok f e p = let z : ◌≡◌ {A = ℕ} 0 1 = cc in omega arith

      ok_is : (f g : Found R) → ◌≡◌ {A = Result (Found R) Refusal} (Ok f) (Ok g) → f ≡ g
      ok_is f g p = cc

  answer_finds : (b : Book) (q : Request F) (a : Answer R) (w : List ℕ) (x : Found R) → rows_sought by q ≡ Some w → a ≡ Searched (Ok x) →
      AnswersTo kind by work b q a → Finds kind w b.totals x
  answer_finds b (request.Pass samples) a w x s is ans = let z : ◌≡◌ {A = ℕ} 0 1 = cc in absurd (omega arith)
  answer_finds b (request.Strike place) a w x s is ans = let z : ◌≡◌ {A = ℕ} 0 1 = cc in absurd (omega arith)
  answer_finds b request.Clear a w x s is ans = let z : ◌≡◌ {A = ℕ} 0 1 = cc in absurd (omega arith)
  answer_finds b (request.Search finder) a w x s is (r, ar, rule) =
      let found : r ≡ Ok x = cc in
      let seek : (by finder.now).rows ≡ w = cc in
      subst (λ ws. Finds kind ws b.totals x) seek (rule_found finder.now b.totals r x found rule)

  pub searches_agree : (book : ℕ → Book) (requests : List (Request F)) (answers : List (Answer R)) →
      ((k : ℕ) (q : Request F) (a : Answer R) → k < length requests → AnswersTo kind by work (book k) (get_or requests k q) (get_or answers k a)) →
      Agree kind by (λ k. (book k).totals) requests answers
  searches_agree book requests answers all j k q a w x y hj hk sj sk same aj ak =
      same_finds kind w (book j).totals (book k).totals x y same
      (answer_finds (book j) (get_or requests j q) (get_or answers j a) w x sj aj (all j q a hj))
      (answer_finds (book k) (get_or requests k q) (get_or answers k a) w y sk ak (all k q a hk))

-- ---- a whole run

module _ {R F : Type 0} (kind : Kind R) (by : F → Meaning) (reqs : List (Request F)) where
  -- a run from a sheet just laid out over the cells xs, which left the cells ys
  pub ran_over : (xs ys work after : List R) (t u : Sheet R) (old os : List (Answer R)) → Stands kind [] t → length (cells_of t) ≡ length xs → drop max_places (cells_of t) ≡ drop max_places xs →
      Kept t u → ys ≡ cells_of u → drop (length reqs) os ≡ drop (length reqs) old →
      RanFrom kind by reqs (length reqs) t u work after os → RanOver kind by reqs u.passes xs ys work after old os
  ran_over xs ys work after t u old os st lt dt kept is rest ran =
      let end = ran.law [] st in
      let n : covered (cells_of u) ≡ covered xs = ap (min max_places) (kept.long ∙ lt) in
      let book : ℕ → Book = λ k. book_of kind.MAIN_UNIT kind.SECOND_UNIT k (calls_of (length reqs) reqs) in
      let answered : (k : ℕ) (q : Request F) (a : Answer R) → k < length reqs → AnswersTo kind by (length work) (book_over kind xs (calls_of k reqs)) (get_or reqs k q) (get_or os k a) = λ k q a hk.
      subst (λ j. AnswersTo kind by (length work) (book_of kind.MAIN_UNIT kind.SECOND_UNIT j (calls_of k reqs)) (get_or reqs k q) (get_or os k a)) (ap (min max_places) lt) (end.answered k q a hk) in
      record {
        answered = answered;
        agree = searches_agree kind by (length work) _ reqs os answered;
        counted = end.stands.count ∙ ap (λ k. (book k).count) n;
        totals = ap (λ zs. map kind.weight (take max_places zs)) is ∙ end.stands.totals ∙ ap (λ k. (book k).totals) n;
        beyond = ap (drop max_places) is ∙ kept.beyond ∙ dt;
        spared = ran.spared;
        rest = rest;
      }

-- ---- requests that name their finders

-- a search by a finder is a search by whatever means the same
pub search_by : {R : Type 0} (kind : Kind R) (own by : Meaning) (t u : Sheet R) (before after : List R) (r : Result (Found R) Refusal) →
    own ≡ by → SearchLaw kind t u own before after r → SearchLaw kind t u by before after r
search_by kind own by t u before after r same = subst (λ (m : Meaning). SearchLaw kind t u m before after r) same

-- a search was a request for one
pub served_search : {R N : Type 0} (kind : Kind R) (by : N → Meaning) (name : Bor N) (t u : Sheet R) (before after : List R) (r : Result (Found R) Refusal) →
    SearchLaw kind t u (by name.now) before after r → Served kind by (length before) t u (request.Search name) before after (Searched r)
served_search kind by name t u before after r law = record {
  book = λ h st. let b = law.book h st in (b.0, (r, refl, b.1));
  call = (r, refl, law);
  kept = kept_same law.same;
  spared = spares r law.cells;
}
  where
    spares : (x : Result (Found _) Refusal) → MatchResult x
        (Answered kind (by name.now) (front t) before after)
        (Refused kind.size (by name.now).span (by name.now).need (front t) before after) →
        drop (used by (request.Search name) (Searched x)) after ≡ drop (used by (request.Search name) (Searched x)) before
    spares (Ok f) a = a.beyond
    spares (Err e) a = ap (drop 0) a.untouched
