-- Reading refuses a row where a card just started does.
use Rattle.std.proofs.Common.{◌≡◌, ℕ, zero, suc, ◌+◌, ◌^◌, ◌<◌, ◌≤◌, Bool, true, false, cond, ◌&&◌, ltb, leb, ◌⊎◌, List, [], ◌∷◌, ◌++◌, length, take, drop, Some, None, Ok, Err, Result, sym, refl, ap, ◌∙◌, subst, ap₂, inl, inr, arith}
use Rattle.std.proofs.lemmas.List.{length_push}
use Rattle.std.proofs.lemmas.Bool.{cases_Bool, cases_lt, both_ways, le-leb, lt-leb, leb-true}
use Rattle.code.specs.declared.refusal.Section.{Section}
use Rattle.code.specs.declared.refusal.Section.TheVariants.{Group, Transform, Coset}
use Rattle.code.specs.declared.refusal.Refusal.{Refusal}
use Rattle.code.specs.declared.refusal.Refusal.TheVariants.{DigitBeyondLength, SectionFull, DependentRow, ConcurrenceBroken, BytesEndEarly, BytesLeftOver, LengthOutOfRange}
use Rattle.code.specs.Limits.{Length}
use Rattle.code.specs.Spans.{Span}
use Rattle.card.specs.Rows.{Within, dependent}
use Rattle.card.specs.Cards.{Card, Lawful, Keeps, NoneAfter, RowTold, blank, keeps, pushed, rows_of, section_of, max_section_rows, verdict}
use Rattle.card.proofs.Decided.{dependent_from_span, span_from_dependent, concordant_from, concur_from_concordant}
use Rattle.card.proofs.Pushes.{lawful_pushed, none_after_pushed, passed, rows_pushed}
use Rattle.card.proofs.Tables.{within_push, within_left, verdict_dependent, verdict_concurrence, verdict_ok}
use Rattle.card_list.specs.declared.requests.Request.{Request}
use Rattle.card_list.specs.declared.requests.Request.TheVariants.{AddRow, MoveOn}
use Rattle.card_list.specs.declared.requests.Answer.{Answer}
use Rattle.card_list.specs.declared.requests.Answer.TheVariants.{Taken, Moved, Refused}
use Rattle.card_list.specs.Requests.{View, afterwards, next_open}
use Rattle.card_list.proofs.RequestLists.{OwnFrom, own_from}
use Rattle.card_file.specs.Files.{Reading, is_none, on_ok, none_left, read_rows_lem, read_section_lem, row_of, row_size}
use Rattle.card_file.specs.FileRows.{RowsAsAdded, asked, coset_asked, transform_asked, first_refused, of_row, row_refusal, rows_asked, section_asked}

-- ---- one row

-- the view of a card with a section open
abbrev shown : Section → Card → View
shown s k = record { len = k.len; open_section = Some s; here = section_of k s; all = rows_of k }

shown_pushed : (k : Card) (s : Section) (row : ℕ) → NoneAfter k s → afterwards (shown s k) (AddRow row) Taken ≡ shown s (pushed k s row)
shown_pushed k Group row h i = record { len = k.len; open_section = Some Group; here = k.group ++ row ∷ []; all = sym (rows_pushed k Group row h) i }
shown_pushed k Transform row h i = record { len = k.len; open_section = Some Transform; here = k.transform ++ row ∷ []; all = sym (rows_pushed k Transform row h) i }
shown_pushed k Coset row h i = record { len = k.len; open_section = Some Coset; here = k.coset ++ row ∷ []; all = sym (rows_pushed k Coset row h) i }

-- a row that a card of few enough rows takes, or refuses with a refusal of rows
data Outcome (k : Card) (s : Section) (row : ℕ) (a : Answer) : Type 0 where
  took : Ok tt ≡ verdict k s row → a ≡ Taken → Outcome k s row a
  turned : (e : Refusal) → Err e ≡ verdict k s row → a ≡ Refused e → of_row e ≡ Some e → Outcome k s row a

-- whether a row keeps concurrence can be told
keeps-told : (k : Card) (s : Section) (row : ℕ) → Lawful k → row < 2 ^ k.len
    → (Keeps s (section_of k s) row × (keeps k s row ≡ true)) ⊎ ((Keeps s (section_of k s) row → ⊥) × (keeps k s row ≡ false))
keeps-told k Group row l lt =
    let n = k.len in
    let rows = k.group ++ row ∷ [] in
    let w : Within n rows = within_push n k.group row (within_left n k.group (k.transform ++ k.coset) l.within) lt in
    elim (cases_Bool (keeps k Group row)) [
      | inl t ↦ inl (concur_from_concordant n rows w t, t)
      | inr f ↦ inr (λ h. both_ways (keeps k Group row) f (concordant_from n rows h), f)
    ]
keeps-told k Transform row l lt = inl (tt, refl)
keeps-told k Coset row l lt = inl (tt, refl)

module _ (k : Card) (s : Section) (row : ℕ) (a : Answer) (l : Lawful k) (room : length (section_of k s) < max_section_rows)
    (told : RowTold Taken Refused k.len s (section_of k s) (rows_of k) row a) where
  inside : row < 2 ^ k.len → Outcome k s row a
  inside lt =
      let n = length (section_of k s) in
      let b = lt-leb (2 ^ k.len) row lt in
      elim (cases_Bool (dependent (rows_of k) row)) [
        | inl t ↦ turned (DependentRow s n) (verdict_dependent k s row n refl b room t) (told.dependent lt room (span_from_dependent (rows_of k) row t)) refl
        | inr f ↦
            let out : Span (rows_of k) row → ⊥ = λ sp. both_ways (dependent (rows_of k) row) f (dependent_from_span (rows_of k) row sp) in
            elim (keeps-told k s row l lt) [
              | inl (good, t) ↦ took (verdict_ok k s row n refl b room f t) (told.taken lt room out good)
              | inr (bad, t) ↦ turned (ConcurrenceBroken s n) (verdict_concurrence k s row n refl b room f t) (told.broken lt room out bad) refl
            ]
      ]

  outcome : Outcome k s row a
  outcome =
      elim (cases_lt row (2 ^ k.len)) [
        | inl lt ↦ inside lt
        | inr ge ↦
            let b = le-leb (2 ^ k.len) row ge in
            turned (DigitBeyondLength s (length (section_of k s))) (simp b) (told.beyond ge) refl
      ]

count-pushed : (k : Card) (s : Section) (row : ℕ) → length (section_of (pushed k s row) s) ≡ length (section_of k s) + 1
count-pushed k Group row = length_push k.group row
count-pushed k Transform row = length_push k.transform row
count-pushed k Coset row = length_push k.coset row

-- ---- the rows of a section

Agrees : Result Card Refusal → List Request → List Answer → Type 0
Agrees r rs bs = row_refusal r ≡ first_refused rs bs

module _ (s : Section) (rest : List ℕ → List Request) (next : Reading → Result Card Refusal) where
  -- what follows the section agrees, whatever lawful card it starts from
  Follows : Type 0
  Follows = (k : Card) (bs : List ℕ) (ans : List Answer) → Lawful k → NoneAfter k s → OwnFrom (shown s k) (rest bs) ans → Agrees (next (record { card = k; left = bs })) (rest bs) ans

  row_agrees : (n : ℕ) (k : Card) (row : ℕ) (bs : List ℕ) (a : Answer) (ans : List Answer) → Lawful k → NoneAfter k s
      → (Lawful (pushed k s row) → OwnFrom (shown s (pushed k s row)) (rows_asked rest n bs) ans
      → Agrees (on_ok (read_rows_lem s n (pushed k s row) bs) next) (rows_asked rest n bs) ans)
      → Outcome k s row a → OwnFrom (afterwards (shown s k) (AddRow row) a) (rows_asked rest n bs) ans
      → Agrees (on_ok (on_ok (verdict k s row) (λ _. read_rows_lem s n (pushed k s row) bs)) next) (AddRow row ∷ rows_asked rest n bs) (a ∷ ans)
  unfolding Agrees
  row_agrees n k row bs a ans l last more (took v is) own =
      let rs = rows_asked rest n bs in
      ap (λ (x : Result (Unit {0}) Refusal). row_refusal (on_ok (on_ok x (λ _. read_rows_lem s n (pushed k s row) bs)) next)) (sym v)
      ∙ more (lawful_pushed k s row last l (passed tt k s row v)) (subst (λ (w : View). OwnFrom w rs ans) (ap (λ (x : Answer). afterwards (shown s k) (AddRow row) x) is ∙ shown_pushed k s row last) own)
      ∙ ap (λ (x : Answer). first_refused (AddRow row ∷ rs) (x ∷ ans)) (sym is)
  row_agrees n k row bs a ans l last more (turned e v is of) own =
      let rs = rows_asked rest n bs in
      ap (λ (x : Result (Unit {0}) Refusal). row_refusal (on_ok (on_ok x (λ _. read_rows_lem s n (pushed k s row) bs)) next)) (sym v)
      ∙ of
      ∙ ap (λ (x : Answer). first_refused (AddRow row ∷ rs) (x ∷ ans)) (sym is)

  turn : (b : Bool) (n : ℕ) (k : Card) (row : ℕ) (bs : List ℕ) (ans : List Answer) → Lawful k → NoneAfter k s → length (section_of k s) < max_section_rows
      → ((q : List Answer) → Lawful (pushed k s row) → OwnFrom (shown s (pushed k s row)) (rows_asked rest n bs) q
      → Agrees (on_ok (read_rows_lem s n (pushed k s row) bs) next) (rows_asked rest n bs) q)
      → OwnFrom (shown s k) (cond b [] (AddRow row ∷ rows_asked rest n bs)) ans
      → Agrees (on_ok (cond b (Err BytesEndEarly) (on_ok (verdict k s row) (λ _. read_rows_lem s n (pushed k s row) bs))) next) (cond b [] (AddRow row ∷ rows_asked rest n bs)) ans
  unfolding Agrees OwnFrom
  turn true n k row bs ans l last room more own = refl
  turn false n k row bs [] l last room more own = absurd own
  turn false n k row bs (a ∷ ans) l last room more (due, own) = row_agrees n k row bs a ans l last (more ans) (outcome k s row a l room due) own

  rows_agree : (n : ℕ) (k : Card) (bs : List ℕ) (ans : List Answer) → Follows → Lawful k → NoneAfter k s → length (section_of k s) + n ≤ max_section_rows
      → OwnFrom (shown s k) (rows_asked rest n bs) ans → Agrees (on_ok (read_rows_lem s n k bs) next) (rows_asked rest n bs) ans
  unfolding Follows
  rows_agree zero k bs ans f l last few own = f k bs ans l last own
  rows_agree (suc n) k bs ans f l last few own =
      let row = row_of (take row_size bs) in
      turn (ltb (length bs) row_size) n k row (drop row_size bs) ans l last (omega arith)
      (λ q law own'. rows_agree n (pushed k s row) (drop row_size bs) q f law (none_after_pushed k s row last) (omega (arith, count-pushed k s row)) own') own

  count_agrees : (b : Bool) (n : ℕ) (k : Card) (bs : List ℕ) (ans : List Answer) → leb n max_section_rows ≡ b → Follows → Lawful k → NoneAfter k s → length (section_of k s) ≡ 0
      → OwnFrom (shown s k) (cond b (rows_asked rest n bs) []) ans
      → Agrees (on_ok (cond b (read_rows_lem s n k bs) (Err (SectionFull s))) next) (cond b (rows_asked rest n bs) []) ans
  unfolding Agrees
  count_agrees true n k bs ans e f l last none own = rows_agree n k bs ans f l last (omega (arith, leb-true n max_section_rows e)) own
  count_agrees false n k bs ans e f l last none own = refl

  section_agrees : (bs : List ℕ) (k : Card) (ans : List Answer) → Follows → Lawful k → NoneAfter k s → length (section_of k s) ≡ 0
      → OwnFrom (shown s k) (section_asked rest bs) ans → Agrees (on_ok (read_section_lem s k bs) next) (section_asked rest bs) ans
  unfolding Agrees
  section_agrees [] k ans f l last none own = refl
  section_agrees (n ∷ bs) k ans f l last none own = count_agrees (leb n max_section_rows) n k bs ans refl f l last none own

-- ---- section after section

on_ok_on : {A B C : Type 0} (r : Result A Refusal) (f : A → Result B Refusal) (g : B → Result C Refusal) → on_ok (on_ok r f) g ≡ on_ok r (λ a. on_ok (f a) g)
on_ok_on (Ok a) f g = refl
on_ok_on (Err e) f g = refl

third : Reading → Result Reading Refusal
third t = read_section_lem Coset t.card t.left

second : Reading → Result Reading Refusal
second g = on_ok (read_section_lem Transform g.card g.left) third

after_coset : (r : Reading) → row_refusal (none_left r) ≡ None
after_coset r = elim (is_none r.left) as (λ (b : Bool). row_refusal (cond b (Ok r.card) (Err BytesLeftOver)) ≡ None) [ true ↦ refl | false ↦ refl ]

-- a move to a section with no rows
moved : (k : Card) (s t : Section) (a : Answer) → next_open (Some s) ≡ Some t → section_of k t ≡ [] → afterwards (shown s k) MoveOn a ≡ shown t k
moved k s t a o none i = record { len = k.len; open_section = o i; here = sym none i; all = rows_of k }

move_told : (rs : List Request) (a : Answer) (ans : List Answer) → a ≡ Moved → first_refused rs ans ≡ first_refused (MoveOn ∷ rs) (a ∷ ans)
move_told rs a ans is = ap (λ (x : Answer). first_refused (MoveOn ∷ rs) (x ∷ ans)) (sym is)

none_length : (xs : List ℕ) → xs ≡ [] → length xs ≡ 0
none_length xs e = ap length e

coset_agrees : (k : Card) (bs : List ℕ) (ans : List Answer) → Lawful k → k.coset ≡ [] → OwnFrom (shown Coset k) (coset_asked bs) ans
    → Agrees (on_ok (read_section_lem Coset k bs) none_left) (coset_asked bs) ans
unfolding Follows Agrees
coset_agrees k bs ans l none own =
    section_agrees Coset (λ _. []) none_left bs k ans (λ q ds x _ _ _. after_coset (record { card = q; left = ds })) l tt (none_length k.coset none) own

transform_follows : Follows Transform (λ c. MoveOn ∷ coset_asked c) (λ t. on_ok (third t) none_left)
unfolding Follows Agrees OwnFrom third
transform_follows k bs [] l none own = absurd own
transform_follows k bs (a ∷ ans) l none (is, own) =
    coset_agrees k bs ans l none (subst (λ (v : View). OwnFrom v (coset_asked bs) ans) (moved k Transform Coset a refl none) own)
    ∙ move_told (coset_asked bs) a ans is

transform_agrees : (k : Card) (bs : List ℕ) (ans : List Answer) → Lawful k → (k.transform ≡ []) × (k.coset ≡ []) → OwnFrom (shown Transform k) (transform_asked bs) ans
    → Agrees (on_ok (read_section_lem Transform k bs) (λ t. on_ok (third t) none_left)) (transform_asked bs) ans
transform_agrees k bs ans l (nt, nc) own =
    section_agrees Transform (λ c. MoveOn ∷ coset_asked c) (λ t. on_ok (third t) none_left) bs k ans transform_follows l nc (none_length k.transform nt) own

group_follows : Follows Group (λ t. MoveOn ∷ transform_asked t) (λ g. on_ok (second g) none_left)
unfolding Follows Agrees OwnFrom second
group_follows k bs [] l none own = absurd own
group_follows k bs (a ∷ ans) l none (is, own) =
    ap row_refusal (on_ok_on (read_section_lem Transform k bs) third none_left)
    ∙ transform_agrees k bs ans l none (subst (λ (v : View). OwnFrom v (transform_asked bs) ans) (moved k Group Transform a refl none.0) own)
    ∙ move_told (transform_asked bs) a ans is

blank_lawful : (n : ℕ) → Length n → Lawful (blank n)
blank_lawful n sized = record {
  sized = sized;
  few = λ s. elim s as (λ (q : Section). length (section_of (blank n) q) ≤ max_section_rows) [ Group ↦ omega arith | Transform ↦ omega arith | Coset ↦ omega arith ];
  within = λ j h. absurd (omega arith);
  independent = λ m h e. omega arith;
  concurring = λ i h. absurd (omega arith);
}

pub rows_as_added : (bytes : List ℕ) → RowsAsAdded bytes
unfolding Agrees second third
rows_as_added [] = tt
rows_as_added (n ∷ bs) = λ answers sized l own.
    ap₂ (λ (x y : Bool). row_refusal (on_ok (cond (x && y) (on_ok (read_section_lem Group (blank n) bs) second) (Err LengthOutOfRange)) none_left)) (le-leb 1 n sized.0) (le-leb n 64 sized.1)
    ∙ ap row_refusal (on_ok_on (read_section_lem Group (blank n) bs) second none_left)
    ∙ section_agrees Group (λ t. MoveOn ∷ transform_asked t) (λ g. on_ok (second g) none_left) bs (blank n) answers group_follows (blank_lawful n sized) (refl, refl) refl (own_from n (asked bs) answers l own)
