-- A row that passed the checks leaves a lawful card.
use Rattle.std.proofs.Common.{◌≡◌, ℕ, ◌+◌, ◌^◌, ◌<◌, ◌≤◌, Bool, true, false, cond, leb, List, [], ◌∷◌, ◌++◌, length, take, Ok, Err, Result, sym, refl, ap, ◌∙◌, subst, subst₂, append_assoc, arith, length-append}
use Rattle.std.proofs.Math.Seq.{take-append_seam, drop-append_seam, drop-append-add}
use Rattle.std.proofs.lemmas.List.{append-nil, length_push}
use Rattle.std.proofs.lemmas.Bool.{both_ways, leb-false}
use Rattle.code.specs.declared.refusal.Section.{Section}
use Rattle.code.specs.declared.refusal.Section.TheVariants.{Group, Transform, Coset}
use Rattle.code.specs.declared.refusal.Refusal.{Refusal}
use Rattle.code.specs.declared.refusal.Refusal.TheVariants.{DigitBeyondLength, SectionFull, DependentRow, ConcurrenceBroken}
use Rattle.code.specs.Spans.{Span}
use Rattle.card.specs.Rows.{dependent, Concur}
use Rattle.card.specs.Cards.{Card, Lawful, NoneAfter, rows_of, section_of, keeps, verdict, pushed, max_section_rows, card_rows}
use Rattle.code.proofs.Spans.{independent_push}
use Rattle.card.proofs.Decided.{dependent_from_span, concur_from_concordant}
use Rattle.card.specs.declared.table.Table.TheInside.{Inside}
use Rattle.card.specs.Tables.{card_of, table_of, rows_joined, table_of-card_of, IsTable}
use Rattle.card.proofs.Tables.{within_push, within_left}

-- a row that each of the four checks let by
pub record Passed (k : Card) (s : Section) (row : ℕ) : Type 0 where
  pub inside : row < 2 ^ k.len
  pub room : length (section_of k s) < max_section_rows
  pub new : dependent (rows_of k) row ≡ false
  pub concurring : keeps k s row ≡ true

four : (u : Unit {0}) (a b d e : Bool) (x y z w : Refusal)
    → ◌≡◌ {A = Result (Unit {0}) Refusal} (Ok u) (cond a (Err x) (cond b (Err y) (cond d (Err z) (cond e (Ok tt) (Err w)))))
    → (a ≡ false) × (b ≡ false) × (d ≡ false) × (e ≡ true)
four u false false false true x y z w h = (refl, refl, refl, refl)
four u true b d e x y z w h = absurd cc
four u false true d e x y z w h = absurd cc
four u false false true e x y z w h = absurd cc
four u false false false false x y z w h = absurd cc

pub passed : (u : Unit {0}) (k : Card) (s : Section) (row : ℕ) → Ok u ≡ verdict k s row → Passed k s row
passed u k s row h =
    let n = length (section_of k s) in
    let (a, b, d, e) = four u (leb (2 ^ k.len) row) (leb 8 (length (section_of k s))) (dependent (rows_of k) row) (keeps k s row) (DigitBeyondLength s n) (SectionFull s) (DependentRow s n) (ConcurrenceBroken s n) h in
    record { inside = leb-false (2 ^ k.len) row a; room = leb-false 8 (length (section_of k s)) b; new = d; concurring = e }

-- a row put after rows that none follow
last_of_group : (g t c : List ℕ) (row : ℕ) → t ≡ [] → c ≡ [] → (g ++ row ∷ []) ++ (t ++ c) ≡ (g ++ (t ++ c)) ++ row ∷ []
last_of_group g t c row et ec = rw (et, ec, append-nil (g ++ row ∷ []), append-nil g) refl

last_of_transform : (g t c : List ℕ) (row : ℕ) → c ≡ [] → g ++ ((t ++ row ∷ []) ++ c) ≡ (g ++ (t ++ c)) ++ row ∷ []
last_of_transform g t c row ec = rw (ec, append-nil (t ++ row ∷ []), append-nil t) (sym (append_assoc g t (row ∷ [])))

-- the new row stands last of all
pub rows_pushed : (k : Card) (s : Section) (row : ℕ) → NoneAfter k s → rows_of (pushed k s row) ≡ rows_of k ++ row ∷ []
rows_pushed k Group row e = last_of_group k.group k.transform k.coset row e.0 e.1
rows_pushed k Transform row e = last_of_transform k.group k.transform k.coset row e
rows_pushed k Coset row e = simp append_assoc

pub none_after_pushed : (k : Card) (s : Section) (row : ℕ) → NoneAfter k s → NoneAfter (pushed k s row) s
none_after_pushed k Group row e = e
none_after_pushed k Transform row e = e
none_after_pushed k Coset row e = e

few_pushed : (k : Card) (s : Section) (row : ℕ) → ((q : Section) → length (section_of k q) ≤ max_section_rows) → length (section_of k s) < max_section_rows
    → (q : Section) → length (section_of (pushed k s row) q) ≤ max_section_rows
few_pushed k Group row f r Group = omega (arith, r, length_push k.group row)
few_pushed k Group row f r Transform = f Transform
few_pushed k Group row f r Coset = f Coset
few_pushed k Transform row f r Group = f Group
few_pushed k Transform row f r Transform = omega (arith, r, length_push k.transform row)
few_pushed k Transform row f r Coset = f Coset
few_pushed k Coset row f r Group = f Group
few_pushed k Coset row f r Transform = f Transform
few_pushed k Coset row f r Coset = omega (arith, r, length_push k.coset row)

len_pushed : (k : Card) (s : Section) (row : ℕ) → k.len ≡ (pushed k s row).len
len_pushed k Group row = refl
len_pushed k Transform row = refl
len_pushed k Coset row = refl

concur_pushed : (k : Card) (s : Section) (row : ℕ) → Lawful k → Passed k s row → Concur (pushed k s row).group
concur_pushed k Group row l p =
    let w = within_left k.len k.group (k.transform ++ k.coset) l.within in
    concur_from_concordant k.len (k.group ++ row ∷ []) (within_push k.len k.group row w p.inside) p.concurring
concur_pushed k Transform row l p = l.concurring
concur_pushed k Coset row l p = l.concurring

pub lawful_pushed : (k : Card) (s : Section) (row : ℕ) → NoneAfter k s → Lawful k → Passed k s row → Lawful (pushed k s row)
lawful_pushed k s row e l p =
    let same = rows_pushed k s row e in
    let out : Span (rows_of k) row → ⊥ = λ sp. both_ways (dependent (rows_of k) row) p.new (dependent_from_span (rows_of k) row sp) in
    record {
      sized = rw (← len_pushed k s row) l.sized;
      few = few_pushed k s row l.few p.room;
      within = rw (same, ← len_pushed k s row) (within_push k.len (rows_of k) row l.within p.inside);
      independent = rw same (independent_push (rows_of k) row l.independent out);
      concurring = concur_pushed k s row l p;
    }

-- ---- the table

card_of-table_of : (k : Card) → card_of (table_of k) ≡ k
card_of-table_of k i = record {
  len = k.len;
  group = take-append_seam k.group (k.transform ++ k.coset) i;
  transform = (ap (take (length k.transform)) (drop-append_seam k.group (k.transform ++ k.coset)) ∙ take-append_seam k.transform k.coset) i;
  coset = (drop-append-add k.group (k.transform ++ k.coset) (length k.transform) ∙ drop-append_seam k.transform k.coset) i;
}

is_table : (k : Card) → Lawful k → IsTable (table_of k)
is_table k l = record {
  counts = omega (arith, length-append k.group (k.transform ++ k.coset), length-append k.transform k.coset);
  lawful = rw (card_of-table_of k) l;
}

-- the table with one row more
abbrev pub put : Section → Inside → ℕ → Inside
put Group t row = record { len = t.len; rows = t.rows ++ row ∷ []; group = t.group + 1; transform = t.transform }
put Transform t row = record { len = t.len; rows = t.rows ++ row ∷ []; group = t.group; transform = t.transform + 1 }
put Coset t row = record { len = t.len; rows = t.rows ++ row ∷ []; group = t.group; transform = t.transform }

put-table_of : (k : Card) (s : Section) (row : ℕ) → NoneAfter k s → put s (table_of k) row ≡ table_of (pushed k s row)
put-table_of k Group row e i = record {
  len = k.len;
  rows = sym (rows_pushed k Group row e) i;
  group = sym (length_push k.group row) i;
  transform = length k.transform;
}
put-table_of k Transform row e i = record {
  len = k.len;
  rows = sym (rows_pushed k Transform row e) i;
  group = length k.group;
  transform = sym (length_push k.transform row) i;
}
put-table_of k Coset row e i = record {
  len = k.len;
  rows = sym (rows_pushed k Coset row e) i;
  group = length k.group;
  transform = length k.transform;
}

pub is_table_put : (t : Inside) (k : Card) (s q : Section) (row : ℕ) (u : Unit {0}) → IsTable t → card_of t ≡ k → s ≡ q → NoneAfter k s
    → Ok u ≡ verdict k s row → IsTable (put q t row)
is_table_put t k s q row u h ek es none ok =
    let k' = card_of t in
    let none' : NoneAfter k' q = subst₂ NoneAfter (sym ek) es none in
    let ok' : Ok u ≡ verdict k' q row = subst₂ (λ (x : Card) (y : Section). Ok u ≡ verdict x y row) (sym ek) es ok in
    subst IsTable (sym (put-table_of k' q row none') ∙ ap (λ (x : Inside). put q x row) (table_of-card_of t h))
    (is_table (pushed k' q row) (lawful_pushed k' q row none' h.lawful (passed u k' q row ok')))

room_left : (k : Card) (s : Section) → Lawful k → length (section_of k s) < max_section_rows → length k.group + (length k.transform + length k.coset) < card_rows
room_left k Group l r = omega (arith, r, l.few Transform, l.few Coset)
room_left k Transform l r = omega (arith, l.few Group, r, l.few Coset)
room_left k Coset l r = omega (arith, l.few Group, l.few Transform, r)

pub few_rows : (t : Inside) (k : Card) (s : Section) (row : ℕ) (u : Unit {0}) → IsTable t → card_of t ≡ k → Ok u ≡ verdict k s row → length t.rows < card_rows
few_rows t k s row u h ek ok =
    let k' = card_of t in
    let ok' : Ok u ≡ verdict k' s row = subst (λ (x : Card). Ok u ≡ verdict x s row) (sym ek) ok in
    let r = room_left k' s h.lawful (passed u k' s row ok').room in
    omega (arith, r, ap length (rows_joined t.group t.transform t.rows), length-append k'.group (k'.transform ++ k'.coset), length-append k'.transform k'.coset)
