-- What a card keeps lets its rows in again, one after the other.
use Rattle.std.proofs.Common.{◌≡◌, ℕ, suc, ◌+◌, ◌^◌, ◌<◌, ◌≤◌, false, List, [], ◌∷◌, ◌++◌, length, Ok, sym, refl, ap, ◌∙◌, subst, inl, inr, append_assoc, le_trans, arith, length-append}
use native.Mathlib.Nat.{pow-le-pow_right}
use Rattle.std.proofs.lemmas.List.{append-nil, length_push}
use Rattle.std.proofs.lemmas.Bool.{lt-leb, cases_Bool}
use Rattle.code.specs.declared.refusal.Section.{Section}
use Rattle.code.specs.declared.refusal.Section.TheVariants.{Group, Transform, Coset}
use Rattle.code.specs.Spans.{Independent}
use Rattle.code.proofs.Spans.{independent_out, independent_prefix}
use Rattle.card.specs.Rows.{Within, Concur, dependent, tally}
use Rattle.card.specs.Cards.{Card, Lawful, verdict, pushed, blank}
use Rattle.card.proofs.Decided.{span_from_dependent, concordant_from}
use Rattle.card.proofs.Tables.{verdict_ok, within_left, within_right}
use Rattle.card.proofs.Places.{tally_le}

-- the rows are let in one after the other
unfoldable pub accepts : Section → Card → List ℕ → Type 0
accepts s k [] = Unit {0}
accepts s k (r ∷ rs) = (Ok tt ≡ verdict k s r) × (r < 2 ^ 64) × accepts s (pushed k s r) rs

-- the card with those rows more in a section
unfoldable pub with_rows : Card → Section → List ℕ → Card
with_rows k s [] = k
with_rows k s (r ∷ rs) = with_rows (pushed k s r) s rs

pub with_group : (n : ℕ) (g rs : List ℕ) → with_rows (record { len = n; group = g; transform = []; coset = [] }) Group rs ≡ record { len = n; group = g ++ rs; transform = []; coset = [] }
unfolding with_rows
with_group n g [] = ap (λ (l : List ℕ). record { len = n; group = l; transform = []; coset = [] }) (sym (append-nil g))
with_group n g (r ∷ rs) = with_group n (g ++ r ∷ []) rs ∙ ap (λ (l : List ℕ). record { len = n; group = l; transform = []; coset = [] }) (append_assoc g (r ∷ []) rs)

pub with_transform : (n : ℕ) (g t rs : List ℕ) → with_rows (record { len = n; group = g; transform = t; coset = [] }) Transform rs ≡ record { len = n; group = g; transform = t ++ rs; coset = [] }
unfolding with_rows
with_transform n g t [] = ap (λ (l : List ℕ). record { len = n; group = g; transform = l; coset = [] }) (sym (append-nil t))
with_transform n g t (r ∷ rs) = with_transform n g (t ++ r ∷ []) rs ∙ ap (λ (l : List ℕ). record { len = n; group = g; transform = l; coset = [] }) (append_assoc t (r ∷ []) rs)

pub with_coset : (n : ℕ) (g t c rs : List ℕ) → with_rows (record { len = n; group = g; transform = t; coset = c }) Coset rs ≡ record { len = n; group = g; transform = t; coset = c ++ rs }
unfolding with_rows
with_coset n g t c [] = ap (λ (l : List ℕ). record { len = n; group = g; transform = t; coset = l }) (sym (append-nil c))
with_coset n g t c (r ∷ rs) = with_coset n g t (c ++ r ∷ []) rs ∙ ap (λ (l : List ℕ). record { len = n; group = g; transform = t; coset = l }) (append_assoc c (r ∷ []) rs)

tally-append : (i : ℕ) (xs ys : List ℕ) → tally i (xs ++ ys) ≡ tally i xs + tally i ys
tally-append i [] ys = omega arith
tally-append i (x ∷ xs) ys = omega (arith, tally-append i xs ys)

concur_prefix : (xs ys : List ℕ) → Concur (xs ++ ys) → Concur xs
concur_prefix xs ys h i t =
    omega (arith, h i (omega (arith, tally-append i xs ys)), tally-append i xs ys, length-append xs ys, tally_le i xs, tally_le i ys)

new_row : (xs : List ℕ) (r : ℕ) (ys : List ℕ) → Independent (xs ++ r ∷ ys) → dependent xs r ≡ false
new_row xs r ys ind =
    elim (cases_Bool (dependent xs r)) [ inl t ↦ absurd (independent_out xs r ys ind (span_from_dependent xs r t)) | inr f ↦ f ]

module _ (n : ℕ) (hi : n ≤ 64) where
  inside : (r : ℕ) → r < 2 ^ n → r < 2 ^ 64
  inside r h = le_trans h (pow-le-pow_right (omega arith) hi)

  accept_group : (g rs : List ℕ) → Within n rs → length g + length rs ≤ 8 → Independent ((g ++ []) ++ rs) → Concur (g ++ rs)
      → accepts Group (record { len = n; group = g; transform = []; coset = [] }) rs
  unfolding accepts
  accept_group g [] w few ind con = tt
  accept_group g (r ∷ rs) w few ind con =
      let k : Card = record { len = n; group = g; transform = []; coset = [] } in
      let lt : r < 2 ^ n = w 0 (omega arith) in
      let one : (g ++ r ∷ []) ++ rs ≡ g ++ r ∷ rs = append_assoc g (r ∷ []) rs in (
        verdict_ok k Group r (length g) refl (lt-leb (2 ^ n) r lt) (omega arith) (new_row (g ++ []) r rs ind)
            (concordant_from n (g ++ r ∷ []) (concur_prefix (g ++ r ∷ []) rs (subst Concur (sym one) con))),
        inside r lt,
        accept_group (g ++ r ∷ []) rs (λ j h. w (suc j) (omega arith)) (omega (arith, length_push g r))
            (subst Independent (ap (λ (l : List ℕ). l ++ r ∷ rs) (append-nil g) ∙ sym one ∙ ap (λ (l : List ℕ). l ++ rs) (sym (append-nil (g ++ r ∷ [])))) ind)
            (subst Concur (sym one) con),
      )

  accept_transform : (g t rs : List ℕ) → Within n rs → length t + length rs ≤ 8 → Independent ((g ++ (t ++ [])) ++ rs)
      → accepts Transform (record { len = n; group = g; transform = t; coset = [] }) rs
  unfolding accepts
  accept_transform g t [] w few ind = tt
  accept_transform g t (r ∷ rs) w few ind =
      let k : Card = record { len = n; group = g; transform = t; coset = [] } in
      let lt : r < 2 ^ n = w 0 (omega arith) in
      let same : (g ++ (t ++ [])) ++ r ∷ rs ≡ (g ++ ((t ++ r ∷ []) ++ [])) ++ rs = simp (append-nil, append_assoc) in (
        verdict_ok k Transform r (length t) refl (lt-leb (2 ^ n) r lt) (omega arith) (new_row (g ++ (t ++ [])) r rs ind) refl,
        inside r lt,
        accept_transform g (t ++ r ∷ []) rs (λ j h. w (suc j) (omega arith)) (omega (arith, length_push t r)) (subst Independent same ind),
      )

  accept_coset : (g t c rs : List ℕ) → Within n rs → length c + length rs ≤ 8 → Independent ((g ++ (t ++ c)) ++ rs)
      → accepts Coset (record { len = n; group = g; transform = t; coset = c }) rs
  unfolding accepts
  accept_coset g t c [] w few ind = tt
  accept_coset g t c (r ∷ rs) w few ind =
      let k : Card = record { len = n; group = g; transform = t; coset = c } in
      let lt : r < 2 ^ n = w 0 (omega arith) in
      let same : (g ++ (t ++ c)) ++ r ∷ rs ≡ (g ++ (t ++ (c ++ r ∷ []))) ++ rs = simp append_assoc in (
        verdict_ok k Coset r (length c) refl (lt-leb (2 ^ n) r lt) (omega arith) (new_row (g ++ (t ++ c)) r rs ind) refl,
        inside r lt,
        accept_coset g t (c ++ r ∷ []) rs (λ j h. w (suc j) (omega arith)) (omega (arith, length_push c r)) (subst Independent same ind),
      )

-- the rows of a card, section by section, into a card just started
pub record LetIn (k : Card) : Type 0 where
  pub group : accepts Group (blank k.len) k.group
  pub transform : accepts Transform (record { len = k.len; group = k.group; transform = []; coset = [] }) k.transform
  pub coset : accepts Coset (record { len = k.len; group = k.group; transform = k.transform; coset = [] }) k.coset

pub let_in : (k : Card) → Lawful k → LetIn k
let_in k l =
    let n = k.len in
    let g = k.group in
    let t = k.transform in
    let c = k.coset in
    let hi = l.sized.1 in
    let w = l.within in
    let ind = l.independent in
    let w₂ = within_right n g (t ++ c) w in
    let ind₂ : Independent ((g ++ t) ++ c) = subst Independent (sym (append_assoc g t c)) ind in
    record {
      group = accept_group n hi [] g (within_left n g (t ++ c) w) (omega (arith, l.few Group)) (independent_prefix g (t ++ c) ind) l.concurring;
      transform = accept_transform n hi g [] t (within_left n t c w₂) (omega (arith, l.few Transform)) (subst (λ (l : List ℕ). Independent (l ++ t)) (sym (append-nil g)) (independent_prefix (g ++ t) c ind₂));
      coset = accept_coset n hi g t [] c (within_right n t c w₂) (omega (arith, l.few Coset)) (subst (λ (l : List ℕ). Independent ((g ++ l) ++ c)) (sym (append-nil t)) ind₂);
    }
