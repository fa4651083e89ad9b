-- A card's own list, request by request.
use Rattle.std.proofs.Common.{◌≡◌, ℕ, zero, suc, ◌+◌, ◌<◌, ◌≤◌, ◌≢◌, List, [], ◌∷◌, ◌++◌, length, get_or, take, set, Some, None, Option, Result, sym, refl, ap, ◌∙◌, subst, ap₂, subst₂, append_assoc, add-zero, arith, length-append, get_or-set_other, get_or-set_same, below_more}
use Rattle.std.proofs.lemmas.List.{append-nil, take_more, take_more_set, take-set-le, length-take-le, take_at, get_or-append-add}
use Rattle.code.specs.declared.refusal.Section.{Section}
use Rattle.code.specs.declared.refusal.Section.TheVariants.{Group}
use Rattle.code.specs.declared.refusal.Refusal.{Refusal}
use Rattle.card_list.specs.declared.requests.Request.{Request}
use Rattle.card_list.specs.declared.requests.Request.TheVariants.{AddRow, MoveOn}
use Rattle.card_list.specs.declared.requests.Answer.{Answer}
use Rattle.card_list.specs.declared.requests.Answer.TheVariants.{Taken, Refused, Closed}
use Rattle.card.specs.Cards.{Card, RowTold, Told, blank, rows_of, section_of}
use Rattle.card_list.specs.Requests.{View, Due, DueIn, DueAt, OwnList, afterwards, answered, card_after, card_from, moves, next_open, open_after, put_into, row_taken, taken, taken_since, view_after}

-- ---- one row

-- what a row was told, as an answer
pub due_told : (k : Card) (s : Section) (row : ℕ) (r : Result (Unit {0}) Refusal) → Told k s row r
    → RowTold Taken Refused k.len s (section_of k s) (rows_of k) row (answered r)
due_told k s row r t = record {
  beyond = λ h. ap answered (t.beyond h);
  full = λ h f. ap answered (t.full h f);
  dependent = λ h f sp. ap answered (t.dependent h f sp);
  broken = λ h f out bad. ap answered (t.broken h f out bad);
  taken = λ h f out good. ap answered (t.taken h f out good);
}

pub same_view : {n n' : ℕ} {o o' : Option Section} {h h' a a' : List ℕ} → n ≡ n' → o ≡ o' → h ≡ h' → a ≡ a'
    → ◌≡◌ {A = View} (record { len = n; open_section = o; here = h; all = a }) (record { len = n'; open_section = o'; here = h'; all = a' })
same_view p q r t i = record { len = p i; open_section = q i; here = r i; all = t i }

-- ---- one request more in the list

moves_push : (rs : List Request) → moves (rs ++ MoveOn ∷ []) ≡ suc (moves rs)
moves_push [] = refl
moves_push (MoveOn ∷ rs) = ap suc (moves_push rs)
moves_push (AddRow row ∷ rs) = moves_push rs

moves_same : (rs : List Request) (row : ℕ) → moves (rs ++ AddRow row ∷ []) ≡ moves rs
moves_same [] row = refl
moves_same (MoveOn ∷ rs) row = ap suc (moves_same rs row)
moves_same (AddRow r ∷ rs) row = moves_same rs row

opens : (m : ℕ) → open_after (suc m) ≡ next_open (open_after m)
opens zero = refl
opens (suc zero) = refl
opens (suc (suc zero)) = refl
opens (suc (suc (suc m))) = refl

taken_push : (rs : List Request) (bs : List Answer) (r : Request) (a : Answer) → length rs ≡ length bs
    → taken (rs ++ r ∷ []) (bs ++ a ∷ []) ≡ taken rs bs ++ row_taken r a
taken_push [] [] r a h = append-nil (row_taken r a)
taken_push [] (b ∷ bs) r a h = absurd (omega arith)
taken_push (q ∷ rs) [] r a h = absurd (omega arith)
taken_push (q ∷ rs) (b ∷ bs) r a h =
    ap (λ (l : List ℕ). row_taken q b ++ l) (taken_push rs bs r a (omega arith)) ∙ sym (append_assoc (row_taken q b) (taken rs bs) (row_taken r a))

since_moved : (here : List ℕ) (rs : List Request) (bs : List Answer) (a : Answer) → length rs ≡ length bs
    → taken_since here (rs ++ MoveOn ∷ []) (bs ++ a ∷ []) ≡ []
since_moved here [] [] a h = refl
since_moved here [] (b ∷ bs) a h = absurd (omega arith)
since_moved here (q ∷ rs) [] a h = absurd (omega arith)
since_moved here (MoveOn ∷ rs) (b ∷ bs) a h = since_moved [] rs bs a (omega arith)
since_moved here (AddRow row ∷ rs) (b ∷ bs) a h = since_moved (here ++ row_taken (AddRow row) b) rs bs a (omega arith)

since_added : (here : List ℕ) (rs : List Request) (bs : List Answer) (row : ℕ) (a : Answer) → length rs ≡ length bs
    → taken_since here (rs ++ AddRow row ∷ []) (bs ++ a ∷ []) ≡ taken_since here rs bs ++ row_taken (AddRow row) a
since_added here [] [] row a h = refl
since_added here [] (b ∷ bs) row a h = absurd (omega arith)
since_added here (q ∷ rs) [] row a h = absurd (omega arith)
since_added here (MoveOn ∷ rs) (b ∷ bs) row a h = since_added [] rs bs row a (omega arith)
since_added here (AddRow r ∷ rs) (b ∷ bs) row a h = since_added (here ++ row_taken (AddRow r) b) rs bs row a (omega arith)

pub view_push : (n : ℕ) (rs : List Request) (bs : List Answer) (r : Request) (a : Answer) → length rs ≡ length bs
    → view_after n (rs ++ r ∷ []) (bs ++ a ∷ []) ≡ afterwards (view_after n rs bs) r a
view_push n rs bs MoveOn a h =
    same_view refl (ap open_after (moves_push rs) ∙ opens (moves rs)) (since_moved [] rs bs a h) (taken_push rs bs MoveOn a h ∙ append-nil (taken rs bs))
view_push n rs bs (AddRow row) a h =
    same_view refl (ap open_after (moves_same rs row)) (since_added [] rs bs row a h) (taken_push rs bs (AddRow row) a h)

-- the view after one turn
pub view_more : (n : ℕ) (rs : List Request) (bs : List Answer) (i : ℕ) (a : Answer) (v w : View) → i < length rs → i < length bs
    → v ≡ view_after n (take i rs) (take i bs) → w ≡ afterwards v (get_or rs i MoveOn) a
    → w ≡ view_after n (take (i + 1) rs) (take (i + 1) (set bs i a))
view_more n rs bs i a v w hr hb ev ew =
    let same : length (take i rs) ≡ length (take i bs) = omega (arith, length-take-le i rs (omega arith), length-take-le i bs (omega arith)) in
    ew ∙ ap (λ (x : View). afterwards x (get_or rs i MoveOn) a) ev
    ∙ sym (ap₂ (view_after n) (take_more rs i MoveOn hr) (take_more_set bs i a hb) ∙ view_push n (take i rs) (take i bs) (get_or rs i MoveOn) a same)

-- the section that is open after the requests, where o was open before them
open_from : Option Section → List Request → Option Section
open_from o [] = o
open_from o (MoveOn ∷ rs) = open_from (next_open o) rs
open_from o (AddRow row ∷ rs) = open_from o rs

open_is : (m : ℕ) (rs : List Request) → open_from (open_after m) rs ≡ open_after (moves rs + m)
unfolding open_from
open_is m [] = let e : m ≡ moves [] + m = omega arith in ap open_after e
open_is m (MoveOn ∷ rs) =
    let e : moves rs + suc m ≡ moves (MoveOn ∷ rs) + m = omega arith in
    ap (λ (o : Option Section). open_from o rs) (sym (opens m)) ∙ open_is (suc m) rs ∙ ap open_after e
open_is m (AddRow row ∷ rs) = open_is m rs

put_none : (o : Option Section) (k : Card) → put_into o k [] ≡ k
put_none (Some s) k = refl
put_none None k = refl

card_push : (o : Option Section) (k : Card) (rs : List Request) (bs : List Answer) (r : Request) (a : Answer) → length rs ≡ length bs
    → card_from o k (rs ++ r ∷ []) (bs ++ a ∷ []) ≡ put_into (open_from o rs) (card_from o k rs bs) (row_taken r a)
unfolding open_from
card_push o k [] [] MoveOn a h = sym (put_none o k)
card_push o k [] [] (AddRow row) a h = refl
card_push o k [] (b ∷ bs) r a h = absurd (omega arith)
card_push o k (q ∷ rs) [] r a h = absurd (omega arith)
card_push o k (MoveOn ∷ rs) (b ∷ bs) r a h = card_push (next_open o) k rs bs r a (omega arith)
card_push o k (AddRow row ∷ rs) (b ∷ bs) r a h = card_push o (put_into o k (row_taken (AddRow row) b)) rs bs r a (omega arith)

-- answers beyond the requests say nothing of the card
pub card_front : (o : Option Section) (k : Card) (rs : List Request) (bs : List Answer) → card_from o k rs (take (length rs) bs) ≡ card_from o k rs bs
card_front o k [] bs = refl
card_front o k (r ∷ rs) [] = refl
card_front o k (MoveOn ∷ rs) (b ∷ bs) = card_front (next_open o) k rs bs
card_front o k (AddRow row ∷ rs) (b ∷ bs) = card_front o (put_into o k (row_taken (AddRow row) b)) rs bs

-- the card after one turn
pub card_more : (n : ℕ) (rs : List Request) (bs : List Answer) (i : ℕ) (a : Answer) (v : View) (k l : Card) → i < length rs → i < length bs
    → v ≡ view_after n (take i rs) (take i bs) → k ≡ card_after n (take i rs) (take i bs)
    → l ≡ put_into v.open_section k (row_taken (get_or rs i MoveOn) a)
    → l ≡ card_after n (take (i + 1) rs) (take (i + 1) (set bs i a))
card_more n rs bs i a v k l hr hb ev ek el =
    let same : length (take i rs) ≡ length (take i bs) = omega (arith, length-take-le i rs (omega arith), length-take-le i bs (omega arith)) in
    let open-then : v.open_section ≡ open_from (Some Group) (take i rs) =
    ap (λ (x : View). x.open_section) ev ∙ ap open_after (sym (add-zero (moves (take i rs)))) ∙ sym (open_is 0 (take i rs)) in
    el ∙ ap₂ (λ (o : Option Section) (x : Card). put_into o x (row_taken (get_or rs i MoveOn) a)) open-then ek
    ∙ sym (ap₂ (card_after n) (take_more rs i MoveOn hr) (take_more_set bs i a hb) ∙ card_push (Some Group) (blank n) (take i rs) (take i bs) (get_or rs i MoveOn) a same)

-- request i, by the answers before it and its own
DueBy : ℕ → List Request → ℕ → List Answer → Answer → Type 0
DueBy n rs i front a =
    Due n (open_after (moves (take i rs))) (taken_since [] (take i rs) front) (taken (take i rs) front) (get_or rs i MoveOn) a

pub own_more : (n : ℕ) (rs : List Request) (bs : List Answer) (i : ℕ) (a : Answer) (v : View) → i < length bs
    → v ≡ view_after n (take i rs) (take i bs) → DueIn v (get_or rs i MoveOn) a → ((j : ℕ) → j < i → DueAt n rs bs j)
    → (j : ℕ) → j < i + 1 → DueAt n rs (set bs i a) j
unfolding DueBy
own_more n rs bs i a v hb ev due before =
    below_more (λ (j : ℕ). DueAt n rs (set bs i a) j) i
    (λ j h.
    let ne : j ≢ i = omega arith in
    subst₂ (DueBy n rs j) (sym (take-set-le j bs i a (omega arith))) (sym (get_or-set_other bs i j a Closed ne)) (before j h))
    (subst₂ (DueBy n rs i) (sym (take-set-le i bs i a (omega arith))) (sym (get_or-set_same bs i a Closed hb)) (subst (λ (x : View). DueIn x (get_or rs i MoveOn) a) ev due))

-- ---- a list from some view on

unfoldable pub OwnFrom : View → List Request → List Answer → Type 0
OwnFrom v [] bs = Unit {0}
OwnFrom v (r ∷ rs) [] = ⊥
OwnFrom v (r ∷ rs) (a ∷ bs) = DueIn v r a × OwnFrom (afterwards v r a) rs bs

due_here : (n : ℕ) (ps rs : List Request) (qs bs : List Answer) (r : Request) (a : Answer) → length ps ≡ length qs
    → DueAt n (ps ++ r ∷ rs) (qs ++ a ∷ bs) (length ps) → DueIn (view_after n ps qs) r a
due_here n ps rs qs bs r a e h =
    let rest : List Request → List Answer → Request → Answer → Type 0 = λ p q x y. DueIn (view_after n p q) x y in
    let tp : take (length ps) (ps ++ r ∷ rs) ≡ ps = take_at ps (r ∷ rs) (length ps) refl in
    let tq : take (length ps) (qs ++ a ∷ bs) ≡ qs = take_at qs (a ∷ bs) (length ps) (sym e) in
    let gr : get_or (ps ++ r ∷ rs) (length ps) MoveOn ≡ r = ap (λ (m : ℕ). get_or (ps ++ r ∷ rs) m MoveOn) (sym (add-zero (length ps))) ∙ get_or-append-add ps (r ∷ rs) 0 MoveOn in
    let ga : get_or (qs ++ a ∷ bs) (length ps) Closed ≡ a = ap (λ (m : ℕ). get_or (qs ++ a ∷ bs) m Closed) (e ∙ sym (add-zero (length qs))) ∙ get_or-append-add qs (a ∷ bs) 0 Closed in
    subst₂ (λ (x : Request) (y : Answer). rest ps qs x y) gr ga
    (subst₂ (λ (p : List Request) (q : List Answer). rest p q (get_or (ps ++ r ∷ rs) (length ps) MoveOn) (get_or (qs ++ a ∷ bs) (length ps) Closed)) tp tq h)

own_from_after : (n : ℕ) (rs : List Request) (bs : List Answer) (ps : List Request) (qs : List Answer) → length ps ≡ length qs → length rs ≤ length bs
    → OwnList n (ps ++ rs) (qs ++ bs) → OwnFrom (view_after n ps qs) rs bs
unfolding OwnFrom
own_from_after n [] bs ps qs e l own = tt
own_from_after n (r ∷ rs) [] ps qs e l own = absurd (omega arith)
own_from_after n (r ∷ rs) (a ∷ bs) ps qs e l own = (
  due_here n ps rs qs bs r a e (own (length ps) (omega (arith, length-append ps (r ∷ rs)))),
  subst (λ (v : View). OwnFrom v rs bs) (view_push n ps qs r a e)
      (own_from_after n rs bs (ps ++ r ∷ []) (qs ++ a ∷ []) (omega (arith, length-append ps (r ∷ []), length-append qs (a ∷ []))) (omega arith)
      (subst₂ (OwnList n) (sym (append_assoc ps (r ∷ []) rs)) (sym (append_assoc qs (a ∷ []) bs)) own)),
)

pub own_from : (n : ℕ) (rs : List Request) (bs : List Answer) → length rs ≤ length bs → OwnList n rs bs → OwnFrom (view_after n [] []) rs bs
own_from n rs bs l own = own_from_after n rs bs [] [] refl l own
