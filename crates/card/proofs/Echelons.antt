-- Echelons: rows of which each later one lacks the first digit of each earlier one.
use Rattle.std.proofs.Common.{◌≡◌, ℕ, zero, suc, ◌+◌, ◌*◌, ◌/◌, ◌%◌, ◌^◌, ◌<◌, ◌≤◌, min, ◌⊎◌, List, [], ◌∷◌, ◌++◌, length, get_or, take, set, sym, ap, ◌∙◌, subst, ap₂, subst₂, inl, inr, mod-lt, one-mul, div-add-mod', zero-mul, div-one, one-add, arith, shr-shr}
use lib.Bits.{bit_xor, xor_assoc, xor_comm, xor_self, xor_zero_r, xor_shr, xor_step, differ}
use lib.Pow.{shr_mono}
use lib.Arith.{bin_ind}
use Rattle.std.proofs.lemmas.Bool.{cases_lt}
use Rattle.std.proofs.lemmas.List.{take_more, take_more_set}
use Rattle.code.specs.Words.{codeword, digit}
use Rattle.code.specs.Spans.{Span}
use Rattle.code.proofs.Xor.{cancel, digit_two, digit-xor}
use Rattle.code.proofs.Spans.{two_pos, span_zero, span_xor, span_keep, span_add, push_within}
use Rattle.card.specs.Echelon.{Lacks, AllLack, LacksAll, Echelon, SameSpan, Reduced}

xor-one : (x : ℕ) → ((x % 2 ≡ 0) × (bit_xor x 1 ≡ x + 1)) ⊎ ((x % 2 ≡ 1) × (bit_xor x 1 + 1 ≡ x))
xor-one x = elim (digit_two (x % 2) (mod-lt x two_pos)) [
  | inl z ↦ inl (z, one_step x ∙ ap (λ (d : ℕ). x / 2 * 2 + differ d 1) z ∙ omega (arith, div-add-mod' x 2))
  | inr o ↦ inr (o, ap (λ (y : ℕ). y + 1) (one_step x ∙ ap (λ (d : ℕ). x / 2 * 2 + differ d 1) o) ∙ omega (arith, div-add-mod' x 2))
]
  where
    one_step : (x : ℕ) → bit_xor x 1 ≡ x / 2 * 2 + differ (x % 2) 1
    one_step x = xor_step x 1 ∙ ap (λ (y : ℕ). y * 2 + differ (x % 2) 1) (xor_zero_r (x / 2))

-- the place of the first digit
pub lead : (b : ℕ) → 0 < b → (p : ℕ) × (b / 2 ^ p ≡ 1)
lead = bin_ind (λ (n : ℕ). 0 < n → (p : ℕ) × (n / 2 ^ p ≡ 1)) (λ h. absurd (omega arith)) step
  where
    step : (n : ℕ) → (0 < n / 2 → (p : ℕ) × (n / 2 / 2 ^ p ≡ 1)) → 0 < n → (p : ℕ) × (n / 2 ^ p ≡ 1)
    step n ih h =
        elim (cases_lt 0 (n / 2)) [
          | inl q ↦ let (p, e) = ih q in (suc p, ap (λ (k : ℕ). n / 2 ^ k) (sym (one-add p)) ∙ sym (shr-shr n 1 p) ∙ e)
          | inr z ↦ (0, div-one n ∙ omega arith)
        ]

digit_of_lacks : (p b x : ℕ) → b / 2 ^ p ≡ 1 → Lacks b x → digit p x ≡ 0
digit_of_lacks p b x one l =
    let up : x / 2 ^ p ≤ bit_xor (x / 2 ^ p) 1 = subst (λ (y : ℕ). x / 2 ^ p ≤ y) (xor_shr x b p ∙ ap (bit_xor (x / 2 ^ p)) one) (shr_mono p l) in
    elim (xor-one (x / 2 ^ p)) [ inl (z, _) ↦ z | inr (_, less) ↦ absurd (omega (arith, less)) ]

lacks_of_digit : (p b x : ℕ) → b / 2 ^ p ≡ 1 → digit p x ≡ 0 → Lacks b x
lacks_of_digit p b x one z =
    elim (cases_lt (bit_xor x b) x) [
      | inr l ↦ l
      | inl l ↦
          let down : bit_xor (x / 2 ^ p) 1 ≤ x / 2 ^ p = subst (λ (y : ℕ). y ≤ x / 2 ^ p) (xor_shr x b p ∙ ap (bit_xor (x / 2 ^ p)) one) (shr_mono {a = bit_xor x b} {b = x} p (omega arith)) in
          elim (xor-one (x / 2 ^ p)) [ inl (_, more) ↦ absurd (omega (arith, more)) | inr (o, _) ↦ absurd (omega (arith, o)) ]
    ]

pub lacks_xor : (b x y : ℕ) → Lacks b x → Lacks b y → Lacks b (bit_xor x y)
lacks_xor zero x y hx hy = subst (λ (z : ℕ). bit_xor x y ≤ z) (sym (xor_zero_r (bit_xor x y))) (omega arith)
lacks_xor (suc b) x y hx hy =
    let (p, one) = lead (suc b) (omega arith) in
    lacks_of_digit p (suc b) (bit_xor x y) one
    (digit-xor p x y ∙ ap₂ bit_xor (digit_of_lacks p (suc b) x one hx) (digit_of_lacks p (suc b) y one hy))

pub lacks_self : (b : ℕ) → Lacks b b → b ≡ 0
lacks_self b l = omega (arith, subst (λ (z : ℕ). b ≤ z) (xor_self b) l)

codeword_lacks : (b : ℕ) (bs : List ℕ) (m : ℕ) → AllLack b bs → Lacks b (codeword bs m)
codeword_lacks b [] m h = omega arith
codeword_lacks b (c ∷ cs) m (hc, hs) =
    lacks_xor b (m % 2 * c) (codeword cs (m / 2))
    (elim (digit_two (m % 2) (mod-lt m two_pos)) [
      | inl z ↦ subst (Lacks b) (sym (ap (λ (d : ℕ). d * c) z ∙ zero-mul c)) (omega arith)
      | inr o ↦ subst (Lacks b) (sym (ap (λ (d : ℕ). d * c) o ∙ one-mul c)) hc
    ])
    (codeword_lacks b cs (m / 2) hs)

-- what is in the span of an echelon and lacks all its rows is 0
pub none_left : (bs : List ℕ) (m x : ℕ) → Echelon bs → LacksAll bs x → codeword bs m ≡ x → x ≡ 0
none_left [] m x h l e = sym e
none_left (b ∷ bs) m x (hb, h) (lb, l) e =
    elim (digit_two (m % 2) (mod-lt m two_pos)) [
      | inl z ↦ none_left bs (m / 2) x h l (sym (ap (λ (d : ℕ). bit_xor (d * b) (codeword bs (m / 2))) z ∙ ap (λ (y : ℕ). bit_xor y (codeword bs (m / 2))) (zero-mul b)) ∙ e)
      | inr o ↦
          let c = codeword bs (m / 2) in
          let is : bit_xor b c ≡ x = sym (ap (λ (d : ℕ). bit_xor (d * b) c) o ∙ ap (λ (y : ℕ). bit_xor y c) (one-mul b)) ∙ e in
          let b0 : b ≡ 0 = lacks_self b (subst (Lacks b) (ap (λ (y : ℕ). bit_xor y c) (sym is) ∙ cancel b c) (lacks_xor b x c lb (codeword_lacks b bs (m / 2) hb))) in
          none_left bs (m / 2) x h l (sym (ap (λ (y : ℕ). bit_xor y c) b0) ∙ is)
    ]

-- ---- an echelon that grows

pub lacks_all_xor : (bs : List ℕ) (x y : ℕ) → LacksAll bs x → LacksAll bs y → LacksAll bs (bit_xor x y)
lacks_all_xor [] x y hx hy = tt
lacks_all_xor (b ∷ bs) x y (hx, kx) (hy, ky) = (lacks_xor b x y hx hy, lacks_all_xor bs x y kx ky)

pub lacks_all_push : (bs : List ℕ) (b x : ℕ) → LacksAll bs x → Lacks b x → LacksAll (bs ++ b ∷ []) x
lacks_all_push [] b x h l = (l, tt)
lacks_all_push (c ∷ bs) b x (hc, h) l = (hc, lacks_all_push bs b x h l)

all_lack_push : (c : ℕ) (bs : List ℕ) (b : ℕ) → AllLack c bs → Lacks c b → AllLack c (bs ++ b ∷ [])
all_lack_push c [] b h l = (l, tt)
all_lack_push c (d ∷ bs) b (hd, h) l = (hd, all_lack_push c bs b h l)

pub echelon_push : (bs : List ℕ) (b : ℕ) → Echelon bs → LacksAll bs b → Echelon (bs ++ b ∷ [])
echelon_push [] b h l = (tt, tt)
echelon_push (c ∷ bs) b (hc, h) (lc, l) = (all_lack_push c bs b hc lc, echelon_push bs b h l)

all_lack_last : (c : ℕ) (bs : List ℕ) (b : ℕ) → AllLack c (bs ++ b ∷ []) → Lacks c b
all_lack_last c [] b (l, _) = l
all_lack_last c (d ∷ bs) b (_, h) = all_lack_last c bs b h

pub echelon_last : (bs : List ℕ) (b : ℕ) → Echelon (bs ++ b ∷ []) → LacksAll bs b
echelon_last [] b h = tt
echelon_last (c ∷ bs) b (hc, h) = (all_lack_last c bs b hc, echelon_last bs b h)

all_lack_take : (n c : ℕ) (bs : List ℕ) → AllLack c bs → AllLack c (take n bs)
all_lack_take zero c bs h = tt
all_lack_take (suc n) c [] h = tt
all_lack_take (suc n) c (b ∷ bs) (hb, h) = (hb, all_lack_take n c bs h)

pub echelon_take : (n : ℕ) (bs : List ℕ) → Echelon bs → Echelon (take n bs)
echelon_take zero bs h = tt
echelon_take (suc n) [] h = tt
echelon_take (suc n) (b ∷ bs) (hb, h) = (all_lack_take n b bs hb, echelon_take n bs h)

-- one row more to reduce by: the smaller of x and x with b added
pub reduced_none : (row : ℕ) → Reduced [] row row
reduced_none row = record { lacks = tt; spans = subst (Span []) (sym (xor_self row)) (span_zero []) }

reduced_keep : (xs : List ℕ) (i row x : ℕ) → i < length xs → Reduced (take i xs) row x → x ≤ bit_xor x (get_or xs i 0)
    → Reduced (take (i + 1) xs) row x
reduced_keep xs i row x lt r h =
    subst (λ (l : List ℕ). Reduced l row x) (sym (take_more xs i 0 lt))
    (record {
      lacks = lacks_all_push (take i xs) (get_or xs i 0) x r.lacks h;
      spans = span_keep (take i xs) (get_or xs i 0) (bit_xor row x) r.spans;
    })

reduced_add : (xs : List ℕ) (i row x : ℕ) → i < length xs → Echelon xs → Reduced (take i xs) row x → bit_xor x (get_or xs i 0) < x
    → Reduced (take (i + 1) xs) row (bit_xor x (get_or xs i 0))
reduced_add xs i row x lt e r h =
    let bs = take i xs in
    let b = get_or xs i 0 in
    let e' : Echelon (bs ++ b ∷ []) = subst Echelon (take_more xs i 0 lt) (echelon_take (i + 1) xs e) in
    subst (λ (l : List ℕ). Reduced l row (bit_xor x b)) (sym (take_more xs i 0 lt))
    (record {
      lacks = lacks_all_push bs b (bit_xor x b) (lacks_all_xor bs x b r.lacks (echelon_last bs b e')) (subst (λ (z : ℕ). bit_xor x b ≤ z) (sym (cancel x b)) (omega arith));
      spans = subst (Span (bs ++ b ∷ [])) (xor_assoc row x b) (span_add bs b (bit_xor row x) r.spans);
    })

pub reduced_more : (xs : List ℕ) (i row x y : ℕ) → i < length xs → Echelon xs → Reduced (take i xs) row x → y ≡ min x (bit_xor x (get_or xs i 0))
    → Reduced (take (i + 1) xs) row y
reduced_more xs i row x y lt e r is =
    let b = get_or xs i 0 in
    elim (cases_lt (bit_xor x b) x) [
      | inl less ↦ let same : bit_xor x b ≡ y = omega arith in subst (Reduced (take (i + 1) xs) row) same (reduced_add xs i row x lt e r less)
      | inr more ↦ let same : x ≡ y = omega arith in subst (Reduced (take (i + 1) xs) row) same (reduced_keep xs i row x lt r more)
    ]

-- one row more, reduced by those before it
pub same_span_push : (bs rows : List ℕ) (x r : ℕ) → SameSpan bs rows → Span bs (bit_xor r x) → SameSpan (bs ++ x ∷ []) (rows ++ r ∷ [])
same_span_push bs rows x r same s = record {
  there = push_within bs rows x r same.there (same.there (bit_xor x r) (subst (Span bs) (xor_comm r x) s));
  back = push_within rows bs r x same.back s;
}

pub same_span_none : SameSpan [] []
same_span_none = record { there = λ y s. s; back = λ y s. s }

-- a reduced row is 0 exactly where the row is a choice of the rows
pub zero_spans : (bs rows : List ℕ) (row x : ℕ) → SameSpan bs rows → Reduced bs row x → x ≡ 0 → Span rows row
zero_spans bs rows row x same r e =
    same.there row (subst (Span bs) (ap (bit_xor row) e ∙ xor_zero_r row) r.spans)

pub spans_zero : (bs rows : List ℕ) (row x : ℕ) → Echelon bs → SameSpan bs rows → Reduced bs row x → Span rows row → x ≡ 0
spans_zero bs rows row x h same r t =
    let (m, _, e) = span_xor bs row (bit_xor row x) (same.back row t) r.spans in
    none_left bs m x h r.lacks (e ∙ sym (xor_assoc row row x) ∙ ap (λ (y : ℕ). bit_xor y x) (xor_self row))

-- one turn of the elimination
pub eliminated_more : (basis rows : List ℕ) (i x : ℕ) → i < length basis → i < length rows
    → Echelon (take i basis) → SameSpan (take i basis) (take i rows) → Reduced (take i basis) (get_or rows i 0) x
    → Echelon (take (i + 1) (set basis i x)) × SameSpan (take (i + 1) (set basis i x)) (take (i + 1) rows)
eliminated_more basis rows i x lb lr e same r = (
  subst Echelon (sym (take_more_set basis i x lb)) (echelon_push (take i basis) x e r.lacks),
  subst₂ SameSpan (sym (take_more_set basis i x lb)) (sym (take_more rows i 0 lr)) (same_span_push (take i basis) (take i rows) x (get_or rows i 0) same r.spans),
)
