-- Spans and independence of rows, row by row.
use Rattle.std.proofs.Common.{◌≡◌, ℕ, suc, ◌+◌, ◌*◌, ◌/◌, ◌%◌, ◌^◌, ◌<◌, ◌≤◌, ◌⊎◌, List, [], ◌∷◌, ◌++◌, length, sym, refl, ap, ◌∙◌, subst, ap₂, inl, inr, le_trans, mod-lt, mod-eq_of_lt, add_comm, one-mul, zero-add, zero-mul, div-one, add-one, one-add, arith, length-append, pow_pos, pow-add, shr-shr, shr_lt}
use native.Mathlib.Nat.{div-eq_of_lt, pow-le-pow_right}
use lib.Bits.{bit_xor, xor_assoc, xor_self, xor_zero_r, xor_zero_l, xor_lt}
use lib.Pow.{split, high, low, field, mod-mod-pow}
use Rattle.code.specs.Words.{codeword, digit}
use Rattle.code.specs.Spans.{Span, Independent}
use Rattle.code.proofs.Xor.{cancel, digit_two}
use Rattle.code.proofs.Codewords.{codeword-xor, codeword_zero}

pub two_pos : 0 < 2
two_pos = omega arith

half_mod : (m k : ℕ) → m % 2 ^ suc k / 2 ≡ m / 2 % 2 ^ k
half_mod m k = ap (λ (e : ℕ). m % 2 ^ e / 2) (sym (add-one k)) ∙ field m k 1

odd-mod : (m k : ℕ) → m % 2 ^ suc k % 2 ≡ m % 2
odd-mod m k = ap (λ (e : ℕ). m % 2 ^ e % 2) (sym (add-one k)) ∙ mod-mod-pow m k 1

-- the bits above the rows do not count
pub codeword_low : (rows : List ℕ) (m : ℕ) → codeword rows (m % 2 ^ length rows) ≡ codeword rows m
codeword_low [] m = refl
codeword_low (r ∷ rs) m =
    ap₂ (λ (x y : ℕ). bit_xor (x * r) (codeword rs y)) (odd-mod m (length rs)) (half_mod m (length rs))
    ∙ ap (bit_xor (m % 2 * r)) (codeword_low rs (m / 2))

-- the word of two lists of rows, one after the other
pub codeword_split : (xs ys : List ℕ) (m : ℕ) → codeword (xs ++ ys) m ≡ bit_xor (codeword xs m) (codeword ys (m / 2 ^ length xs))
codeword_split [] ys m = ap (codeword ys) (sym (div-one m))
codeword_split (x ∷ xs) ys m =
    ap (bit_xor (m % 2 * x)) (codeword_split xs ys (m / 2) ∙ ap (λ (q : ℕ). bit_xor (codeword xs (m / 2)) (codeword ys q)) (shr-shr m 1 (length xs) ∙ ap (λ (e : ℕ). m / 2 ^ e) (one-add (length xs))))
    ∙ sym (xor_assoc (m % 2 * x) (codeword xs (m / 2)) (codeword ys (m / 2 ^ suc (length xs))))

-- one row more
pub codeword_push : (rows : List ℕ) (r m : ℕ) → codeword (rows ++ r ∷ []) m ≡ bit_xor (codeword rows m) (digit (length rows) m * r)
codeword_push rows r m = codeword_split rows (r ∷ []) m ∙ ap (bit_xor (codeword rows m)) (xor_zero_r (digit (length rows) m * r))

-- the last row of a message's word, chosen or not
pushed_without : (rows : List ℕ) (r m : ℕ) → digit (length rows) m ≡ 0 → codeword (rows ++ r ∷ []) m ≡ codeword rows m
pushed_without rows r m z =
    codeword_push rows r m ∙ ap (λ (x : ℕ). bit_xor (codeword rows m) (x * r)) z ∙ ap (bit_xor (codeword rows m)) (zero-mul r) ∙ xor_zero_r (codeword rows m)

pushed_with : (rows : List ℕ) (r m : ℕ) → digit (length rows) m ≡ 1 → codeword (rows ++ r ∷ []) m ≡ bit_xor (codeword rows m) r
pushed_with rows r m o =
    codeword_push rows r m ∙ ap (λ (x : ℕ). bit_xor (codeword rows m) (x * r)) o ∙ ap (bit_xor (codeword rows m)) (one-mul r)

-- ---- spans

-- every number is a message, by its low bits
pub span_any : (rows : List ℕ) (m x : ℕ) → codeword rows m ≡ x → Span rows x
span_any rows m x e = (m % 2 ^ length rows, mod-lt m (pow_pos (length rows)), codeword_low rows m ∙ e)

pub span_zero : (rows : List ℕ) → Span rows 0
span_zero rows = span_any rows 0 0 (codeword_zero rows)

pub span_xor : (rows : List ℕ) (x y : ℕ) → Span rows x → Span rows y → Span rows (bit_xor x y)
span_xor rows x y (a, _, p) (b, _, q) = span_any rows (bit_xor a b) (bit_xor x y) (codeword-xor rows a b ∙ ap₂ bit_xor p q)

-- a choice of the rows, without one more or with it
pub span_keep : (rows : List ℕ) (r y : ℕ) → Span rows y → Span (rows ++ r ∷ []) y
span_keep rows r y (m, h, e) =
    span_any (rows ++ r ∷ []) m y (pushed_without rows r m (ap (λ (x : ℕ). x % 2) (div-eq_of_lt h)) ∙ e)

pub span_add : (rows : List ℕ) (r y : ℕ) → Span rows y → Span (rows ++ r ∷ []) (bit_xor y r)
span_add rows r y (m, h, e) =
    let k = length rows in
    let m' = 1 * 2 ^ k + m in
    span_any (rows ++ r ∷ []) m' (bit_xor y r)
    (pushed_with rows r m' (ap (λ (x : ℕ). x % 2) (high 1 k h))
    ∙ ap (λ (x : ℕ). bit_xor x r) (sym (codeword_low rows m') ∙ ap (codeword rows) (low 1 k h) ∙ e))

pub span_case : (rows : List ℕ) (r y : ℕ) → Span (rows ++ r ∷ []) y → Span rows y ⊎ Span rows (bit_xor y r)
span_case rows r y (m, _, e) =
    elim (digit_two (digit (length rows) m) (mod-lt (m / 2 ^ length rows) two_pos)) [
      | inl z ↦ inl (span_any rows m y (sym (pushed_without rows r m z) ∙ e))
      | inr o ↦ inr (span_any rows m (bit_xor y r)
          (sym (cancel (codeword rows m) r) ∙ ap (λ (x : ℕ). bit_xor x r) (sym (pushed_with rows r m o) ∙ e)))
    ]

through : (y x r : ℕ) → bit_xor (bit_xor y x) (bit_xor x r) ≡ bit_xor y r
through y x r = sym (xor_assoc (bit_xor y x) x r) ∙ ap (λ (z : ℕ). bit_xor z r) (cancel y x)

-- a span within another, and each one row more that differ by a choice of the other's
pub push_within : (A B : List ℕ) (x r : ℕ) → ((y : ℕ) → Span A y → Span B y) → Span B (bit_xor x r)
    → (y : ℕ) → Span (A ++ x ∷ []) y → Span (B ++ r ∷ []) y
push_within A B x r f d y s =
    elim (span_case A x y s) [
      | inl u ↦ span_keep B r y (f y u)
      | inr u ↦ subst (Span (B ++ r ∷ [])) (cancel y r)
          (span_add B r (bit_xor y r)
          (subst (Span B) (through y x r) (span_xor B (bit_xor y x) (bit_xor x r) (f (bit_xor y x) u) d)))
    ]

-- ---- independence

-- independent rows and one that is no choice of them are independent
pub independent_push : (rows : List ℕ) (r : ℕ) → Independent rows → (Span rows r → ⊥) → Independent (rows ++ r ∷ [])
independent_push rows r ind out m h e =
    let k = length rows in
    let two : m / 2 ^ k < 2 = shr_lt 1 k (subst (λ (x : ℕ). m < 2 ^ x) (length-append rows (r ∷ []) ∙ add_comm k 1) h) in
    elim (digit_two (digit k m) (mod-lt (m / 2 ^ k) two_pos)) [
      | inl z ↦
          let q : m / 2 ^ k ≡ 0 = omega (arith, mod-eq_of_lt two) in
          let l : m % 2 ^ k ≡ m = sym (ap (λ (x : ℕ). x * 2 ^ k + m % 2 ^ k) q ∙ ap (λ (x : ℕ). x + m % 2 ^ k) (zero-mul (2 ^ k)) ∙ zero-add (m % 2 ^ k)) ∙ split m k in
          ind m (subst (λ (x : ℕ). x < 2 ^ k) l (mod-lt m (pow_pos k))) (sym (pushed_without rows r m z) ∙ e)
      | inr o ↦
          absurd (out (span_any rows m r
          (sym (cancel (codeword rows m) r) ∙ ap (λ (x : ℕ). bit_xor x r) (sym (pushed_with rows r m o) ∙ e))))
    ]

-- the first of independent rows are independent
pub independent_prefix : (xs ys : List ℕ) → Independent (xs ++ ys) → Independent xs
independent_prefix xs ys ind m h e =
    let le : length xs ≤ length (xs ++ ys) = omega (arith, length-append xs ys) in
    ind m (le_trans h (pow-le-pow_right (omega arith) le))
    (codeword_split xs ys m ∙ ap₂ (λ (x q : ℕ). bit_xor x (codeword ys q)) e (div-eq_of_lt h) ∙ codeword_zero ys)

-- none of independent rows is a choice of those before it
pub independent_out : (xs : List ℕ) (r : ℕ) (ys : List ℕ) → Independent (xs ++ r ∷ ys) → Span xs r → ⊥
independent_out xs r ys ind (m, h, e) =
    let k = length xs in
    let m' = 1 * 2 ^ k + m in
    let small : m' < 2 ^ (1 + k) = subst (λ (x : ℕ). m' < x) (sym (pow-add 2 1 k)) (omega arith) in
    let le : 1 + k ≤ length (xs ++ r ∷ ys) = omega (arith, length-append xs (r ∷ ys)) in
    let below : m' < 2 ^ length (xs ++ r ∷ ys) = le_trans small (pow-le-pow_right (omega arith) le) in
    let zero-sum : codeword (xs ++ r ∷ ys) m' ≡ 0 =
    codeword_split xs (r ∷ ys) m'
    ∙ ap₂ (λ (x q : ℕ). bit_xor x (codeword (r ∷ ys) q)) (sym (codeword_low xs m') ∙ ap (codeword xs) (low 1 k h) ∙ e) (high 1 k h)
    ∙ ap₂ (λ (x y : ℕ). bit_xor r (bit_xor x y)) (one-mul r) (codeword_zero ys)
    ∙ ap (bit_xor r) (xor_zero_r r) ∙ xor_self r in
    omega (arith, ind m' below zero-sum, pow_pos k)

-- of independent rows, different messages have different words
pub independent_distinct : (rows : List ℕ) → Independent rows → (a b : ℕ) → a < 2 ^ length rows → b < 2 ^ length rows
    → codeword rows a ≡ codeword rows b → a ≡ b
independent_distinct rows ind a b ha hb e =
    let z : bit_xor a b ≡ 0 = ind (bit_xor a b) (xor_lt (length rows) a b ha hb)
    (codeword-xor rows a b ∙ ap (λ (x : ℕ). bit_xor x (codeword rows b)) e ∙ xor_self (codeword rows b)) in
    sym (cancel a b) ∙ ap (λ (x : ℕ). bit_xor x b) z ∙ xor_zero_l b
