-- One step on in what the definitions of a line go through.
use Rattle.std.proofs.Common.{◌≡◌, ℕ, ◌+◌, ◌*◌, ◌%◌, ◌^◌, ◌<◌, ◌≤◌, Bool, not, cond, eqb, List, [], ◌∷◌, ◌++◌, length, Some, None, Option, MatchOption, sym, refl, ap, ◌∙◌, inl, inr, rules, arith, pow_mono, length-append}
use native.Mathlib.Nat.{two-pow-succ}
use Rattle.std.proofs.lemmas.Bool.{cases_lt, le-ltb, lt-ltb}
use Rattle.std.proofs.lemmas.List.Sums.{prefix_len-le-length}
use Rattle.std.specs.List.{position, position_from, position_or_len}
use Rattle.card_text.specs.Lines.{first_odd_lem, is_binary_lem, row_of, word_length_lem}

-- ---- the first word

pub word_length-position : (line : List ℕ) → word_length_lem line ≡ position_or_len (λ b. eqb b 32) line
word_length-position [] = refl
word_length-position (b ∷ bs) = search (rules, word_length-position bs)

-- the place of the first space is the length of the first word, and with no space the word is the line
pub word_before : (line : List ℕ) (o : Option ℕ) → o ≡ position (λ b. eqb b 32) line
    → MatchOption o (word_length_lem line ≡ length line) (λ i. (i ≡ word_length_lem line) × (i < length line))
word_before line o h =
    let n = position_or_len (λ b. eqb b 32) line in
    let w = word_length-position line in
    elim (cases_lt n (length line)) [
      | inl l ↦ rw (h ∙ ap (λ (b : Bool). cond b (Some n) None) (lt-ltb n (length line) l)) (sym w, l)
      | inr l ↦ rw (h ∙ ap (λ (b : Bool). cond b (Some n) None) (le-ltb n (length line) l)) (omega (arith, w, prefix_len-le-length (λ b. not (eqb b 32)) line, l))
    ]

-- ---- binary digits

pub first_odd-position : (ds : List ℕ) (i : ℕ) → first_odd_lem i ds ≡ position_from (λ d. not (is_binary_lem d)) i ds
first_odd-position [] i = refl
first_odd-position (d ∷ ds) i = search (rules, first_odd-position ds (i + 1))

-- a row lies below the power of two of its places
pub row_below : (ds : List ℕ) → row_of ds < 2 ^ length ds
row_below [] = omega arith
row_below (d ∷ ds) = omega (arith, row_below ds, two-pow-succ (length ds))

-- a row of at most 64 digits fits, also where it is one digit more than `row`
pub row_more : (front done : List ℕ) (d row : ℕ) → length ((front ++ d ∷ []) ++ done) ≤ 64 → row ≡ row_of done → 2 * row + d % 2 < 2 ^ 64
row_more front done d row h e =
    let le : length (d ∷ done) ≤ 64 = omega (arith, h, length-append (front ++ d ∷ []) done, length-append front (d ∷ [])) in
    omega (arith, e, row_below (d ∷ done), pow_mono le)
