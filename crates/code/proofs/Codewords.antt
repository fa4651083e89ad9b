-- Code words: linear in the message, and row by row.
use Rattle.std.proofs.Common.{◌≡◌, ℕ, suc, ◌+◌, ◌*◌, ◌/◌, ◌%◌, ◌^◌, ◌<◌, List, [], ◌∷◌, ◌++◌, length, get_or, drop, sym, refl, ap, ◌∙◌, ap₂, one-mul, zero-mul, mul_left_comm, arith}
use native.Mathlib.Nat.{pow-succ'}
use lib.Bits.{bit_xor, xor_assoc, xor_zero_r, xor_zero_l, xor_shr, xor_mod}
use Rattle.std.proofs.lemmas.List.{drop_more, drop_all}
use Rattle.code.specs.Words.{codeword}
use Rattle.code.proofs.Xor.{swap, chosen_xor}

-- the word of a sum of messages is the sum of their words
pub codeword-xor : (rows : List ℕ) (a b : ℕ) → codeword rows (bit_xor a b) ≡ bit_xor (codeword rows a) (codeword rows b)
codeword-xor [] a b = refl
codeword-xor (r ∷ rs) a b =
    ap₂ (λ (x y : ℕ). bit_xor (x * r) (codeword rs y)) (xor_mod a b 1) (xor_shr a b 1)
    ∙ ap₂ bit_xor (chosen_xor (a % 2) (b % 2) r (omega arith) (omega arith)) (codeword-xor rs (a / 2) (b / 2))
    ∙ swap (a % 2 * r) (b % 2 * r) (codeword rs (a / 2)) (codeword rs (b / 2))

pub codeword_zero : (rows : List ℕ) → codeword rows 0 ≡ 0
codeword_zero [] = refl
codeword_zero (r ∷ rs) = simp zero-mul (codeword_zero rs)

doubled : (c k : ℕ) → c * 2 ^ suc k ≡ 2 * (c * 2 ^ k)
doubled c k = rw pow-succ' (mul_left_comm c 2 (2 ^ k))

-- a message of two lists of rows, one after the other: m of the first, c of the second
pub codeword-append : (rs os : List ℕ) (m c : ℕ) → m < 2 ^ length rs → codeword (rs ++ os) (m + c * 2 ^ length rs) ≡ bit_xor (codeword rs m) (codeword os c)
codeword-append [] os m c h = let e : m + c * 2 ^ 0 ≡ c = omega arith in ap (codeword os) e ∙ sym (xor_zero_l (codeword os c))
codeword-append (r ∷ rs) os m c h =
    let two = doubled c (length rs) in
    let one : 2 ^ suc (length rs) ≡ 2 * 2 ^ length rs = pow-succ' 2 (length rs) in
    let low : (m + c * 2 ^ suc (length rs)) % 2 ≡ m % 2 = omega (arith, two) in
    let high : (m + c * 2 ^ suc (length rs)) / 2 ≡ m / 2 + c * 2 ^ length rs = omega (arith, two) in
    ap₂ (λ (x y : ℕ). bit_xor (x * r) (codeword (rs ++ os) y)) low high
    ∙ ap (bit_xor (m % 2 * r)) (codeword-append rs os (m / 2) c (omega (arith, two)))
    ∙ sym (xor_assoc (m % 2 * r) (codeword rs (m / 2)) (codeword os c))

-- one row more of the sum that a message chooses
module _ (rows : List ℕ) (i sum rest m : ℕ) (within : i < length rows) (so_far : bit_xor sum (codeword (drop i rows) rest) ≡ codeword rows m) where
  opened : bit_xor sum (bit_xor (rest % 2 * get_or rows i 0) (codeword (drop (i + 1) rows) (rest / 2))) ≡ codeword rows m
  opened = sym (ap (λ (l : List ℕ). bit_xor sum (codeword l rest)) (drop_more rows i 0 within)) ∙ so_far

  pub sum_skips : (rest % 2 ≡ 1 → ⊥) → bit_xor sum (codeword (drop (i + 1) rows) (rest / 2)) ≡ codeword rows m
  sum_skips even =
      let z : rest % 2 ≡ 0 = omega arith in
      let none : rest % 2 * get_or rows i 0 ≡ 0 = ap (λ (d : ℕ). d * get_or rows i 0) z ∙ zero-mul (get_or rows i 0) in
      sym (ap (λ (x : ℕ). bit_xor sum (bit_xor x (codeword (drop (i + 1) rows) (rest / 2)))) none ∙ ap (bit_xor sum) (xor_zero_l _)) ∙ opened

  pub sum_takes : rest % 2 ≡ 1 → bit_xor (bit_xor sum (get_or rows i 0)) (codeword (drop (i + 1) rows) (rest / 2)) ≡ codeword rows m
  sum_takes one =
      let row : rest % 2 * get_or rows i 0 ≡ get_or rows i 0 = ap (λ (d : ℕ). d * get_or rows i 0) one ∙ one-mul (get_or rows i 0) in
      xor_assoc sum (get_or rows i 0) (codeword (drop (i + 1) rows) (rest / 2))
      ∙ sym (ap (λ (x : ℕ). bit_xor sum (bit_xor x (codeword (drop (i + 1) rows) (rest / 2)))) row)
      ∙ opened

pub sum_ends : (rows : List ℕ) (i sum rest m : ℕ) → length rows ≡ i → bit_xor sum (codeword (drop i rows) rest) ≡ codeword rows m → sum ≡ codeword rows m
sum_ends rows i sum rest m e so_far =
    sym (xor_zero_r sum) ∙ sym (ap (λ (l : List ℕ). bit_xor sum (codeword l rest)) (drop_all i rows (omega arith))) ∙ so_far
