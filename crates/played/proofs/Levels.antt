-- A word of equal weights agrees most with the word that has no digit 1.
use Rattle.std.proofs.Common.{◌≡◌, ℕ, zero, suc, ◌+◌, ◌*◌, ◌/◌, ◌%◌, ◌^◌, ◌<◌, Bool, true, false, eqb, List, [], ◌∷◌, length, get_or, replicate, ℤ, pos, ◌+ℤ◌, ◌≤ℤ◌, ◌<ℤ◌, refl, arith, pow_pos}
use native.Mathlib.Nat.{pow-succ'}
use borrow.Author.Tests.{eqb-false}
use lib.Bits.{xor_lt}
use Rattle.std.proofs.lemmas.Int.{ints}
use Rattle.code.specs.Words.{odd, negated_if, agreement, codeword}

one_more : (n F : ℕ) → suc n * F ≡ F + n * F
one_more n F = omega arith

most_step : (n F : ℕ) (b : Bool) (rest : ℤ) → rest ≤ℤ pos (n * F) → (negated_if b (pos F) +ℤ rest) ≤ℤ pos (suc n * F)
most_step n F true rest r = let e = one_more n F in omega (arith, ints)
most_step n F false rest r = let e = one_more n F in omega (arith, ints)

pub agree_most : (n F x : ℕ) → agreement (replicate n (pos F)) x ≤ℤ pos (n * F)
agree_most zero F x = omega (arith, ints)
agree_most (suc n) F x = most_step n F (odd x) _ (agree_most n F (x / 2))

pub agree_zero : (n F : ℕ) → agreement (replicate n (pos F)) 0 ≡ pos (n * F)
agree_zero zero F = omega (arith, ints)
agree_zero (suc n) F = let r = agree_zero n F in let e = one_more n F in omega (arith, ints)

even_half : (n x : ℕ) → x < 2 ^ suc n → (x ≡ 0 → ⊥) → eqb (x % 2) 1 ≡ false → (x / 2 < 2 ^ n) × (x / 2 ≡ 0 → ⊥)
even_half n x h nz e = let p = pow-succ' 2 n in let z : x % 2 ≡ 1 → ⊥ = eqb-false (x % 2) 1 e in (omega arith, λ k. nz (omega (arith, z)))

less-step : (n F x : ℕ) (b : Bool) (rest : ℤ) → 0 < F → odd x ≡ b → rest ≤ℤ pos (n * F) → (odd x ≡ false → rest <ℤ pos (n * F)) → (negated_if b (pos F) +ℤ rest) <ℤ pos (suc n * F)
less-step n F x true rest f e most less = let q = one_more n F in omega (arith, ints)
less-step n F x false rest f e most less = let r = less e in let q = one_more n F in omega (arith, ints)

pub agree_less : (n F x : ℕ) → 0 < F → x < 2 ^ n → (x ≡ 0 → ⊥) → agreement (replicate n (pos F)) x <ℤ pos (n * F)
agree_less zero F x f h nz = absurd (nz (omega arith))
agree_less (suc n) F x f h nz =
    less-step n F x (odd x) _ f refl (agree_most n F (x / 2))
    (λ e. let w = even_half n x h nz e in agree_less n F (x / 2) f w.0 w.1)

-- a code word has no digit beyond those of its rows
pub codeword_within : (n : ℕ) (rows : List ℕ) (m : ℕ) → ((j : ℕ) → j < length rows → get_or rows j 0 < 2 ^ n) → codeword rows m < 2 ^ n
codeword_within n [] m w = pow_pos n
codeword_within n (r ∷ rs) m w =
    xor_lt n (m % 2 * r) (codeword rs (m / 2)) (chosen (m % 2) (omega arith) (w 0 (omega arith))) (codeword_within n rs (m / 2) (λ j h. w (suc j) (omega arith)))
  where
    chosen : (d : ℕ) → d < 2 → r < 2 ^ n → d * r < 2 ^ n
    chosen zero h k = omega arith
    chosen (suc zero) h k = omega arith
    chosen (suc (suc d)) h k = absurd (omega arith)
