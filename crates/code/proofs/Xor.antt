-- Exclusive-or of numbers, digit by digit.
use Rattle.std.proofs.Common.{◌≡◌, ℕ, zero, suc, ◌*◌, ◌/◌, ◌%◌, ◌^◌, ◌<◌, cond, not, eqb, ◌⊎◌, sym, refl, ap, ◌∙◌, inl, inr, one-mul, zero-mul, arith}
use lib.Bits.{bit_xor, xor_assoc, xor_comm, xor_self, xor_zero_r, xor_shr, xor_mod}
use Rattle.code.specs.Words.{digit, odd}

-- a digit is 0 or 1
pub digit_two : (d : ℕ) → d < 2 → (d ≡ 0) ⊎ (d ≡ 1)
digit_two zero h = inl refl
digit_two (suc zero) h = inr refl
digit_two (suc (suc d)) h = absurd (omega arith)

-- the middle two of four change places
pub swap : (p q u v : ℕ) → bit_xor (bit_xor p q) (bit_xor u v) ≡ bit_xor (bit_xor p u) (bit_xor q v)
swap p q u v =
    xor_assoc p q (bit_xor u v)
    ∙ ap (bit_xor p) (sym (xor_assoc q u v) ∙ ap (λ (x : ℕ). bit_xor x v) (xor_comm q u) ∙ xor_assoc u q v)
    ∙ sym (xor_assoc p u (bit_xor q v))

-- what is added twice is gone
pub cancel : (x y : ℕ) → bit_xor (bit_xor x y) y ≡ x
cancel x y = xor_assoc x y y ∙ ap (bit_xor x) (xor_self y) ∙ xor_zero_r x

-- a row is chosen by a sum of two digits where just one of them chooses it
pub chosen_xor : (x y r : ℕ) → x < 2 → y < 2 → bit_xor x y * r ≡ bit_xor (x * r) (y * r)
chosen_xor zero y r hx hy = simp zero-mul
chosen_xor (suc zero) zero r hx hy = simp (zero-mul, one-mul, xor_zero_r)
chosen_xor (suc zero) (suc zero) r hx hy = simp (zero-mul, one-mul, xor_self)
chosen_xor (suc zero) (suc (suc y)) r hx hy = absurd (omega arith)
chosen_xor (suc (suc x)) y r hx hy = absurd (omega arith)

pub digit-xor : (i x y : ℕ) → digit i (bit_xor x y) ≡ bit_xor (digit i x) (digit i y)
digit-xor i x y = ap (λ (z : ℕ). z % 2) (xor_shr x y i) ∙ xor_mod (x / 2 ^ i) (y / 2 ^ i) 1

odd_of_digits : (p q : ℕ) → p < 2 → q < 2 → eqb (bit_xor p q) 1 ≡ cond (eqb p 1) (not (eqb q 1)) (eqb q 1)
odd_of_digits zero q hp hq = refl
odd_of_digits (suc zero) zero hp hq = refl
odd_of_digits (suc zero) (suc zero) hp hq = refl
odd_of_digits (suc zero) (suc (suc q)) hp hq = absurd (omega arith)
odd_of_digits (suc (suc p)) q hp hq = absurd (omega arith)

pub odd-xor : (a b : ℕ) → odd (bit_xor a b) ≡ cond (odd a) (not (odd b)) (odd b)
odd-xor a b = ap (λ (x : ℕ). eqb x 1) (xor_mod a b 1) ∙ odd_of_digits (a % 2) (b % 2) (omega arith) (omega arith)

pub half_xor : (a b : ℕ) → bit_xor a b / 2 ≡ bit_xor (a / 2) (b / 2)
half_xor a b = xor_shr a b 1
