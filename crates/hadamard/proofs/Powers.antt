-- Powers of two, and what is said of a list.
use Rattle.std.proofs.Common.{◌≡◌, ℕ, zero, suc, ◌+◌, ◌-◌, ◌*◌, ◌/◌, ◌%◌, ◌^◌, ◌<◌, ◌≤◌, true, false, Ok, Err, sym, ap, ◌∙◌, ⊎_elim, subst, pow_pos, pow-suc, add-one, arith}
use lib.Count.{ones, ones_step, ones_cat, count_trailing_zeros, under}
use mir.Syntax.{w64}
use Rattle.std.proofs.lemmas.Nat.Bits.{bit_at-trailing_zeros, bit_at-pow_other}
use Rattle.std.proofs.lemmas.Bool.{eq-eqb, ne_eqb, or_from, or_left, or_right, cases_eq, cond-true, cond-false, le-leb, lt-leb}
use Rattle.code.specs.Limits.{sum_limit}
use Rattle.code.specs.declared.refusal.Refusal.TheVariants.{ListNotPower, ListTotalTooLarge}
use Rattle.hadamard.specs.Transform.{is_power, verdict, max_exponent}
use Rattle.hadamard.proofs.Signs.{ones_0, ones_1}

pub pow_up : (t : ℕ) → 2 ^ t * 2 ≡ 2 ^ (t + 1)
pow_up t = rw (add-one, pow-suc)

pub halved : (n t : ℕ) → n ≡ 2 ^ t → (t ≡ 0 → ⊥) → (n ≡ n / 2 + n / 2) × (n / 2 ≡ 2 ^ (t - 1))
halved n t e z =
    let s : t - 1 + 1 ≡ t = omega arith in
    let p : 2 ^ (t - 1) * 2 ≡ n = pow_up (t - 1) ∙ ap (λ k. 2 ^ k) s ∙ sym e in
    (omega arith, omega arith)

-- a number with one digit set is a power of two, and its trailing zeros are the exponent
none_set : (k n : ℕ) → n < 2 ^ k → ones n ≡ 0 → n ≡ 0
none_set zero n h e = omega arith
none_set (suc k) n h e =
    let p = pow-suc 2 k in
    let s = ones_step n in
    let r = none_set k (n / 2) (omega arith) (omega arith) in
    omega arith

one_set : (k n : ℕ) → n < 2 ^ k → ones n ≡ 1 → n ≡ 2 ^ count_trailing_zeros k n
unfolding count_trailing_zeros
one_set zero n h e = let z : n ≡ 0 = omega arith in absurd (let f = ap ones z in omega (arith, ones_0))
one_set (suc k) n h e =
    let p = pow-suc 2 k in
    let s = ones_step n in
    ⊎_elim
    (λ z.
    let r = one_set k (n / 2) (omega arith) (omega arith) in
    let q = pow-suc 2 (count_trailing_zeros k (n / 2)) in
    subst (λ (d : ℕ). n ≡ 2 ^ under d (count_trailing_zeros k (n / 2))) (sym z) (omega arith))
    (λ z.
    let one : n % 2 ≡ 1 = omega arith in
    let r = none_set k (n / 2) (omega arith) (omega arith) in
    subst (λ (d : ℕ). n ≡ 2 ^ under d (count_trailing_zeros k (n / 2))) (sym one) (omega arith))
    (cases_eq (n % 2) 0)

pub lone_power : (n : ℕ) → n < 2 ^ 64 → ones n ≡ 1 → n ≡ 2 ^ count_trailing_zeros 64 n
lone_power n h e = one_set 64 n h e

pub ones-pow : (n t : ℕ) → n ≡ 2 ^ t → ones n ≡ 1
ones-pow n t e =
    let a : n ≡ 1 * 2 ^ t + 0 = omega arith in
    let c = ones_cat t 1 0 (pow_pos t) in
    ap ones a ∙ c ∙ omega (arith, ones_0, ones_1)

pub trailing-pow : (n t : ℕ) → n < 2 ^ 64 → n ≡ 2 ^ t → count_trailing_zeros 64 n ≡ t
trailing-pow n t h e =
    let f = bit_at-trailing_zeros w64 n (let p = pow_pos t in omega arith) h in
    ⊎_elim
    (λ z. z)
    (λ z. let b = ap (λ (m : ℕ). m / 2 ^ count_trailing_zeros 64 n % 2) e in let o = bit_at-pow_other t (count_trailing_zeros 64 n) z in absurd (omega (arith, f.1)))
    (cases_eq (count_trailing_zeros 64 n) t)

pub no_power : (n t : ℕ) → ((k : ℕ) → k ≤ t → n ≡ 2 ^ k → ⊥) → is_power n t ≡ false
no_power n zero h = ne_eqb n 1 (h 0 (omega arith))
no_power n (suc t) h = or_from _ _ (no_power n t (λ k l. h k (omega arith))) (ne_eqb n (2 ^ suc t) (h (suc t) (omega arith)))

pub a_power : (n t k : ℕ) → k ≤ t → n ≡ 2 ^ k → is_power n t ≡ true
a_power n zero k l e = let z : k ≡ 0 = omega arith in eq-eqb n 1 (e ∙ ap (λ m. 2 ^ m) z)
a_power n (suc t) k l e = ⊎_elim
    (λ s. or_right (is_power n t) _ (eq-eqb n (2 ^ suc t) (e ∙ ap (λ m. 2 ^ m) s)))
    (λ s. or_left (is_power n t) _ (a_power n t k (omega arith) e))
    (cases_eq k (suc t))

pub verdict-length : (n s : ℕ) → ((k : ℕ) → k ≤ max_exponent → n ≡ 2 ^ k → ⊥) → Err ListNotPower ≡ verdict n s
verdict-length n s h = sym (cond-false (is_power n max_exponent) _ _ (no_power n max_exponent h))

pub verdict_total : (n s k : ℕ) → k ≤ max_exponent → n ≡ 2 ^ k → sum_limit < s → Err ListTotalTooLarge ≡ verdict n s
verdict_total n s k l e h = sym (cond-true (is_power n max_exponent) _ _ (a_power n max_exponent k l e) ∙ cond-false _ _ _ (lt-leb s (sum_limit) h))

pub verdict-taken : (n s k : ℕ) → k ≤ max_exponent → n ≡ 2 ^ k → s ≤ sum_limit → Ok tt ≡ verdict n s
verdict-taken n s k l e h = sym (cond-true (is_power n max_exponent) _ _ (a_power n max_exponent k l e) ∙ cond-true _ _ _ (le-leb s (sum_limit) h))
