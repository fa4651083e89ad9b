-- A 32-bit float times a small power of two, cut to a whole number.
use Rattle.std.proofs.Common.{◌≡◌, ℕ, zero, suc, ◌+◌, ◌-◌, ◌*◌, ◌/◌, ◌%◌, ◌^◌, ◌<◌, ◌≤◌, min, Bool, true, false, cond, ◌&&◌, ◌||◌, T, eqb, ltb, leb, ℤ, pos, negsuc, neg_ℤ, nat_abs, sym, refl, ap, ◌∙◌, subst, le_trans, le_of_eq, lt_of_le_of_lt, mul-le-mul_right, mul_assoc, mul_comm, mul-le-mul_left, mul-pos, one-mul, lt_of_not-le, zero-mul, mul-one, mul_right_comm, not-le_of_lt, le_of_mul-le-mul_right, mul-div_cancel, arith, lit<, le→leb, ltb→lt, leb→le, pow_pos, pow_mono, pow-add}
use native.Mathlib.Nat.{div-le_of_le-mul}
use lib.Pow.{pow-lt}
use lib.Ieee.{Float, nan, inf, fin, binary32, up, down, unlike, round, mul, le, fits, to_signed, of_bits}
use lib.Ieee.Fits.{and_l, and_r, down_pos}
use lib.Ieee.Exact.{HasValue, round_exact}
use lib.Ieee.Nearest.{div_same}
use Rattle.std.proofs.lemmas.Bool.Decides.{nat_tests}
use Rattle.std.specs.Float as Floats
use Rattle.sample.specs.Levels.{with_sign, unit_count, Exact, in_range, cut, CutRule}

pow_back : (j k : ℕ) → 2 ^ j ≤ 2 ^ k → j ≤ k
pow_back j k h = native.Mathlib.Nat.le_of_suc-le-suc (lt_of_not-le (λ (g : suc k ≤ j). not-le_of_lt (pow-lt g) h))

-- m * 2 ^ e is m * 2 ^ shift units.
pub record Units (m : ℕ) (e : ℤ) : Type 0 where
  pub shift : ℕ
  pub is : m * up e * 2 ^ 149 ≡ m * 2 ^ shift * down e
  pub few : m < 2 ^ 24

pub units_at : (s : Bool) (m : ℕ) (e : ℤ) → T (fits binary32 (fin s m e)) → Units m e
unfolding fits
units_at s zero e t = record { shift = 0; is = simp zero-mul; few = lit< tt }
units_at s (suc m) e t = go e (and_r (a && b) (c e) (and_l (a && b && c e) (d e) t))
  where
    a : Bool
    a = eqb (suc m % 2) 1

    b : Bool
    b = ltb (suc m) (2 ^ 24)

    c : ℤ → Bool
    c x = leb (down x) (2 ^ 149)

    d : ℤ → Bool
    d x = ltb (suc m * up x) (2 ^ 128 * down x)

    small : suc m < 2 ^ 24
    small = ltb→lt (suc m) (2 ^ 24) (and_r a b (and_l (a && b) (c e) (and_l (a && b && c e) (d e) t)))

    go : (x : ℤ) → T (c x) → Units (suc m) x
    go (pos k) h = record { shift = k + 149; is = simp (mul_assoc, mul-one, pow-add); few = small }
    go (negsuc k) h =
        let k-le : suc k ≤ 149 = pow_back (suc k) 149 (leb→le (2 ^ suc k) (2 ^ 149) h) in
        let sum : 149 - suc k + suc k ≡ 149 = omega arith in
        record {
          shift = 149 - suc k;
          is = ap (λ (x : ℕ). x * 2 ^ 149) (mul-one (suc m)) ∙ ap (λ (x : ℕ). suc m * 2 ^ x) (sym sum) ∙ ap (λ (x : ℕ). suc m * x) (pow-add 2 (149 - suc k) (suc k)) ∙ sym (mul_assoc (suc m) (2 ^ (149 - suc k)) (2 ^ suc k));
          few = small;
        }

-- The count of units is exact.
pub count_is : (m : ℕ) (e : ℤ) (u : Units m e) → unit_count m e ≡ m * 2 ^ u.shift
count_is m e u = ap (λ (x : ℕ). x / down e) u.is ∙ mul-div_cancel (m * 2 ^ u.shift) (down_pos e)

pub count_exact : (m : ℕ) (e : ℤ) → Units m e → unit_count m e * down e ≡ m * up e * 2 ^ 149
count_exact m e u = ap (λ (x : ℕ). x * down e) (count_is m e u) ∙ sym u.is

-- Times 2 ^ t nothing is rounded.
under : (t n : ℕ) → t ≤ 100 → n ≤ 2 ^ 149 → n * 2 ^ t < 2 ^ 277
under t n T h =
    lt_of_le_of_lt (le_trans (mul-le-mul_right (2 ^ t) h) (le_trans (le_of_eq (sym (pow-add 2 149 t))) (pow_mono {i = 149 + t} {j = 249} (omega arith)))) (lit< tt)

pub product : (s : Bool) (m : ℕ) (e : ℤ) (t : ℕ) → Units m e → t ≤ 100 → unit_count m e ≤ 2 ^ 149
    → HasValue (mul binary32 (fin s m e) (fin false 1 (pos t))) s (m * up e * (1 * 2 ^ t)) (down e * 1)
unfolding mul
product s m e t u T h =
    subst (λ (b : Bool). HasValue (round binary32 b (m * up e * (1 * 2 ^ t)) (down e * 1)) s (m * up e * (1 * 2 ^ t)) (down e * 1)) (sym (same s))
    (round_exact binary32 s (m * up e * (1 * 2 ^ t)) (down e * 1) m (u.shift + t) (mul-pos (down_pos e) (lit< tt)) u.few
    (subst (λ (x : ℕ). x < 2 ^ 277) (ap (λ (x : ℕ). x * 2 ^ t) (count_is m e u) ∙ mul_assoc m (2 ^ u.shift) (2 ^ t) ∙ ap (λ (x : ℕ). m * x) (sym (pow-add 2 u.shift t))) (under t (unit_count m e) T h))
    grown)
  where
    same : (b : Bool) → unlike b false ≡ b
    same true = refl
    same false = refl

    grown : m * up e * (1 * 2 ^ t) * 2 ^ 149 ≡ m * 2 ^ (u.shift + t) * (down e * 1)
    grown =
        ap (λ (x : ℕ). m * up e * x * 2 ^ 149) (one-mul (2 ^ t))
        ∙ mul_right_comm (m * up e) (2 ^ t) (2 ^ 149)
        ∙ ap (λ (x : ℕ). x * 2 ^ t) u.is
        ∙ mul_right_comm (m * 2 ^ u.shift) (down e) (2 ^ t)
        ∙ ap (λ (x : ℕ). x * down e) (mul_assoc m (2 ^ u.shift) (2 ^ t) ∙ ap (λ (x : ℕ). m * x) (sym (pow-add 2 u.shift t)))
        ∙ ap (λ (x : ℕ). m * 2 ^ (u.shift + t) * x) (sym (mul-one (down e)))

-- A float by its value, cut to a whole number that an i32 holds.
signed_at : (x : Float) (s : Bool) (a c n : ℕ) → 0 < c → HasValue x s a c → a / c ≡ n → n < 2 ^ 31 → to_signed 31 x ≡ with_sign s n
unfolding to_signed
signed_at nan s a c n C v e h = absurd v
signed_at (inf t) s a c n C v e h = absurd v
signed_at (fin t m e) s a c n C v d h =
    let q : m * up e / down e ≡ n = div_same (m * up e) (down e) a c (down_pos e) C v.1 ∙ d in
    let lo : min (m * up e / down e) (2 ^ 31) ≡ n = omega arith in
    let hi : min (m * up e / down e) (2 ^ 31 - 1) ≡ n = omega arith in
    ap (λ (b : Bool). cond b (neg_ℤ (pos (min (m * up e / down e) (2 ^ 31)))) (pos (min (m * up e / down e) (2 ^ 31 - 1)))) v.0
    ∙ ap (λ (k : ℕ). cond s (neg_ℤ (pos k)) (pos (min (m * up e / down e) (2 ^ 31 - 1)))) lo
    ∙ ap (λ (k : ℕ). cond s (neg_ℤ (pos n)) (pos k)) hi

pub scaled_cut : (v : Float) (t : ℕ) → t ≤ 30 → T (fits binary32 v) → T (in_range v) → to_signed 31 (mul binary32 v (fin false 1 (pos t))) ≡ cut (2 ^ t) v
scaled_cut nan t low f r = absurd r
scaled_cut (inf s) t low f r = absurd r
scaled_cut (fin s m e) t low f r =
    let u = units_at s m e f in
    let n = unit_count m e in
    let h : n ≤ 2 ^ 149 = leb→le n (2 ^ 149) r in
    signed_at (mul binary32 (fin s m e) (fin false 1 (pos t))) s (m * up e * (1 * 2 ^ t)) (down e * 1) (2 ^ t * n / 2 ^ 149) (mul-pos (down_pos e) (lit< tt))
    (product s m e t u (omega arith) h)
    (div_same (m * up e * (1 * 2 ^ t)) (down e * 1) (2 ^ t * n) (2 ^ 149) (mul-pos (down_pos e) (lit< tt)) (pow_pos 149) (even u))
    (lt_of_le_of_lt (div-le_of_le-mul (2 ^ 149) (subst (λ (x : ℕ). 2 ^ t * n ≤ x) (mul_comm (2 ^ t) (2 ^ 149)) (mul-le-mul_left (2 ^ t) h))) (pow-lt {i = t} {j = 31} (omega arith)))
  where
    even : Units m e → m * up e * (1 * 2 ^ t) * 2 ^ 149 ≡ 2 ^ t * unit_count m e * (down e * 1)
    even u =
        ap (λ (x : ℕ). m * up e * x * 2 ^ 149) (one-mul (2 ^ t))
        ∙ mul_right_comm (m * up e) (2 ^ t) (2 ^ 149)
        ∙ ap (λ (x : ℕ). x * 2 ^ t) (sym (count_exact m e u))
        ∙ mul_comm (unit_count m e * down e) (2 ^ t)
        ∙ sym (mul_assoc (2 ^ t) (unit_count m e) (down e))
        ∙ ap (λ (x : ℕ). 2 ^ t * unit_count m e * x) (sym (mul-one (down e)))

-- the test of the range
either_way : (a b : Bool) → (T a → T b) → (T b → T a) → a ≡ b
either_way true true f g = refl
either_way true false f g = absurd (f tt)
either_way false true f g = absurd (g tt)
either_way false false f g = refl

at_most : (a b : ℕ) → (ltb a b || (eqb a b && true)) ≡ leb a b
at_most a b = grind (arith, nat_tests)

pub range_test : (v : Float) → T (fits binary32 v) → le (Floats.float_with_sign false v) (fin false 1 (pos 0)) ≡ in_range v
unfolding le Floats.float_with_sign
range_test nan f = refl
range_test (inf s) f = refl
range_test (fin s m e) f =
    let x = count_exact m e (units_at s m e f) in
    at_most (m * up e * 1) (1 * down e)
    ∙ either_way (leb (m * up e * 1) (1 * down e)) (leb (unit_count m e) (2 ^ 149))
    (λ t. le→leb (unit_count m e) (2 ^ 149) (le_of_mul-le-mul_right {k = down e} (subst (λ (y : ℕ). y ≤ 2 ^ 149 * down e) (sym x) (subst (λ (y : ℕ). m * up e * 2 ^ 149 ≤ y) (mul_comm (down e) (2 ^ 149)) (mul-le-mul_right (2 ^ 149) (omega (arith, leb→le (m * up e * 1) (1 * down e) t))))) (down_pos e)))
    (λ t.
    let h : m * up e ≤ down e = le_of_mul-le-mul_right {k = 2 ^ 149} (subst (λ (y : ℕ). y ≤ down e * 2 ^ 149) x (subst (λ (y : ℕ). unit_count m e * down e ≤ y) (mul_comm (2 ^ 149) (down e)) (mul-le-mul_right (down e) (leb→le (unit_count m e) (2 ^ 149) t)))) (pow_pos 149) in
    le→leb (m * up e * 1) (1 * down e) (omega arith))

pub one_is : of_bits binary32 1065353216 ≡ fin false 1 (pos 0)
unfolding of_bits
one_is = refl

pub scale_is : of_bits binary32 1149239296 ≡ fin false 1 (pos 10)
unfolding of_bits
scale_is = refl

pub passes : (b : Bool) → b ≡ true → T b
passes b e = subst T (sym e) tt

pub tested : (v size : Float) → fits binary32 v ≡ true → size ≡ Floats.float_with_sign false v → le size (of_bits binary32 1065353216) ≡ in_range v
tested v size fit abs = ap (λ (x : Float). le x (of_bits binary32 1065353216)) abs ∙ ap (le (Floats.float_with_sign false v)) one_is ∙ range_test v (passes (fits binary32 v) fit)

-- the rule of a label
abs_sign : (s : Bool) (n : ℕ) → nat_abs (with_sign s n) ≡ n
abs_sign true zero = refl
abs_sign true (suc n) = refl
abs_sign false n = refl

pub cut_rule : (scale : ℕ) (v : Float) → T (in_range v) → CutRule scale v (cut scale v)
cut_rule scale nan r = absurd r
cut_rule scale (inf s) r = absurd r
cut_rule scale (fin s m e) r =
    let n = unit_count m e in
    let a : nat_abs (with_sign s n) ≡ n = abs_sign s n in
    let b : nat_abs (with_sign s (scale * n / 2 ^ 149)) ≡ scale * n / 2 ^ 149 = abs_sign s (scale * n / 2 ^ 149) in
    record {
      low = rw (a, b) (omega arith);
      high = rw (a, b) (omega arith);
      sign = rw b refl;
    }

pub all_exact : (v : Float) → T (fits binary32 v) → T (in_range v) → Exact v
all_exact nan f r = absurd r
all_exact (inf s) f r = absurd r
all_exact (fin s m e) f r = count_exact m e (units_at s m e f)

pub cut_bound : (v : Float) → T (in_range v) → nat_abs (cut 1024 v) ≤ 1024
cut_bound nan r = absurd r
cut_bound (inf s) r = absurd r
cut_bound (fin s m e) r =
    let h : unit_count m e ≤ 2 ^ 149 = leb→le (unit_count m e) (2 ^ 149) r in
    rw (abs_sign s (1024 * unit_count m e / 2 ^ 149)) (omega arith)
