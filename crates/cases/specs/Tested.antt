-- A test of the smallest number at which a function is greatest, which computes on numerals.
use Rattle.std.specs.Prelude.{ℕ, zero, suc, Bool, true, cond, ◌&&◌, ℤ, int_le, int_lt, nat_lt}

-- whether f is at most f m at each number below n, and less at those below m
abbrev pub none_above : (ℕ → ℤ) → ℕ → ℕ → Bool
none_above f zero m = true
none_above f (suc n) m = cond (nat_lt n m) (int_lt (f n) (f m)) (int_le (f n) (f m)) && none_above f n m
