-- Zeros behind the rows of a table.
use Rattle.std.specs.Prelude.{◌≡◌, ℕ, ◌+◌, ◌-◌, ◌<◌, List, length, drop, replicate, slice_set, refl}
use Rattle.std.proofs.Common.{arith}
use Rattle.std.proofs.lemmas.List.{drop-drop, drop-replicate, drop-set-lt}

-- one row more leaves one zero less
pub zeros_pushed : (n c row : ℕ) (t : List ℕ) → length t ≡ n → c < n → drop c t ≡ replicate (n - c) 0 → drop (c + 1) (slice_set t c row) ≡ replicate (n - (c + 1)) 0
zeros_pushed n c row t l b z =
    let e : (n - c) - 1 ≡ n - (c + 1) = omega arith in
    rw (drop-set-lt (c + 1) t c row (omega arith), ← drop-drop 1 c t, z, drop-replicate {X = ℕ} 1 (n - c) 0, e) refl
