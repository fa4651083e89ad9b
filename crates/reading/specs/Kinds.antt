-- Weight, size and opposite of the two kinds.
use Rattle.std.specs.Prelude.{ℕ, ◌^◌, max, ℤ, pos, ◌+ℤ◌, ◌*ℤ◌, neg_ℤ, unsigned_abs}
use Rattle.reading.specs.declared.level.Level.{Level}
use Rattle.reading.specs.declared.two_head.TwoHead.{TwoHead}

abbrev pub level_weight : Level → ℤ
level_weight x = x.value

abbrev pub level_size : Level → ℕ
level_size x = unsigned_abs x.value

abbrev pub level_opposite : Level → Level
level_opposite x = record { value = neg_ℤ x.value }

abbrev pub heads_weight : TwoHead → ℤ
heads_weight x = (x.main *ℤ pos (2 ^ 32)) +ℤ x.second

abbrev pub heads_size : TwoHead → ℕ
heads_size x = max (unsigned_abs x.main) (unsigned_abs x.second)

abbrev pub heads_opposite : TwoHead → TwoHead
heads_opposite x = record { main = neg_ℤ x.main; second = neg_ℤ x.second }
