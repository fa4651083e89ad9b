-- Levels as whole numbers, and their labels.
use Rattle.std.specs.Prelude.{◌≡◌, ℕ, ◌+◌, ◌*◌, ◌/◌, ◌^◌, ◌<◌, ◌≤◌, Bool, false, cond, ℤ, pos, neg_ℤ, Some, None, Option, nat_le, unsigned_abs, Float}
use Rattle.std.specs.Float.{nan, inf, fin}
use Rattle.std.specs.Float.Ieee.{up, down}
use Rattle.code.specs.Limits.{full_label}

-- a level of 1 in units of 2 ^ -149
abbrev pub one : ℕ
one = 2 ^ 149

-- n or its opposite
abbrev pub with_sign : Bool → ℕ → ℤ
with_sign s n = cond s (neg_ℤ (pos n)) (pos n)

-- the size of a finite float m * 2 ^ e in units of 2 ^ -149
abbrev pub unit_count : ℕ → ℤ → ℕ
unit_count m e = m * up e * one / down e

-- a float in units of 2 ^ -149
abbrev pub units_of : Float → ℤ
units_of nan = pos 0
units_of (inf s) = pos 0
units_of (fin s m e) = with_sign s (unit_count m e)

-- the count of units leaves no remainder: the float is a whole number of units
abbrev pub Exact : Float → Type 0
Exact nan = ⊥
Exact (inf s) = ⊥
Exact (fin s m e) = unit_count m e * down e ≡ m * up e * one

-- the float is a number from -1 to 1
abbrev pub in_range : Float → Bool
in_range nan = false
in_range (inf s) = false
in_range (fin s m e) = nat_le (unit_count m e) one

-- `scale` times a float, with its fraction dropped
abbrev pub cut : ℕ → Float → ℤ
cut scale nan = pos 0
cut scale (inf s) = pos 0
cut scale (fin s m e) = with_sign s (scale * unit_count m e / one)

-- whether the float has the sign of a negative number
abbrev pub negative : Float → Bool
negative nan = false
negative (inf s) = s
negative (fin s m e) = s

-- the whole number l is `scale` times v with its fraction dropped, read in units of 2 ^ -149
pub record CutRule (scale : ℕ) (v : Float) (l : ℤ) : Type 0 where
  pub sign : l ≡ with_sign (negative v) (unsigned_abs l)
  pub low : unsigned_abs l * one ≤ scale * unsigned_abs (units_of v)
  pub high : scale * unsigned_abs (units_of v) < (unsigned_abs l + 1) * one

-- the label of a level, as a number and as a rule
abbrev pub label_at : Float → ℤ
label_at v = cut full_label v

abbrev pub LabelRule : Float → ℤ → Type 0
LabelRule v l = CutRule full_label v l

-- the label of a level, or none where it is not a number from -1 to 1
abbrev pub label_of : Float → Option ℤ
label_of v = cond (in_range v) (Some (label_at v)) None
