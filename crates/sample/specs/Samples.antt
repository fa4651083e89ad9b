-- The labels of a sample, and the first bad sample of a pass.
use Rattle.std.specs.Prelude.{◌≡◌, ℕ, ◌+◌, ◌<◌, ◌≤◌, true, false, cond, ◌⊎◌, List, [], ◌∷◌, length, ℤ, pos, neg_ℤ, Some, None, Ok, Err, Option, Result, ◌==◌, slice_index_or, Float}
use Rattle.code.specs.Limits.{full_label}
use Rattle.code.specs.declared.refusal.Refusal.{Refusal}
use Rattle.code.specs.declared.refusal.Refusal.TheVariants.{BitNotBinary, LevelOutOfRange}
use Rattle.sample.specs.declared.Sample.{Sample}
use Rattle.sample.specs.declared.Sample.TheVariants.{Bit, Level, Pair, Dropout}
use Rattle.sample.specs.declared.Labels.{Labels}
use Rattle.sample.specs.Levels.{in_range, label_at}

-- a bit 0 is full level, a bit 1 its opposite
abbrev pub main_label : Sample → ℤ
main_label (Bit b) = cond (b == 0) (pos full_label) (neg_ℤ (pos full_label))
main_label (Level v) = label_at v
main_label (Pair p) = label_at p.main
main_label Dropout = pos 0

-- only a pair names a second label
abbrev pub second_label : Sample → ℤ
second_label (Bit b) = pos 0
second_label (Level v) = pos 0
second_label (Pair p) = label_at p.second
second_label Dropout = pos 0

abbrev pub labels_of : Sample → Labels
labels_of x = record { main = main_label x; second = second_label x }

-- why a level at place i is bad, if it is
abbrev pub level_fault : ℕ → Float → Option Refusal
level_fault i v = cond (in_range v) None (Some (LevelOutOfRange i))

-- the first of two refusals
abbrev pub or_else : Option Refusal → Option Refusal → Option Refusal
or_else None after = after
or_else (Some e) after = Some e

-- why the sample at place i is bad, if it is; in a pair the main level comes first
abbrev pub fault : ℕ → Sample → Option Refusal
fault i (Bit b) = cond (b == 0) None (cond (b == 1) None (Some (BitNotBinary i)))
fault i (Level v) = level_fault i v
fault i (Pair p) = or_else (level_fault i p.main) (level_fault i p.second)
fault i Dropout = None

-- the refusal of the first bad sample, places counted from i
unfoldable pub first_fault : ℕ → List Sample → Option Refusal
first_fault i [] = None
first_fault i (x ∷ xs) = or_else (fault i x) (first_fault (i + 1) xs)

-- a value, unless there is a refusal
abbrev pub answer : {B : Type 0} → Option Refusal → B → Result B Refusal
answer None value = Ok value
answer (Some e) value = Err e

-- a sample that is taken: a bit is 0 or 1, and each level a number from -1 to 1
abbrev pub Good : Sample → Type 0
Good (Bit b) = (b ≡ 0) ⊎ (b ≡ 1)
Good (Level v) = in_range v ≡ true
Good (Pair p) = (in_range p.main ≡ true) × (in_range p.second ≡ true)
Good Dropout = Unit {0}

-- a sample that is refused with e at place i
abbrev pub Bad : ℕ → Sample → Refusal → Type 0
Bad i (Bit b) e = (2 ≤ b) × (e ≡ BitNotBinary i)
Bad i (Level v) e = (in_range v ≡ false) × (e ≡ LevelOutOfRange i)
Bad i (Pair p) e = ((in_range p.main ≡ false) ⊎ (in_range p.second ≡ false)) × (e ≡ LevelOutOfRange i)
Bad i Dropout e = ⊥

abbrev pub AllGood : List Sample → Type 0
AllGood xs = (k : ℕ) (x : Sample) → k < length xs → Good (slice_index_or xs k x)

-- e is the refusal of the first bad sample: those before it are good
pub record FirstBad (xs : List Sample) (e : Refusal) : Type 0 where
  pub place : ℕ
  pub on : place < length xs
  pub before : (k : ℕ) (x : Sample) → k < place → Good (slice_index_or xs k x)
  pub bad : (x : Sample) → Bad place (slice_index_or xs place x) e
