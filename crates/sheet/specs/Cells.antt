-- Cells over which a sheet stands, and what a pass does to them.
use Rattle.std.specs.Prelude.{◌≡◌, ℕ, ◌+◌, ◌<◌, ◌≤◌, min, max, cond, ◌⊎◌, List, length, ℤ, pos, ◌+ℤ◌, ◌*ℤ◌, Some, None, Option, ◌==◌, nat_lt, slice_index_or, unsigned_abs}
use Rattle.code.specs.Limits.{max_places, full_label, sum_limit, size_limit}
use Rattle.code.specs.declared.refusal.Refusal.{Refusal}
use Rattle.code.specs.declared.refusal.Refusal.TheVariants.{PassLengthDiffers, TooManyPasses, SizeTooLarge}
use Rattle.reading.specs.declared.Reading.{Ghosts as Kind}
use Rattle.sample.specs.declared.Sample.{Sample}
use Rattle.sample.specs.Samples.{main_label, second_label, first_fault, AllGood}

-- the largest number of passes
abbrev pub max_passes : ℕ
max_passes = 1024

-- how many cells a sheet covers
abbrev pub covered : {R : Type 0} → List R → ℕ
covered cells = min max_places (length cells)

-- what the labels of a sample weigh, and the largest size of a reading made from them
abbrev pub label_weight : ℕ → ℕ → Sample → ℤ
label_weight main second x = (main_label x *ℤ pos main) +ℤ (second_label x *ℤ pos second)

abbrev pub label_size : Sample → ℕ
label_size x = max (unsigned_abs (main_label x)) (unsigned_abs (second_label x))

-- why a pass is turned down by a sheet of n places with that many passes, sizes aside, if it is
abbrev pub pass_check : ℕ → ℕ → List Sample → Option Refusal
pass_check n count xs = cond (length xs == n) (cond (nat_lt count max_passes) (first_fault 0 xs) (Some TooManyPasses)) (Some PassLengthDiffers)

module _ {R : Type 0} (kind : Kind R) where
  -- a reading made from the labels 0 and 0
  pub record Blank (x : R) : Type 0 where
    pub weighs : kind.weight x ≡ pos 0
    pub small : kind.size x ≡ 0

  abbrev pub AllBlank : List R → Type 0
  AllBlank xs = (k : ℕ) (d : R) → k < length xs → Blank (slice_index_or xs k d)

  -- y is x with the reading made from the sample added
  pub record Grown (sample : Sample) (x y : R) : Type 0 where
    pub weighs : kind.weight y ≡ kind.weight x +ℤ label_weight kind.MAIN_UNIT kind.SECOND_UNIT sample
    pub small : kind.size y ≤ kind.size x + label_size sample

  -- the cell x takes the sample: it is no larger than what is added to, and its new size is at most the limit
  pub record Fits (sample : Sample) (x : R) : Type 0 where
    pub room : kind.size x + full_label ≤ sum_limit
    pub new : R
    pub grown : Grown sample x new
    pub small : kind.size new ≤ size_limit

  -- the cell x does not take the sample: it is larger than what is added to, or its new size is above the limit
  abbrev pub Overgrown : Sample → R → Type 0
  Overgrown sample x = (sum_limit < kind.size x + full_label) ⊎ ((new : R) × Grown sample x new × (size_limit < kind.size new))

  -- e is the refusal of the first cell that does not take its sample
  pub record FirstOvergrown (samples : List Sample) (cells : List R) (e : Refusal) : Type 0 where
    pub place : ℕ
    pub on : place < length samples
    pub before : (k : ℕ) (x : Sample) (d : R) → k < place → Fits (slice_index_or samples k x) (slice_index_or cells k d)
    pub here : (x : Sample) (d : R) → Overgrown (slice_index_or samples place x) (slice_index_or cells place d)
    pub names : e ≡ SizeTooLarge place

  -- a pass that meets every check
  pub record PassFits (samples : List Sample) (passes : ℕ) (cells : List R) : Type 0 where
    pub checked : pass_check (length cells) passes samples ≡ None
    pub long : length samples ≡ length cells
    pub few : passes < max_passes
    pub good : AllGood samples
    pub fits : (k : ℕ) (x : Sample) (d : R) → k < length samples → Fits (slice_index_or samples k x) (slice_index_or cells k d)

  -- a pass that is turned down with e
  abbrev pub PassFails : List Sample → ℕ → List R → Refusal → Type 0
  PassFails samples passes cells e =
      (pass_check (length cells) passes samples ≡ Some e)
      ⊎ ((pass_check (length cells) passes samples ≡ None) × AllGood samples × (passes < max_passes) × (length samples ≡ length cells) × FirstOvergrown samples cells e)

  -- the first n samples have been added to cells that were xs and are ys
  pub record Added (samples : List Sample) (n : ℕ) (xs ys : List R) : Type 0 where
    pub grown : (k : ℕ) (x : Sample) (d : R) → k < n → Grown (slice_index_or samples k x) (slice_index_or xs k d) (slice_index_or ys k d)
    pub others : (k : ℕ) (d : R) → n ≤ k → slice_index_or ys k d ≡ slice_index_or xs k d

  -- a pass that was taken: the answer, and the cells ys that were xs
  pub record Passed (samples : List Sample) (passes : ℕ) (xs ys : List R) (count : ℕ) : Type 0 where
    pub fits : PassFits samples passes xs
    pub added : Added samples (length samples) xs ys
    pub counted : count ≡ passes + 1
