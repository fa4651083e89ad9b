-- The book of a sheet: fed the calls' arguments alone.
use Rattle.std.specs.Prelude.{◌≡◌, ℕ, ◌+◌, ◌<◌, ◌≤◌, cond, List, [], ◌∷◌, length, replicate, ℤ, pos, ◌+ℤ◌, Some, None, Ok, Err, Option, Result, ◌≢◌, nat_lt, slice_set}
use Rattle.code.specs.Words.{Best, agrees}
use Rattle.code.specs.declared.refusal.Refusal.{Refusal}
use Rattle.code.specs.declared.refusal.Refusal.TheVariants.{PassLengthDiffers, TooManyPasses, PlaceOffSheet, WordLengthDiffers, WorkMemoryShort}
use Rattle.sample.specs.declared.Sample.{Sample}
use Rattle.sample.specs.Samples.{answer, AllGood, FirstBad}
use Rattle.reading.specs.declared.Reading.{Ghosts as Kind}
use Rattle.finder.specs.Search.{Meaning}
use Rattle.finder.specs.declared.found.Found.{Found}
use Rattle.sheet.specs.Cells.{max_passes, label_weight, pass_check}

-- the calls of a sheet with their arguments; a search changes nothing, so its finder is left out
pub data Call : Type 0 where
  Pass : List Sample → Call
  Strike : ℕ → Call
  Clear : Call
  Search : Call

-- the pass count and the standing total of each place
pub record Book : Type 0 where
  pub count : ℕ
  pub totals : List ℤ

-- the book of a sheet just laid out
abbrev pub laid : ℕ → Book
laid n = record { count = 0; totals = replicate n (pos 0) }

-- each total with the weight of its place's labels added
abbrev pub add_labels : ℕ → ℕ → List ℤ → List Sample → List ℤ
add_labels main second [] xs = []
add_labels main second (t ∷ ts) [] = t ∷ ts
add_labels main second (t ∷ ts) (x ∷ xs) = (t +ℤ label_weight main second x) ∷ add_labels main second ts xs

abbrev pub unless_refused : {B : Type 0} → Option Refusal → B → B → B
unless_refused None new old = new
unless_refused (Some e) new old = old

-- the book after one call more
abbrev pub step : ℕ → ℕ → Book → Call → Book
step main second b (Pass xs) =
    unless_refused (pass_check (length b.totals) b.count xs) (record { count = b.count + 1; totals = add_labels main second b.totals xs }) b
step main second b (Strike k) = record { count = b.count; totals = slice_set b.totals k (pos 0) }
step main second b Clear = laid (length b.totals)
step main second b Search = b

abbrev pub after : ℕ → ℕ → Book → List Call → Book
after main second b [] = b
after main second b (c ∷ cs) = after main second (step main second b c) cs

-- the book of n places after the calls h
unfoldable pub book_of : ℕ → ℕ → ℕ → List Call → Book
book_of main second n h = after main second (laid n) h

-- what a pass is answered by the book
abbrev pub pass_answer : Book → List Sample → Result ℕ Refusal
pass_answer b xs = answer (pass_check (length b.totals) b.count xs) (b.count + 1)

-- what a strike is answered by the book
abbrev pub strike_answer : Book → ℕ → Result (Unit {0}) Refusal
strike_answer b k = cond (nat_lt k (length b.totals)) (Ok tt) (Err (PlaceOffSheet k))

-- the answer r of a pass, in words: another length, else too many passes, else the first bad sample, else taken
pub record PassRule (b : Book) (xs : List Sample) (r : Result ℕ Refusal) : Type 0 where
  pub length_differs : (length xs ≢ length b.totals) → r ≡ Err PassLengthDiffers
  pub too_many : length xs ≡ length b.totals → max_passes ≤ b.count → r ≡ Err TooManyPasses
  pub first_bad : length xs ≡ length b.totals → b.count < max_passes → (e : Refusal) → FirstBad xs e → r ≡ Err e
  pub taken : length xs ≡ length b.totals → b.count < max_passes → AllGood xs → r ≡ Ok (b.count + 1)

-- the answer r of a search at these standing totals by a finder, with so much work memory
pub record SearchRule {R : Type 0} (kind : Kind R) (by : Meaning) (work : ℕ) (totals : List ℤ) (r : Result (Found R) Refusal) : Type 0 where
  pub length_differs : (length totals ≢ by.span) → r ≡ Err WordLengthDiffers
  pub work_short : length totals ≡ by.span → work < by.need → r ≡ Err WorkMemoryShort
  pub answered : length totals ≡ by.span → by.need ≤ work →
      (f : Found R) × (r ≡ Ok f) × Best (by.rows) totals f.message × (kind.weight f.reading ≡ agrees (by.rows) totals f.message)
