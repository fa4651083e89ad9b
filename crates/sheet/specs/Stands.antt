-- What a sheet stands for, and what each of its methods does.
use Rattle.std.specs.Prelude.{◌≡◌, ℕ, ◌*◌, ◌<◌, ◌≤◌, List, [], ◌∷◌, ◌++◌, map, length, take, drop, Ok, Err, Result, MatchResult, slice_index_or, slice_set}
use Rattle.code.specs.Limits.{max_places, full_label}
use Rattle.code.specs.declared.refusal.Refusal.{Refusal}
use Rattle.code.specs.declared.refusal.Refusal.TheVariants.{PlaceOffSheet}
use Rattle.sample.specs.declared.Sample.{Sample}
use Rattle.reading.specs.declared.Reading.{Ghosts as Kind}
use Rattle.finder.specs.declared.found.Found.{Found}
use Rattle.finder.specs.Search.{Meaning, Answered, Refused}
use Rattle.sheet.specs.declared.Sheet.{Sheet}
use Rattle.sheet.specs.Cells.{max_passes, covered, Blank, AllBlank, Passed, PassFails}
use Rattle.sheet.specs.Book.{Call, Pass, Strike, Clear, Search, Book, book_of, pass_answer, strike_answer, PassRule, SearchRule}

abbrev pub cells_of : {R : Type 0} → Sheet R → List R
cells_of t = t.cells.now

-- the covered cells
abbrev pub front : {R : Type 0} → Sheet R → List R
front t = take max_places (cells_of t)

-- the sheet stands over the same cells: none was lost, and those beyond the covered ones are as they were
pub record Kept {R : Type 0} (t u : Sheet R) : Type 0 where
  pub named : u.cells.ghost_name ≡ t.cells.ghost_name
  pub long : length (cells_of u) ≡ length (cells_of t)
  pub beyond : drop max_places (cells_of u) ≡ drop max_places (cells_of t)

-- the same cells, with the same values, and the same pass count
pub record Same {R : Type 0} (t u : Sheet R) : Type 0 where
  pub named : u.cells.ghost_name ≡ t.cells.ghost_name
  pub cells : cells_of u ≡ cells_of t
  pub passes : u.passes ≡ t.passes

-- where both found something, it is the same message and the same weight
abbrev pub SameFound : {R : Type 0} → Kind R → Result (Found R) Refusal → Result (Found R) Refusal → Type 0
SameFound kind (Ok f) (Ok g) = (f.message ≡ g.message) × (kind.weight f.reading ≡ kind.weight g.reading)
SameFound kind (Ok f) (Err e) = Unit {0}
SameFound kind (Err e) r = Unit {0}

module _ {R : Type 0} (kind : Kind R) where
  -- the book of a sheet over the cells xs after the calls h
  abbrev pub book_over : List R → List Call → Book
  book_over xs h = book_of kind.MAIN_UNIT kind.SECOND_UNIT (covered xs) h

  -- the book of the sheet t after the calls h
  abbrev pub book_at : List Call → Sheet R → Book
  book_at h t = book_over (cells_of t) h

  -- the sheet t is as the book has it after the calls h, and no pass has made a cell larger than it may
  pub record Stands (h : List Call) (t : Sheet R) : Type 0 where
    pub count : t.passes ≡ (book_at h t).count
    pub totals : map kind.weight (front t) ≡ (book_at h t).totals
    pub light : (k : ℕ) (d : R) → k < covered (cells_of t) → kind.size (slice_index_or (cells_of t) k d) ≤ full_label * t.passes
    pub few : t.passes ≤ max_passes

  -- for every list of calls h that t stands for, u stands for h and the call, and P holds of the book after h
  abbrev pub Booked : Sheet R → Sheet R → Call → (Book → Type 0) → Type 0
  Booked t u call P = (h : List Call) → Stands h t → Stands (h ++ call ∷ []) u × P (book_at h t)

  -- a pass of t left u and answered r: by the book, and on any cells
  pub record PassLaw (t u : Sheet R) (samples : List Sample) (r : Result ℕ Refusal) : Type 0 where
    pub book : Booked t u (Pass samples) (λ b. (r ≡ pass_answer b samples) × PassRule b samples r)
    pub cells : MatchResult r
        (λ count. Passed kind samples t.passes (front t) (front u) count × (u.passes ≡ count))
        (λ e. PassFails kind samples t.passes (front t) e × Same t u)
    pub kept : Kept t u

  pub record StrikeLaw (t u : Sheet R) (place : ℕ) (r : Result (Unit {0}) Refusal) : Type 0 where
    pub book : Booked t u (Strike place) (λ b. r ≡ strike_answer b place)
    pub cells : MatchResult r
        (λ _. (place < covered (cells_of t)) × (u.passes ≡ t.passes) × ((x : R) × Blank kind x × (cells_of u ≡ slice_set (cells_of t) place x)))
        (λ e. (covered (cells_of t) ≤ place) × (e ≡ PlaceOffSheet place) × Same t u)
    pub kept : Kept t u

  pub record ClearLaw (t u : Sheet R) : Type 0 where
    pub book : Booked t u Clear (λ b. Unit {0})
    pub fresh : Stands [] u
    pub cells : AllBlank kind (front u)
    pub passes : u.passes ≡ 0
    pub kept : Kept t u

  -- a search of t by a finder left u, answered r, and left the work memory as `after`
  pub record SearchLaw (t u : Sheet R) (by : Meaning) (work after : List R) (r : Result (Found R) Refusal) : Type 0 where
    pub book : Booked t u Search (λ b. SearchRule kind by (length work) b.totals r)
    pub cells : MatchResult r
        (Answered kind by (front t) work after)
        (Refused kind.size by.span by.need (front t) work after)
    pub same : Same t u

  -- a search of t by one finder, then by another
  pub record BothLaw (t u : Sheet R) (first second : Meaning) (work after : List R) (r r' : Result (Found R) Refusal) : Type 0 where
    pub between : Sheet R
    pub left : List R
    pub by_first : SearchLaw t between first work left r
    pub by_second : SearchLaw between u second left after r'
    pub agree : first.rows ≡ second.rows → SameFound kind r r'
