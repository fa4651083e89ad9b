-- Runs: what a list of requests comes to, by the book.
use Rattle.std.specs.Prelude.{◌≡◌, ℕ, ◌<◌, ◌≤◌, List, ◌++◌, map, length, take, drop, ℤ, Some, None, Ok, Err, Option, Result, slice_index_or}
use Rattle.std.specs.Fn.{Shared}
use denote.Ref.{Bor}
use Rattle.code.specs.Limits.{max_places}
use Rattle.code.specs.declared.refusal.Refusal.{Refusal}
use Rattle.reading.specs.declared.Reading.{Ghosts as Kind}
use Rattle.finder.specs.Search.{Meaning}
use Rattle.finder.specs.declared.found.Found.{Found}
use Rattle.sheet.specs.declared.Sheet.{Sheet}
use Rattle.sheet.specs.declared.run.Request.{Request}
use Rattle.sheet.specs.declared.run.Request.TheVariants as request
use Rattle.sheet.specs.declared.run.Answer.{Answer}
use Rattle.sheet.specs.declared.run.Answer.TheVariants.{Passed, Struck, Cleared, Searched}
use Rattle.sheet.specs.Book.{Call, Pass, Strike, Clear, Search, Book, pass_answer, strike_answer, PassRule, SearchRule}
use Rattle.sheet.specs.Stands.{book_at, book_over, Stands, Booked, Kept, PassLaw, StrikeLaw, ClearLaw, SearchLaw}

-- what the book is told of a request
abbrev pub call_of : {F : Type 0} → Request F → Call
call_of (request.Pass samples) = Pass samples.now
call_of (request.Strike place) = Strike place
call_of request.Clear = Clear
call_of (request.Search finder) = Search

abbrev pub calls_of : {F : Type 0} → ℕ → List (Request F) → List Call
calls_of n requests = map call_of (take n requests)

-- n where the answer is that of a search that found
abbrev pub if_found : {R : Type 0} → ℕ → Answer R → ℕ
if_found n (Passed r) = 0
if_found n (Struck r) = 0
if_found n Cleared = 0
if_found n (Searched (Ok f)) = n
if_found n (Searched (Err e)) = 0

-- how many readings of work memory a request may have changed: the need of a search that was answered
abbrev pub used : {R F : Type 0} → (F → Meaning) → Request F → Answer R → ℕ
used by (request.Pass samples) a = 0
used by (request.Strike place) a = 0
used by request.Clear a = 0
used by (request.Search finder) a = if_found (by finder.now).need a

-- work memory beyond the needs of the searches answered is as it was
abbrev pub Spared : {R F : Type 0} → (F → Meaning) → List (Request F) → ℕ → List (Answer R) → List R → List R → Type 0
Spared {R = R} {F = F} by requests n answers before after =
    (b : ℕ) → ((k : ℕ) (q : Request F) (a : Answer R) → k < n → used by (slice_index_or requests k q) (slice_index_or answers k a) ≤ b) → drop b after ≡ drop b before

module _ {R F : Type 0} (kind : Kind R) (by : F → Meaning) (work : ℕ) where
  -- the answer a of a request, where the book stands at b
  abbrev pub AnswersTo : Book → Request F → Answer R → Type 0
  AnswersTo b (request.Pass samples) a = (r : Result ℕ Refusal) × (a ≡ Passed r) × (r ≡ pass_answer b samples.now) × PassRule b samples.now r
  AnswersTo b (request.Strike place) a = a ≡ Struck (strike_answer b place)
  AnswersTo b request.Clear a = a ≡ Cleared
  AnswersTo b (request.Search finder) a =
      (r : Result (Found R) Refusal) × (a ≡ Searched r) × SearchRule kind (by finder.now) work b.totals r

  -- a request is the call that it names: the law of that call holds, on any sheet
  abbrev pub Serves : Sheet R → Sheet R → Request F → List R → List R → Answer R → Type 0
  Serves t u (request.Pass samples) before after a = (r : Result ℕ Refusal) × (a ≡ Passed r) × PassLaw kind t u samples.now r
  Serves t u (request.Strike place) before after a = (r : Result (Unit {0}) Refusal) × (a ≡ Struck r) × StrikeLaw kind t u place r
  Serves t u request.Clear before after a = (a ≡ Cleared) × ClearLaw kind t u
  Serves t u (request.Search finder) before after a =
      (r : Result (Found R) Refusal) × (a ≡ Searched r) × SearchLaw kind t u (by finder.now) before after r

  -- one request of t left u and the work memory as `after`
  pub record Served (t u : Sheet R) (request : Request F) (before after : List R) (a : Answer R) : Type 0 where
    pub book : Booked kind t u (call_of request) (λ b. AnswersTo b request a)
    pub call : Serves t u request before after a
    pub kept : Kept t u
    pub spared : drop (used by request a) after ≡ drop (used by request a) before

  -- the first n requests, made of a sheet t that stands for the calls h, left the sheet u and were answered by the book
  pub record Ran (h : List Call) (requests : List (Request F)) (n : ℕ) (t u : Sheet R) (answers : List (Answer R)) : Type 0 where
    pub stands : Stands kind (h ++ calls_of n requests) u
    pub answered : (k : ℕ) (q : Request F) (a : Answer R) → k < n →
        AnswersTo (book_at kind (h ++ calls_of k requests) t) (slice_index_or requests k q) (slice_index_or answers k a)

-- so of any calls h for which the sheet t stood, and work memory beyond the needs is as it was
pub record RanFrom {R F : Type 0} (kind : Kind R) (by : F → Meaning) (requests : List (Request F)) (n : ℕ) (t u : Sheet R) (work after : List R) (answers : List (Answer R)) : Type 0 where
  pub law : (h : List Call) → Stands kind h t → Ran kind by (length work) h requests n t u answers
  pub spared : Spared by requests n answers work after

-- the rows of the finder with which a request searches, if it searches
abbrev pub rows_sought : {F : Type 0} → (F → Meaning) → Request F → Option (List ℕ)
rows_sought by (request.Pass samples) = None
rows_sought by (request.Strike place) = None
rows_sought by request.Clear = None
rows_sought by (request.Search finder) = Some (by finder.now).rows

-- any two searches with the same rows in the same order at the same standing totals, both answered, found the same message and the same weight
abbrev pub Agree : {R F : Type 0} → Kind R → (F → Meaning) → (totals : ℕ → List ℤ) → List (Request F) → List (Answer R) → Type 0
Agree {R = R} {F = F} kind by totals requests answers =
    (j k : ℕ) (q : Request F) (a : Answer R) (w : List ℕ) (x y : Found R) → j < length requests → k < length requests →
    rows_sought by (slice_index_or requests j q) ≡ Some w → rows_sought by (slice_index_or requests k q) ≡ Some w → totals j ≡ totals k →
    slice_index_or answers j a ≡ Searched (Ok x) → slice_index_or answers k a ≡ Searched (Ok y) →
    (x.message ≡ y.message) × (kind.weight x.reading ≡ kind.weight y.reading)

-- the law of runs: requests made of a sheet laid out over the cells xs left the cells ys, each covered cell at its standing total, and that pass count;
-- each request was answered as the book has it after the requests before, and searches with the same rows at the same totals agree; work memory beyond the needs, cells beyond the sheet and answers beyond the requests stay
pub record RanOver {R F : Type 0} (kind : Kind R) (by : F → Meaning) (requests : List (Request F)) (count : ℕ) (xs ys work after : List R) (old answers : List (Answer R)) : Type 0 where
  pub answered : (k : ℕ) (q : Request F) (a : Answer R) → k < length requests →
      AnswersTo kind by (length work) (book_over kind xs (calls_of k requests)) (slice_index_or requests k q) (slice_index_or answers k a)
  pub agree : Agree kind by (λ k. (book_over kind xs (calls_of k requests)).totals) requests answers
  pub counted : count ≡ (book_over kind xs (calls_of (length requests) requests)).count
  pub totals : map kind.weight (take max_places ys) ≡ (book_over kind xs (calls_of (length requests) requests)).totals
  pub beyond : drop max_places ys ≡ drop max_places xs
  pub spared : Spared by requests (length requests) answers work after
  pub rest : drop (length requests) answers ≡ drop (length requests) old

-- ---- requests that name their finders

-- the finder that a call of `finder_of` gives for a name means what `by` has for the name
abbrev pub Gives : {L N F : Type 0} → Shared L (Bor N × Unit {0}) (Bor F) → L → (F → Meaning) → (N → Meaning) → Type 0
Gives {N = N} {F = F} calls finder_of own by = (n : Bor N) (f : Bor F) → calls.post finder_of (n, tt) f → own f.now ≡ by n.now

-- P holds of whatever each name means, if it is what the finder given for it means
abbrev pub ByName : {L N F : Type 0} → Shared L (Bor N × Unit {0}) (Bor F) → L → (F → Meaning) → ((N → Meaning) → Type 0) → Type 0
ByName {N = N} calls finder_of own P = (by : N → Meaning) → Gives calls finder_of own by → P by
