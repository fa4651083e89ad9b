-- A card's own list: what each request is answered, from the requests and answers before it.
use Rattle.std.specs.Prelude.{◌≡◌, ℕ, zero, suc, ◌<◌, List, [], ◌∷◌, ◌++◌, length, take, Some, None, Ok, Err, Option, Result, slice_index_or}
use Rattle.code.specs.declared.refusal.Section.{Section}
use Rattle.code.specs.declared.refusal.Section.TheVariants.{Group, Transform, Coset}
use Rattle.code.specs.declared.refusal.Refusal.{Refusal}
use Rattle.card_list.specs.declared.requests.Request.{Request}
use Rattle.card_list.specs.declared.requests.Request.TheVariants.{AddRow, MoveOn}
use Rattle.card_list.specs.declared.requests.Answer.{Answer}
use Rattle.card_list.specs.declared.requests.Answer.TheVariants.{Taken, Moved, Refused, Closed}
use Rattle.card.specs.declared.open.AnyCard.{AnyCard}
use Rattle.card.specs.Cards.{Card, RowTold, blank, pushed, rows_of, section_of}
use Rattle.card.specs.OpenCards.{card_in, open_in, section_after}

-- ---- what requests and answers say

-- how many of the requests are moves
abbrev pub moves : List Request → ℕ
moves [] = 0
moves (MoveOn ∷ rs) = suc (moves rs)
moves (AddRow row ∷ rs) = moves rs

-- the section that is open after so many moves; after three the card is finished
abbrev pub open_after : ℕ → Option Section
open_after zero = Some Group
open_after (suc zero) = Some Transform
open_after (suc (suc zero)) = Some Coset
open_after (suc (suc (suc n))) = None

-- the row that a request brought, where it was taken
abbrev pub row_taken : Request → Answer → List ℕ
row_taken (AddRow row) Taken = row ∷ []
row_taken (AddRow row) Moved = []
row_taken (AddRow row) (Refused e) = []
row_taken (AddRow row) Closed = []
row_taken MoveOn a = []

-- the rows taken, in their order
abbrev pub taken : List Request → List Answer → List ℕ
taken [] bs = []
taken (r ∷ rs) [] = []
taken (r ∷ rs) (a ∷ bs) = row_taken r a ++ taken rs bs

-- the rows taken since the last move, where the rows `here` stand before the first request
abbrev pub taken_since : (here : List ℕ) → List Request → List Answer → List ℕ
taken_since here [] bs = here
taken_since here (r ∷ rs) [] = here
taken_since here (MoveOn ∷ rs) (a ∷ bs) = taken_since [] rs bs
taken_since here (AddRow row ∷ rs) (a ∷ bs) = taken_since (here ++ row_taken (AddRow row) a) rs bs

-- the answer that is due of a card of words of n places with that section open and the rows `here` in it, `all` in all
abbrev pub Due : (n : ℕ) → Option Section → (here all : List ℕ) → Request → Answer → Type 0
Due n (Some s) here all (AddRow row) a = RowTold Taken Refused n s here all row a
Due n (Some s) here all MoveOn a = a ≡ Moved
Due n None here all (AddRow row) a = a ≡ Closed
Due n None here all MoveOn a = a ≡ Closed

-- request i is answered as is due from the moves and the rows taken before it
abbrev pub DueAt : ℕ → List Request → List Answer → ℕ → Type 0
DueAt n requests answers i =
    Due n (open_after (moves (take i requests)))
    (taken_since [] (take i requests) (take i answers)) (taken (take i requests) (take i answers))
    (slice_index_or requests i MoveOn) (slice_index_or answers i Closed)

-- and so is each
abbrev pub OwnList : ℕ → List Request → List Answer → Type 0
OwnList n requests answers = (i : ℕ) → i < length requests → DueAt n requests answers i

-- the section that is open after a move
abbrev pub next_open : Option Section → Option Section
next_open (Some s) = section_after s
next_open None = None

-- the card with rows put last into the open section
abbrev pub put_into : Option Section → Card → List ℕ → Card
put_into (Some s) k [] = k
put_into (Some s) k (row ∷ rows) = put_into (Some s) (pushed k s row) rows
put_into None k rows = k

-- the card k with that section open, after the requests with those answers: each row that was taken stands last in the section that was open
abbrev pub card_from : Option Section → Card → List Request → List Answer → Card
card_from o k [] bs = k
card_from o k (r ∷ rs) [] = k
card_from o k (MoveOn ∷ rs) (a ∷ bs) = card_from (next_open o) k rs bs
card_from o k (AddRow row ∷ rs) (a ∷ bs) = card_from o (put_into o k (row_taken (AddRow row) a)) rs bs

-- the card of words of n places that requests and answers leave
abbrev pub card_after : ℕ → List Request → List Answer → Card
card_after n requests answers = card_from (Some Group) (blank n) requests answers

-- ---- the same of a card, request by request

-- what a card shows: its length, the open section, the rows in it, and all rows
pub record View : Type 0 where
  pub len : ℕ
  pub open_section : Option Section
  pub here : List ℕ
  pub all : List ℕ

-- the rows of a section, where one is open
abbrev pub rows_in : Option Section → Card → List ℕ
rows_in (Some s) k = section_of k s
rows_in None k = []

abbrev pub view_of : AnyCard → View
view_of c = record { len = (card_in c).len; open_section = open_in c; here = rows_in (open_in c) (card_in c); all = rows_of (card_in c) }

abbrev pub DueIn : View → Request → Answer → Type 0
DueIn v r a = Due v.len v.open_section v.here v.all r a

-- the view after a request with that answer
abbrev pub afterwards : View → Request → Answer → View
afterwards v (AddRow row) a = record { len = v.len; open_section = v.open_section; here = v.here ++ row_taken (AddRow row) a; all = v.all ++ row_taken (AddRow row) a }
afterwards v MoveOn a = record { len = v.len; open_section = next_open v.open_section; here = []; all = v.all }

-- the view that requests and answers give
abbrev pub view_after : ℕ → List Request → List Answer → View
view_after n rs bs = record { len = n; open_section = open_after (moves rs); here = taken_since [] rs bs; all = taken rs bs }

-- the answer that tells a result
abbrev pub answered : Result (Unit {0}) Refusal → Answer
answered (Ok _) = Taken
answered (Err e) = Refused e
