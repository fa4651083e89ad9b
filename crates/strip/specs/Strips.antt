-- Runs of a sheet that is searched by the finders of a card.
use Rattle.std.specs.Prelude.{◌≡◌, ℕ, ◌<◌, List, length, drop, Ok}
use Rattle.code.specs.declared.refusal.Refusal.{Refusal}
use Rattle.code.specs.declared.refusal.Refusal.TheVariants.{OutputShort}
use Rattle.card.specs.Cards.{Card}
use Rattle.card_list.specs.declared.requests.Request.{Request as CardRequest}
use Rattle.card_list.specs.declared.requests.Answer.{Answer as CardAnswer}
use Rattle.card_list.specs.Requests.{OwnList, card_after}
use Rattle.card_file.specs.Files.{read_card_lem}
use Rattle.card_finder.specs.Whole.{whole_meaning}
use Rattle.reading.specs.declared.Reading.{Ghosts as Kind}
use Rattle.finder.specs.OfCard.{plain_need_of}
use Rattle.finder.specs.Search.{Meaning}
use Rattle.group_finder.specs.Choices.{group_need_of}
use Rattle.sheet.specs.declared.run.Request.{Request}
use Rattle.sheet.specs.declared.run.Answer.{Answer}
use Rattle.sheet.specs.Runs.{RanOver}
use Rattle.strip.specs.declared.Method.{Method}
use Rattle.strip.specs.declared.Method.TheVariants.{Plain, Group}

-- the refusal of memory for fewer answers than there are requests
abbrev pub Short : (requests room : ℕ) → Refusal → Type 0
Short requests room e = (e ≡ OutputShort) × (room < requests)

-- how many readings of work memory a search of the card k needs
abbrev pub need_on : Card → Method → ℕ
need_on k Plain = plain_need_of k
need_on k Group = group_need_of k

-- each method searches by the length and the rows of the card k, with its own need
abbrev pub by_card : Card → Method → Meaning
by_card k method = whole_meaning (λ c. need_on c method) k

module _ {R : Type 0} (kind : Kind R) where
  -- the law of runs, where every search is by the length and the rows of the card k
  abbrev pub CardRun : Card → List (Request Method) → ℕ → (xs ys work after : List R) → (old answers : List (Answer R)) → Type 0
  CardRun k = RanOver kind (by_card k)

  -- the requests `rows` to a card just started were answered `told`, each as due from the rows taken before it,
  -- and the law of runs holds of the sheet with the card that they left
  pub record BuiltRun (n : ℕ) (rows : List CardRequest) (blank told : List CardAnswer) (requests : List (Request Method)) (count : ℕ) (xs ys work after : List R) (old answers : List (Answer R)) : Type 0 where
    pub card : OwnList n rows told
    pub beyond : drop (length rows) told ≡ drop (length rows) blank
    pub sheet : CardRun (card_after n rows told) requests count xs ys work after old answers

  -- the file was read as a card, and the law of runs holds of the sheet with that card
  pub record FileRun (file : List ℕ) (requests : List (Request Method)) (count : ℕ) (xs ys work after : List R) (old answers : List (Answer R)) : Type 0 where
    pub card : Card
    pub read : read_card_lem file ≡ Ok card
    pub sheet : CardRun card requests count xs ys work after old answers
