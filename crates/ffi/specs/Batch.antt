-- Many words searched by one call.
use Rattle.std.specs.Prelude.{◌≡◌, ℕ, zero, suc, ◌*◌, ◌<◌, cond, List, map, length, take, drop, ℤ, pos, Some, None, Ok, Err, Option, Result, MatchResult, ◌==◌, ◌≢◌, slice_index_or}
use Rattle.code.specs.declared.refusal.Refusal.{Refusal}
use Rattle.code.specs.declared.refusal.Refusal.TheVariants.{WordLengthDiffers}
use Rattle.code.specs.Refusals.{number_of}
use Rattle.code.specs.Words.{Best, agrees}
use Rattle.card.specs.Cards.{Card}
use Rattle.card_finder.specs.Whole.{whole_meaning}
use Rattle.finder.specs.Search.{Meaning, refusal}
use Rattle.finder.specs.declared.found.Found.{Found}
use Rattle.reading.specs.declared.level.Level.{Level}
use Rattle.reading.specs.Kinds.{level_weight, level_size}
use Rattle.ffi.specs.declared.answer.Answer.{Answer}

-- the answer to a word that is turned down
abbrev pub refused : Refusal → Answer
refused e = record { refusal = number_of e; message = 0; agreement = pos 0 }

-- the answer to a word by the reason to turn it down, if there is one: the best message and its agreement, or the refusal
abbrev pub AnswerTo : List ℕ → List ℤ → Option Refusal → Answer → Type 0
AnswerTo rows weights None a = (a.refusal ≡ 0) × Best rows weights a.message × (a.agreement ≡ agrees rows weights a.message)
AnswerTo rows weights (Some e) a = a ≡ refused e

-- what a search gave, as an answer
abbrev pub IsAnswerTo : Result (Found Level) Refusal → Answer → Type 0
IsAnswerTo res a = MatchResult res (λ f. (a.refusal ≡ 0) × (a.message ≡ f.message) × (a.agreement ≡ level_weight f.reading)) (λ e. a ≡ refused e)

-- word j of words of n readings that lie one after the other
abbrev pub word_at : ℕ → List Level → ℕ → List Level
word_at n words j = take n (drop (j * n) words)

-- why that finder turns word j down, if it does
abbrev pub reason : (by : Meaning) (words work : List Level) → ℕ → Option Refusal
reason by words work j = refusal by.span by.need (map level_size (word_at by.span words j)) (length work)

-- one word searched by that finder, and the work memory left as `after`: the same beyond the need, and the same whole where the word was turned down
pub record WordSearched (by : Meaning) (word work after : List Level) (a : Answer) : Type 0 where
  pub answer : AnswerTo by.rows (map level_weight word) (refusal by.span by.need (map level_size word) (length work)) a
  pub beyond : drop by.need after ≡ drop by.need work
  pub untouched : (refusal by.span by.need (map level_size word) (length work) ≢ None) → after ≡ work

-- the first words searched: each answer is that to the word of its number, and the work memory is the same whole where all of them were turned down
pub record SearchedFirst (count : ℕ) (by : Meaning) (words work after : List Level) (answers : List Answer) : Type 0 where
  pub each : (j : ℕ) → j < count → AnswerTo by.rows (map level_weight (word_at by.span words j)) (reason by words work j) (slice_index_or answers j (refused WordLengthDiffers))
  pub beyond : drop by.need after ≡ drop by.need work
  pub untouched : ((j : ℕ) → j < count → reason by words work j ≢ None) → after ≡ work

abbrev pub Searched : (by : Meaning) (words work after : List Level) (answers : List Answer) → Type 0
Searched by words work after answers = SearchedFirst (length answers) by words work after answers

-- 0 where so many readings are as many words of n places as there are answers, else the number of the refusal
abbrev pub words_number : ℕ → ℕ → ℕ → ℕ
words_number n readings answers = cond (readings == answers * n) 0 (number_of WordLengthDiffers)

-- what a call of that number leaves: the words searched, or all as it was
abbrev pub WordsLeft : ℕ → (by : Meaning) (words work after : List Level) (old new : List Answer) → Type 0
WordsLeft zero by words work after old new = Searched by words work after new
WordsLeft (suc r) by words work after old new = (after ≡ work) × (new ≡ old)

-- such a need of the card in a file, or 0 where there is none
abbrev pub need_in : (Card → ℕ) → Result Card Refusal → ℕ
need_in need (Ok k) = need k
need_in need (Err e) = 0

-- the number of the refusal of a call on a card file, or 0
abbrev pub call_number : Result Card Refusal → ℕ → ℕ → ℕ
call_number (Ok k) readings answers = words_number k.len readings answers
call_number (Err e) readings answers = number_of e

-- what a call on a card file leaves: the words searched by all rows of the card, or all as it was
abbrev pub CardLeft : Result Card Refusal → (Card → ℕ) → ℕ → (words work after : List Level) (old new : List Answer) → Type 0
CardLeft (Ok k) need r words work after old new = WordsLeft r (whole_meaning need k) words work after old new
CardLeft (Err e) need r words work after old new = (after ≡ work) × (new ≡ old)
