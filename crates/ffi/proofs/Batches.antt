-- Words searched one after the other.
use Rattle.std.proofs.Common.{◌≡◌, ℕ, ◌+◌, ◌<◌, ◌≤◌, ◌≢◌, List, ◌++◌, map, length, get_or, take, drop, set, Option, sym, ap, ◌∙◌, subst, ⊎_elim, arith}
use borrow.Rule.Slice.PartMut.{put_mid}
use Rattle.std.proofs.lemmas.List.{take-append-drop, get_or-set_same, get_or-set_other}
use Rattle.std.proofs.lemmas.Bool.{cases_lt}
use Rattle.code.specs.declared.refusal.Refusal.{Refusal}
use Rattle.code.specs.declared.refusal.Refusal.TheVariants.{WordLengthDiffers}
use Rattle.finder.specs.Search.{Meaning, refusal}
use Rattle.reading.specs.declared.level.Level.{Level}
use Rattle.reading.specs.Kinds.{level_weight, level_size}
use Rattle.ffi.specs.declared.answer.Answer.{Answer}
use Rattle.ffi.specs.Batch.{AnswerTo, SearchedFirst, WordSearched, refused, reason, word_at}

-- a part written back as it was
pub put_same : {X : Type 0} (a k : ℕ) (xs ys : List X) → ys ≡ take k (drop a xs) → put_mid a k xs ys ≡ xs
put_same a k xs ys e =
    ap (λ z. take a xs ++ (z ++ drop k (drop a xs))) e ∙ ap (λ z. take a xs ++ z) (take-append-drop k (drop a xs)) ∙ take-append-drop a xs

module _ (j : ℕ) (by : Meaning) (words work now next : List Level) (answers : List Answer) (a : Answer) where
  pub one_more : j < length answers → length now ≡ length work → SearchedFirst j by words work now answers → WordSearched by (word_at by.span words j) now next a
      → SearchedFirst (j + 1) by words work next (set answers j a)
  one_more l same done new =
      let here : (i : ℕ) → j ≤ i → i < j + 1 → i ≡ j = λ i p q. omega arith in
      let due : ℕ → Option Refusal → Answer → Type 0 = λ i. AnswerTo by.rows (map level_weight (word_at by.span words i)) in
      let why : refusal by.span by.need (map level_size (word_at by.span words j)) (length now) ≡ reason by words work j = ap (refusal by.span by.need (map level_size (word_at by.span words j))) same in
      let none = refused WordLengthDiffers in
      record {
        each = λ i k. ⊎_elim
            (λ b. let ne : i ≢ j = omega arith in subst (due i (reason by words work i)) (sym (get_or-set_other answers j i a none ne)) (done.each i b))
            (λ b. subst (λ (m : ℕ). due m (reason by words work m) (get_or (set answers j a) m none)) (sym (here i b k))
            (subst (due j (reason by words work j)) (sym (get_or-set_same answers j a none l))
            (subst (λ (o : Option Refusal). due j o a) why new.answer)))
            (cases_lt i j);
        beyond = new.beyond ∙ done.beyond;
        untouched = λ no. new.untouched (λ e. no j (omega arith) (sym why ∙ e)) ∙ done.untouched (λ i k. no i (omega arith));
      }
