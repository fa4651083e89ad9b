-- The lines of a text are also those that are gathered byte by byte, each up to its end.
use Rattle.std.proofs.Common.{◌≡◌, ℕ, Bool, true, false, cond, eqb, List, [], ◌∷◌, ◌++◌, sym, refl, ap, ◌∙◌, append_assoc}
use Rattle.std.proofs.lemmas.List.{append-nil}
use Rattle.std.proofs.lemmas.List.Elements.{All-nil, All-push}
use Rattle.std.proofs.lemmas.List.Splits.{slice_split_at, slice_split_none}
use Rattle.std.specs.List.{All}
use Rattle.card_text.specs.Lines.{lines_of}

-- the lines of what follows `line`, the part of a line that was gathered
pub lines_from : (line : List ℕ) → List ℕ → List (List ℕ)
lines_from line [] = line ∷ []
lines_from line (b ∷ bs) = cond (eqb b 10) (line ∷ lines_from [] bs) (lines_from (line ++ b ∷ []) bs)

Inside : List ℕ → Type 0
Inside line = All (λ b. eqb b 10 ≡ false) line

lines_from-append : (bs line : List ℕ) → Inside line → lines_from line bs ≡ lines_of (line ++ bs)
unfolding lines_from Inside
lines_from-append [] line h = sym (ap lines_of (append-nil line) ∙ slice_split_none (λ b. eqb b 10) line h)
lines_from-append (b ∷ bs) line h =
    elim (eqb b 10) as (λ (t : Bool). eqb b 10 ≡ t → cond t (line ∷ lines_from [] bs) (lines_from (line ++ b ∷ []) bs) ≡ lines_of (line ++ b ∷ bs)) [
      | true ↦ λ e. ap (λ (ls : List (List ℕ)). line ∷ ls) (lines_from-append bs [] (All-nil (λ c. eqb c 10 ≡ false))) ∙ sym (slice_split_at (λ c. eqb c 10) line b bs h e)
      | false ↦ λ e. lines_from-append bs (line ++ b ∷ []) (All-push (λ c. eqb c 10 ≡ false) line b h e) ∙ ap lines_of (append_assoc line (b ∷ []) bs)
    ] refl

pub lines_of-from : (bytes : List ℕ) → lines_of bytes ≡ lines_from [] bytes
unfolding Inside
lines_of-from bytes = sym (lines_from-append bytes [] (All-nil (λ b. eqb b 10 ≡ false)))
