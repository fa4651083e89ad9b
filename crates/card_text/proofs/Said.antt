-- A text that is read as a card says just what the card is described by.
use Rattle.std.proofs.Common.{◌≡◌, ℕ, ◌+◌, ◌≤◌, Bool, true, false, cond, ◌&&◌, eqb, ltb, leb, List, [], ◌∷◌, ◌++◌, length, take, drop, Some, None, Ok, Err, Option, Result, sym, refl, ap, ◌∙◌, subst, append_assoc, arith}
use Rattle.std.proofs.lemmas.List.{append-nil, map_push}
use Rattle.std.proofs.lemmas.Bool.{ltb-false}
use Rattle.code.specs.declared.refusal.Section.{Section}
use Rattle.code.specs.declared.refusal.Section.TheVariants.{Group, Transform, Coset}
use Rattle.code.specs.declared.refusal.Refusal.{Refusal}
use Rattle.code.specs.declared.refusal.Refusal.TheVariants.{LengthOutOfRange}
use Rattle.card.specs.Cards.{Card, blank, pushed, verdict}
use Rattle.card_text.specs.declared.fault.Problem.{Problem}
use Rattle.card_text.specs.declared.fault.Problem.TheVariants.{DigitCount, Refused, SectionClosed}
use Rattle.card_text.specs.declared.line.Keyword.{Keyword}
use Rattle.card_text.specs.declared.line.Keyword.TheVariants.{Length, Row, Unknown}
use Rattle.card_text.specs.Lines.{binary_row, decimal_of_lem, first_odd_lem, keyword_of_lem, lines_of, passed_over, row_of, row_read, trimmed, word_length_lem}
use Rattle.card_text.specs.Drafts.{Stage, unset, taking, entry_read, in_line, line_read, lines_read, on_ok, rank, read_text_lem, started, told}
use Rattle.card_text.specs.Sayings.{Saying, length_is, row_is, card_says, length_said, line_says, lines_say, said, text_says}

-- ---- what stages keep

-- no section after the open one has rows
Later : Section → Card → Type 0
Later Group k = (k.transform ≡ []) × (k.coset ≡ [])
Later Transform k = k.coset ≡ []
Later Coset k = Unit {0}

Sound : Stage → Type 0
Sound unset = Unit {0}
Sound (taking n o k) = Later o k

stage_says : Stage → List Saying
stage_says unset = []
stage_says (taking n o k) = card_says k

later_moved : (o s : Section) (k : Card) → rank o ≤ rank s → Later o k → Later s k
unfolding Later
later_moved Group Group k h l = l
later_moved Group Transform k h l = l.1
later_moved Group Coset k h l = tt
later_moved Transform Group k h l = absurd (omega arith)
later_moved Transform Transform k h l = l
later_moved Transform Coset k h l = tt
later_moved Coset Group k h l = absurd (omega arith)
later_moved Coset Transform k h l = absurd (omega arith)
later_moved Coset Coset k h l = tt

later_pushed : (s : Section) (k : Card) (row : ℕ) → Later s k → Later s (pushed k s row)
unfolding Later
later_pushed Group k row l = l
later_pushed Transform k row l = l
later_pushed Coset k row l = l

-- a row more in the open section is said last
says_pushed : (s : Section) (k : Card) (row : ℕ) → Later s k → card_says (pushed k s row) ≡ card_says k ++ row_is s row ∷ []
unfolding Later
says_pushed Group k row (t, c) = simp (t, c, map_push, append-nil)
says_pushed Transform k row c = simp (c, map_push, append-nil, append_assoc)
says_pushed Coset k row _ = simp (map_push, append_assoc)

-- ---- one line

-- the stage e is d with those sayings more
record Goes (d e : Stage) (more : List Saying) : Type 0 where
  says : stage_says e ≡ stage_says d ++ more
  sound : Sound e

starts_if : (b : Bool) (n : ℕ) (e : Stage) → cond b (Ok (taking n Group (blank n))) (Err (Refused LengthOutOfRange)) ≡ Ok e → Goes unset e (length_is n ∷ [])
unfolding Sound Later stage_says
starts_if true n e h =
    let is : taking n Group (blank n) ≡ e = cc in
    subst (λ (q : Stage). Goes unset q (length_is n ∷ [])) is (record { says = refl; sound = (refl, refl) })
starts_if false n e h = cc

starts : (o : Option ℕ) (e : Stage) → started o ≡ Ok e → Goes unset e (length_said o)
starts None e h = cc
starts (Some n) e h = starts_if (leb 1 n && leb n 64) n e h

module _ (n : ℕ) (o s : Section) (k : Card) (e : Stage) (rest : List ℕ) where
  give : ℕ → Result Stage Problem
  give row = told (verdict k s row) n s k row

  -- e is the stage with the row more
  Taken : Type 0
  Taken = Goes (taking n o k) e (row_is s (row_of rest) ∷ [])

  told_goes : (r : Result (Unit {0}) Refusal) → Later s k → told r n s k (row_of rest) ≡ Ok e → Taken
  unfolding Taken Sound stage_says
  told_goes (Ok _) l h =
      let row = row_of rest in
      let is : taking n s (pushed k s row) ≡ e = cc in
      subst (λ (q : Stage). Goes (taking n o k) q (row_is s row ∷ [])) is (record { says = says_pushed s k row l; sound = later_pushed s k row l })
  told_goes (Err x) l h = cc

  binary_goes : (f : Option ℕ) → Later s k → on_ok (binary_row s f rest) give ≡ Ok e → Taken
  unfolding give
  binary_goes None l h = told_goes (verdict k s (row_of rest)) l h
  binary_goes (Some p) l h = cc

  count_goes : (b : Bool) → Later s k → on_ok (cond b (binary_row s (first_odd_lem 0 rest) rest) (Err (DigitCount s (length rest) n))) give ≡ Ok e → Taken
  unfolding give
  count_goes true l h = binary_goes (first_odd_lem 0 rest) l h
  count_goes false l h = cc

  order_goes : (b : Bool) → ltb (rank s) (rank o) ≡ b → Later o k → on_ok (cond b (Err (SectionClosed s)) (Ok s)) (λ _. on_ok (row_read n s rest) give) ≡ Ok e → Taken
  unfolding give
  order_goes true c l h = cc
  order_goes false c l h = count_goes (eqb (length rest) n) (later_moved o s k (ltb-false (rank s) (rank o) c) l) h

entry_goes : (q : Keyword) (d e : Stage) (rest : List ℕ) → Sound d → entry_read q d rest ≡ Ok e → Goes d e (said q rest)
unfolding Sound give Taken
entry_goes Length unset e rest l h = starts (decimal_of_lem rest) e h
entry_goes Length (taking n o k) e rest l h = cc
entry_goes (Row s) unset e rest l h = cc
entry_goes (Row s) (taking n o k) e rest l h = order_goes n o s k e rest (ltb (rank s) (rank o)) refl l h
entry_goes Unknown d e rest l h = cc

line_goes : (b : Bool) (q : Keyword) (d e : Stage) (rest : List ℕ) → Sound d → cond b (Ok d) (entry_read q d rest) ≡ Ok e → Goes d e (cond b [] (said q rest))
line_goes true q d e rest l h =
    let is : d ≡ e = cc in
    subst (λ (x : Stage). Goes d x []) is (record { says = sym (append-nil (stage_says d)); sound = l })
line_goes false q d e rest l h = entry_goes q d e rest l h

-- ---- all lines

module _ (d : Stage) (i : ℕ) (line : List ℕ) (lines : List (List ℕ)) (k : Card) (sound : Sound d) where
  one_says : (r : Result Stage Problem) → line_read d line ≡ r → on_ok (in_line i r) (λ e. lines_read e (i + 1) lines) ≡ Ok k
      → ((e : Stage) → Sound e → lines_read e (i + 1) lines ≡ Ok k → stage_says e ++ lines_say lines ≡ card_says k)
      → stage_says d ++ (line_says line ++ lines_say lines) ≡ card_says k
  one_says (Ok e) is h more =
      let g = line_goes (passed_over line) (keyword_of_lem (take (word_length_lem line) line)) d e (drop (word_length_lem line + 1) line) sound is in
      sym (append_assoc (stage_says d) (line_says line) (lines_say lines))
      ∙ ap (λ (x : List Saying). x ++ lines_say lines) (sym g.says) ∙ more e g.sound h
  one_says (Err p) is h more = cc

lines_say-read : (lines : List (List ℕ)) (d : Stage) (i : ℕ) (k : Card) → Sound d → lines_read d i lines ≡ Ok k → stage_says d ++ lines_say lines ≡ card_says k
unfolding stage_says
lines_say-read [] unset i k l h = cc
lines_say-read [] (taking n o q) i k l h =
    let is : q ≡ k = cc in
    append-nil (card_says q) ∙ ap card_says is
lines_say-read (line ∷ lines) d i k l h =
    one_says d i (trimmed line) lines k l (line_read d (trimmed line)) refl h (λ e m g. lines_say-read lines e (i + 1) k m g)

pub text_says-read : (bytes : List ℕ) (k : Card) → read_text_lem bytes ≡ Ok k → text_says bytes ≡ card_says k
unfolding stage_says Sound
text_says-read bytes k h = lines_say-read (lines_of bytes) unset 1 k tt h
