-- A text read line by line.
use Rattle.std.proofs.Common.{◌≡◌, ℕ, ◌+◌, ◌-◌, ◌<◌, List, length, get_or, drop, Ok, Err, Result, IfOk, sym, ◌∙◌, arith}
use Rattle.std.proofs.lemmas.List.{at_drop_more, at_drop_all}
use Rattle.card.specs.Cards.{Card}
use Rattle.card_text.specs.declared.fault.TextFault.{TextFault}
use Rattle.card_text.specs.Sayings.{card_says, text_says}
use Rattle.card_text.specs.Lines.{lines_of, trimmed}
use Rattle.card_text.specs.Drafts.{Stage, finished, in_line, line_read, lines_read, on_ok, read_text_lem}
use Rattle.card_text.proofs.Said.{text_says-read}

-- n lines were read, and the lines after them, read from stage d on, make the text
pub record Left (bytes : List ℕ) (i n : ℕ) (d : Stage) : Type 0 where
  pub counted : n ≡ i
  pub reads : lines_read d (i + 1) (drop i (lines_of bytes)) ≡ read_text_lem bytes

module _ (bytes line : List ℕ) (i n : ℕ) (d : Stage) (inside : i < length (lines_of bytes)) (is : line ≡ get_or (lines_of bytes) i line) (l : Left bytes i n d) where
  next_read : on_ok (in_line (n + 1) (line_read d (trimmed line))) (λ e. lines_read e (i + 1 + 1) (drop (i + 1) (lines_of bytes))) ≡ read_text_lem bytes
  next_read = rw (l.counted, is) (sym (at_drop_more (lines_read d (i + 1)) (lines_of bytes) i line inside) ∙ l.reads)

  -- the next line leads to stage e
  pub left_more : (e : Stage) → Ok e ≡ in_line (n + 1) (line_read d (trimmed line)) → Left bytes (i + 1) (n + 1) e
  left_more e ok = record { counted = omega (arith, l.counted); reads = rw (sym ok) at next_read }

  -- the next line has a fault, which ends the reading
  pub left_fault : (f : TextFault) → Err f ≡ in_line (n + 1) (line_read d (trimmed line)) → Err f ≡ read_text_lem bytes
  left_fault f bad = rw (sym bad) at next_read

-- no line is left
pub left_none : (bytes : List ℕ) (i n : ℕ) (d : Stage) → i ≡ length (lines_of bytes) → Left bytes i n d → in_line n (finished d) ≡ read_text_lem bytes
left_none bytes i n d all l =
    let last : n ≡ i + 1 - 1 = omega (arith, l.counted) in
    rw last (sym (at_drop_all (lines_read d (i + 1)) (lines_of bytes) i (omega (arith, all))) ∙ l.reads)

-- a card that a text is read as says what the text does
pub says_described : (bytes : List ℕ) (r : Result Card TextFault) → r ≡ read_text_lem bytes → IfOk r (λ k. text_says bytes ≡ card_says k)
says_described bytes (Ok k) h = text_says-read bytes k (sym h)
says_described bytes (Err f) h = tt
