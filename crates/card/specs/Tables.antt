-- The table of rows that stands for a card.
use Rattle.std.specs.Prelude.{◌≡◌, ℕ, ◌+◌, ◌≤◌, List, ◌++◌, length, take, drop}
use Rattle.std.proofs.Common.{sym, ap, ◌∙◌, arith}
use Rattle.std.proofs.lemmas.List.{length-take-le, length-drop, drop-drop, take-append-drop}
use Rattle.card.specs.declared.table.Table.TheInside.{Inside}
use Rattle.card.specs.Cards.{Card, Lawful, rows_of}

-- the card that a table stands for: its group rows come first, then its transform rows, and the others are its coset rows
abbrev pub card_of : Inside → Card
card_of t = record {
  len = t.len;
  group = take t.group t.rows;
  transform = take t.transform (drop t.group t.rows);
  coset = drop (t.group + t.transform) t.rows;
}

-- what every table keeps
pub record IsTable (t : Inside) : Type 0 where
  pub counts : t.group + t.transform ≤ length t.rows
  pub lawful : Lawful (card_of t)

-- the table of a card
abbrev pub table_of : Card → Inside
table_of k = record { len = k.len; rows = rows_of k; group = length k.group; transform = length k.transform }

-- the sections one after the other are the rows
pub rows_joined : (g t : ℕ) (xs : List ℕ) → take g xs ++ (take t (drop g xs) ++ drop (g + t) xs) ≡ xs
rows_joined g t xs =
    ap (λ (l : List ℕ). take g xs ++ (take t (drop g xs) ++ l)) (sym (drop-drop t g xs))
    ∙ ap (λ (l : List ℕ). take g xs ++ l) (take-append-drop t (drop g xs)) ∙ take-append-drop g xs

-- the table of a table's card is that table
pub table_of-card_of : (t : Inside) → IsTable t → table_of (card_of t) ≡ t
table_of-card_of t h i = record {
  len = t.len;
  rows = rows_joined t.group t.transform t.rows i;
  group = length-take-le t.group t.rows (omega (arith, h.counts)) i;
  transform = length-take-le t.transform (drop t.group t.rows) (omega (arith, h.counts, length-drop t.group t.rows)) i;
}
