-- The rows of a card that a finder without layers takes.
use Rattle.std.proofs.Common.{◌≡◌, ℕ, ◌+◌, ◌<◌, ◌≤◌, ◌++◌, length, take, sym, ap, ◌∙◌, arith}
use Rattle.std.proofs.lemmas.List.{append_assoc, length-append, length-take, take_at, get_or-take}
use Rattle.code.specs.declared.refusal.Section.TheVariants.{Group, Transform}
use Rattle.card.specs.Cards.{Card, Lawful, rows_of}
use Rattle.card.specs.Rows.{Within}

module _ (k : Card) (count : ℕ) (is : count ≡ length k.group + length k.transform) where
  pub first_two : take count (rows_of k) ≡ k.group ++ k.transform
  first_two =
      ap (take count) (sym (append_assoc k.group k.transform k.coset))
      ∙ take_at (k.group ++ k.transform) k.coset count (length-append k.group k.transform ∙ sym is)

  pub first_fit : count ≤ length (rows_of k)
  first_fit = let a = length-append k.group (k.transform ++ k.coset) in let b = length-append k.transform k.coset in omega arith

  pub first_few : Lawful k → count ≤ 16
  first_few l = let a = l.few Group in let b = l.few Transform in omega arith

  -- no row of a part of a card has a digit beyond the length
  pub first_within : Lawful k → Within k.len (take count (rows_of k))
  first_within l j h =
      let t = length-take count (rows_of k) in
      let lj : j < count = omega arith in
      let e = get_or-take count (rows_of k) j 0 lj in
      let w = l.within j (omega arith) in
      omega arith
