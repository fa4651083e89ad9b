-- One group row more, and what comes after the last.
use Rattle.std.proofs.Common.{◌≡◌, ℕ, ◌+◌, ◌*◌, ◌%◌, ◌^◌, ◌<◌, ◌≤◌, max, min, Bool, true, false, not, ◌⊎◌, ℤ, ◌+ℤ◌, ◌≤ℤ◌, ◌<ℤ◌, neg_ℤ, inl, inr, sym, ap, ◌∙◌, subst, ap₂, ⊎_elim, add-one, arith, pow_mono}
use Rattle.code.specs.Limits.{sum_limit}
use Rattle.std.proofs.lemmas.Int.{ints, by_lt_z}
use Rattle.std.proofs.lemmas.Bool.{cases_lt}
use Rattle.std.proofs.lemmas.Nat.{one_shl}
use Rattle.group_finder.specs.Choices.{BestKept, ByParity, Extended, KeptByParity, TopOf, choice_value, of_parity, signs, totalled}
use Rattle.group_finder.proofs.Parities.{row_keeps, row_takes, first_even, first_odd, value_even, value_odd, best_even, best_odd}
use Rattle.group_finder.proofs.Sizes.{totalled_le}
use Rattle.reading.specs.declared.Reading.{Ghosts as Kind}

module _ {R : Type 0} (kind : Kind R) (S : ℕ → ℤ) (bulk : ℕ → ℕ) (j : ℕ) (s : R) (ws : kind.weight s ≡ S j) (zs : kind.size s ≡ bulk j) (bit : ℕ) (eb : bit ≡ 2 ^ j) where
  one_row : (p : Bool) (m : ℕ) (a : R) (n : ℕ) (b : R) (k : ℕ) (r : R) → TopOf (of_parity p) (signs S j) (2 ^ j) m → TopOf (of_parity (not p)) (signs S j) (2 ^ j) n → kind.weight a ≡ signs S j m → kind.weight b ≡ signs S j n
      → Extended kind m a n b s bit k r → TopOf (of_parity p) (signs S (j + 1)) (2 ^ (j + 1)) k × (kind.weight r ≡ signs S (j + 1) k)
  one_row p m a n b k r t u wa wb e =
      by_lt_z (kind.weight a +ℤ kind.weight s) (kind.weight b +ℤ neg_ℤ (kind.weight s))
      (λ h.
      let x = e.takes h in
      let y = row_takes S p j m n t u (omega (arith, ints)) in
      let kn : k ≡ n + 2 ^ j = x.0 ∙ ap (λ (z : ℕ). n + z) eb in (
        subst (λ (z : ℕ). TopOf (of_parity p) (signs S (j + 1)) (2 ^ (j + 1)) z) (sym kn) y.0,
        x.1 ∙ ap₂ (λ u v. u +ℤ neg_ℤ v) wb ws ∙ sym y.1 ∙ ap (signs S (j + 1)) (sym kn),
      ))
      (λ h.
      let x = e.keeps h in
      let y = row_keeps S p j m n t u (omega (arith, ints)) in (
        subst (λ (z : ℕ). TopOf (of_parity p) (signs S (j + 1)) (2 ^ (j + 1)) z) (sym x.0) y.0,
        x.1 ∙ ap₂ (λ u v. u +ℤ v) wa ws ∙ sym y.1 ∙ ap (signs S (j + 1)) (sym x.0),
      ))

  pub parity_step : (m : ℕ) (a : R) (n : ℕ) (b : R) → ByParity kind S bulk j m a n b → (k : ℕ) (r : R) (l : ℕ) (q : R) → Extended kind m a n b s bit k r → Extended kind n b m a s bit l q → ByParity kind S bulk (j + 1) k r l q
  parity_step m a n b inv k r l q e f =
      let x = one_row false m a n b k r inv.even inv.odd inv.even_weighs inv.odd_weighs e in
      let y = one_row true n b m a l q inv.odd inv.even inv.odd_weighs inv.even_weighs f in
      let t : totalled (j + 1) bulk ≡ totalled j bulk + bulk j = ap (λ (i : ℕ). totalled i bulk) (add-one j) in
      let p = e.small in
      let o = f.small in
      let es = inv.even_small in
      let os = inv.odd_small in
      record { even = x.0; odd = y.0; even_weighs = x.1; odd_weighs = y.1; even_small = omega arith; odd_small = omega arith }

module _ {R : Type 0} (kind : Kind R) (S : ℕ → ℤ) (bulk : ℕ → ℕ) (j : ℕ) (s : R) (zs : kind.size s ≡ bulk j) where
  pub parity_room : (count m : ℕ) (a : R) (n : ℕ) (b : R) → ByParity kind S bulk j m a n b → j < count → totalled count bulk ≤ sum_limit → max (kind.size a) (kind.size b) + kind.size s ≤ sum_limit
  parity_room count m a n b inv h room =
      let t : totalled (j + 1) bulk ≡ totalled j bulk + bulk j = ap (λ (i : ℕ). totalled i bulk) (add-one j) in
      let l = totalled_le bulk (j + 1) count (omega arith) in
      let es = inv.even_small in
      let os = inv.odd_small in
      omega arith

pub parity_first : {R : Type 0} (kind : Kind R) (S : ℕ → ℤ) (bulk : ℕ → ℕ) (x y : R) → kind.weight x ≡ S 0 → kind.weight y ≡ neg_ℤ (S 0) → kind.size x ≡ bulk 0 → kind.size y ≡ bulk 0 → ByParity kind S bulk 1 0 x 1 y
parity_first kind S bulk x y wx wy zx zy =
    record { even = first_even S; odd = first_odd S; even_weighs = wx ∙ sym (value_even S); odd_weighs = wy ∙ sym (value_odd S); even_small = omega arith; odd_small = omega arith }

pub bit_is : (j : ℕ) → j ≤ 8 → (1 * 2 ^ j) % 4294967296 ≡ 2 ^ j
bit_is j h = one_shl j 32 (omega arith)

pub bit_small : (j : ℕ) → j ≤ 8 → 2 ^ j ≤ 256
bit_small j h = pow_mono h

-- the group rows are done: the heavier of two is the best choice, and on a tie the one with the smaller message
module _ {M R : Type 0} (keeps : M → ℕ → Type 0) (kind : Kind R) (w : ℕ → ℤ) (bulk : ℕ → ℕ) (J : ℕ) (first : M) (a : R) (second : M) (b : R)
    (inv : KeptByParity keeps kind (λ i. w (i + 1)) bulk J first a second b) (up down : ℤ) (wu : up ≡ kind.weight a +ℤ w (J + 1)) (wd : down ≡ kind.weight b +ℤ neg_ℤ (w (J + 1))) where
  up_is : up ≡ signs (λ i. w (i + 1)) J inv.even_choice +ℤ w (J + 1)
  up_is = wu ∙ ap (λ z. z +ℤ w (J + 1)) inv.best.even_weighs

  down_is : down ≡ signs (λ i. w (i + 1)) J inv.odd_choice +ℤ neg_ℤ (w (J + 1))
  down_is = wd ∙ ap (λ z. z +ℤ neg_ℤ (w (J + 1))) inv.best.odd_weighs

  even_is : (k : M) (x : ℤ) → keeps k inv.even_choice → x ≡ up → (down <ℤ up) ⊎ ((down ≤ℤ up) × (inv.even_choice < inv.odd_choice)) → BestKept keeps (choice_value w J) (2 ^ J) k (w 0 +ℤ x)
  even_is k x h e p =
      let y = best_even w J inv.even_choice inv.odd_choice inv.best.even inv.best.odd up down up_is down_is p in
      record { choice = inv.even_choice; kept = h; top = y.0; weighs = ap (λ z. w 0 +ℤ z) e ∙ sym y.1 }

  odd_is : (k : M) (x : ℤ) → keeps k inv.odd_choice → x ≡ down → (up <ℤ down) ⊎ ((up ≤ℤ down) × (inv.odd_choice ≤ inv.even_choice)) → BestKept keeps (choice_value w J) (2 ^ J) k (w 0 +ℤ x)
  odd_is k x h e p =
      let y = best_odd w J inv.even_choice inv.odd_choice inv.best.even inv.best.odd up down up_is down_is p in
      record { choice = inv.odd_choice; kept = h; top = y.0; weighs = ap (λ z. w 0 +ℤ z) e ∙ sym y.1 }

  pub settled : (k : M) (x : ℤ) → (up <ℤ down → (second ≡ k) × (x ≡ down)) → (down <ℤ up → (first ≡ k) × (x ≡ up)) → (up ≡ down → x ≡ up)
      → (up ≡ down → (m n : ℕ) → keeps first m → keeps second n → keeps k (min m n)) → BestKept keeps (choice_value w J) (2 ^ J) k (w 0 +ℤ x)
  settled k x heavier lighter tie smaller =
      by_lt_z up down
      (λ h. let y = heavier h in odd_is k x (subst (λ (z : M). keeps z inv.odd_choice) y.0 inv.odd_kept) y.1 (inl h))
      (λ h. by_lt_z down up
      (λ l. let y = lighter l in even_is k x (subst (λ (z : M). keeps z inv.even_choice) y.0 inv.even_kept) y.1 (inl l))
      (λ l.
      let same : up ≡ down = omega (arith, ints) in
      let y = smaller same inv.even_choice inv.odd_choice inv.even_kept inv.odd_kept in
      ⊎_elim
      (λ (c : inv.even_choice < inv.odd_choice). let z : min inv.even_choice inv.odd_choice ≡ inv.even_choice = omega arith in even_is k x (subst (keeps k) z y) (tie same) (inr (h, c)))
      (λ (c : inv.odd_choice ≤ inv.even_choice). let z : min inv.even_choice inv.odd_choice ≡ inv.odd_choice = omega arith in odd_is k x (subst (keeps k) z y) (tie same ∙ same) (inr (l, c)))
      (cases_lt inv.even_choice inv.odd_choice)))
