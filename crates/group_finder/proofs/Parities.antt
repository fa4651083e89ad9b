-- The best choice of group rows, by parity.
use Rattle.std.proofs.Common.{◌≡◌, ℕ, suc, ◌+◌, ◌-◌, ◌*◌, ◌/◌, ◌%◌, ◌^◌, ◌<◌, ◌≤◌, Bool, true, false, cond, not, eqb, ◌⊎◌, ℤ, pos, ◌+ℤ◌, neg_ℤ, ◌≤ℤ◌, ◌<ℤ◌, sym, refl, ap, ◌∙◌, subst, ap₂, inl, inr, ⊎_elim, add-one, arith, pow-add}
use native.Mathlib.Nat.{pow-succ', div-eq_of_lt, add-mul-div_right, add-div_right}
use lib.IntN.{+ℤ_idl}
use lib.Signed.{≤ℤ_refl}
use lib.Count.{ones, ones_cat, ones_step}
use Rattle.std.proofs.lemmas.Int.{ints}
use Rattle.std.proofs.lemmas.Nat.{pow_pos}
use Rattle.std.proofs.lemmas.Bool.{cases_lt, cases_Bool, cases_eq, both_ways, not-true, not_from_false}
use Rattle.code.specs.Words.{negated_if, odd, Top}
use Rattle.hadamard.proofs.Sums.{summed_ext}
use Rattle.hadamard.proofs.Signs.{ones_0}
use Rattle.group_finder.specs.Choices.{TopOf, signs, parity, of_parity, choice_value}

by_below : {P : Type 0} (j a : ℕ) → (j < a → P) → ((i : ℕ) → j ≡ i + a → P) → P
by_below j a p q = ⊎_elim p (λ h. q (j - a) (omega arith)) (cases_lt j a)

-- two ranges, one after the other, each with its best
module _ (P Q : ℕ → Bool) (f : ℕ → ℤ) (a b m n : ℕ) (same : (i : ℕ) → i < b → Q i ≡ P (i + a)) (t : TopOf P f a m) (u : TopOf Q (λ j. f (j + a)) b n) where
  moved : (j i : ℕ) → j ≡ i + a → i < b → P j ≡ true → Q i ≡ true
  moved j i e k p = same i k ∙ ap P (sym e) ∙ p

  pub of_keeps : f (n + a) ≤ℤ f m → TopOf P f (a + b) m
  of_keeps h = record {
    within = let w = t.within in omega arith;
    admitted = t.admitted;
    greatest = λ j k p. by_below j a
        (λ l. t.greatest j l p)
        (λ i e. let x = u.greatest i (omega arith) (moved j i e (omega arith) p) in let y : f (i + a) ≡ f j = ap f (sym e) in omega (arith, ints));
    smallest = t.smallest;
  }

  pub of_takes : f m <ℤ f (n + a) → TopOf P f (a + b) (n + a)
  of_takes h = record {
    within = let w = u.within in omega arith;
    admitted = sym (same n u.within) ∙ u.admitted;
    greatest = λ j k p. by_below j a
        (λ l. let x = t.greatest j l p in omega (arith, ints))
        (λ i e. let x = u.greatest i (omega arith) (moved j i e (omega arith) p) in let y : f (i + a) ≡ f j = ap f (sym e) in omega (arith, ints));
    smallest = λ j k p. by_below j a
        (λ l. let x = t.greatest j l p in omega (arith, ints))
        (λ i e. let w = u.within in let x = u.smallest i (omega arith) (moved j i e (omega arith) p) in let y : f (i + a) ≡ f j = ap f (sym e) in omega (arith, ints));
  }

-- the same best for a function with the same differences
pub of_shift : (P : ℕ → Bool) (f g : ℕ → ℤ) (k : ℤ) (b m : ℕ) → ((i : ℕ) → i < b → P i ≡ true → g i ≡ f i +ℤ k) → TopOf P f b m → TopOf P g b m
of_shift P f g k b m e t =
    let em = e m t.within t.admitted in
    record {
      within = t.within;
      admitted = t.admitted;
      greatest = λ j l p. let x = t.greatest j l p in let y = e j l p in omega (arith, ints);
      smallest = λ j l p. let w = t.within in let lb : j < b = omega arith in let x = t.smallest j l p in let y = e j lb p in omega (arith, ints);
    }

-- the better of the best admitted choice and the best of the others; the smaller on a tie
module _ (P : ℕ → Bool) (f : ℕ → ℤ) (b m n : ℕ) (t : TopOf (λ s. not (P s)) f b m) (u : TopOf P f b n) where
  by_side : {X : Type 0} (j : ℕ) → (not (P j) ≡ true → X) → (P j ≡ true → X) → X
  by_side j x y = ⊎_elim y (λ e. x (not_from_false (P j) e)) (cases_Bool (P j))

  pub join_first : (f n <ℤ f m) ⊎ ((f n ≤ℤ f m) × (m < n)) → Top f b m
  join_first h = record {
    within = t.within;
    greatest = λ j l. by_side j (λ p. t.greatest j l p) (λ p. let x = u.greatest j l p in ⊎_elim (λ k. omega (arith, ints)) (λ k. let y = k.0 in omega (arith, ints)) h);
    smallest = λ j l. by_side j (λ p. t.smallest j l p) (λ p. let w = t.within in let lb : j < b = omega arith in let x = u.greatest j lb p in
        ⊎_elim (λ k. omega (arith, ints)) (λ k. let y = k.0 in let z = k.1 in let ln : j < n = omega arith in let v = u.smallest j ln p in omega (arith, ints)) h);
  }

  pub join_second : (f m <ℤ f n) ⊎ ((f m ≤ℤ f n) × (n ≤ m)) → Top f b n
  join_second h = record {
    within = u.within;
    greatest = λ j l. by_side j (λ p. let x = t.greatest j l p in ⊎_elim (λ k. omega (arith, ints)) (λ k. let y = k.0 in omega (arith, ints)) h) (λ p. u.greatest j l p);
    smallest = λ j l. by_side j (λ p. let w = u.within in let lb : j < b = omega arith in let x = t.greatest j lb p in
        ⊎_elim (λ k. omega (arith, ints)) (λ k. let y = k.0 in let z = k.1 in let ln : j < m = omega arith in let v = t.smallest j ln p in omega (arith, ints)) h) (λ p. u.smallest j l p);
  }

-- digits of s + 2 ^ j
high_digit : (j s : ℕ) → s < 2 ^ j → (s + 2 ^ j) / 2 ^ j ≡ 1
high_digit j s h = add-div_right s (pow_pos j) ∙ ap (λ (x : ℕ). x + 1) (div-eq_of_lt h)

low_digit : (i j s : ℕ) → i < j → odd ((s + 2 ^ j) / 2 ^ i) ≡ odd (s / 2 ^ i)
low_digit i j s h =
    let k = j - 1 - i in
    let z : j ≡ (k + 1) + i = omega arith in
    let e : 2 ^ j ≡ (2 * 2 ^ k) * 2 ^ i = ap (λ (x : ℕ). 2 ^ x) z ∙ pow-add 2 (k + 1) i ∙ ap (λ (x : ℕ). x * 2 ^ i) (ap (λ (x : ℕ). 2 ^ x) (add-one k) ∙ pow-succ' 2 k) in
    let d : (s + 2 ^ j) / 2 ^ i ≡ s / 2 ^ i + 2 * 2 ^ k = ap (λ (x : ℕ). (s + x) / 2 ^ i) e ∙ add-mul-div_right s (2 * 2 ^ k) (pow_pos i) in
    let r : (s / 2 ^ i + 2 * 2 ^ k) % 2 ≡ s / 2 ^ i % 2 = omega arith in
    ap odd d ∙ ap (λ (x : ℕ). eqb x 1) r

pub signs_low : (S : ℕ → ℤ) (j s : ℕ) → s < 2 ^ j → signs S (suc j) s ≡ signs S j s +ℤ S j
signs_low S j s h = ap (λ (d : ℕ). signs S j s +ℤ negated_if (odd d) (S j)) (div-eq_of_lt h)

pub signs_high : (S : ℕ → ℤ) (j s : ℕ) → s < 2 ^ j → signs S (suc j) (s + 2 ^ j) ≡ signs S j s +ℤ neg_ℤ (S j)
signs_high S j s h =
    ap₂ (λ x (d : ℕ). x +ℤ negated_if (odd d) (S j))
    (summed_ext j _ _ (λ i l. ap (λ (b : Bool). negated_if b (S i)) (low_digit i j s l)))
    (high_digit j s h)

pub parity_high : (j s : ℕ) → s < 2 ^ j → parity (s + 2 ^ j) ≡ not (parity s)
parity_high j s h =
    let e : s + 2 ^ j ≡ 1 * 2 ^ j + s = omega arith in
    let o : ones 1 ≡ 1 = ones_step 1 ∙ ap (λ x. 1 + x) ones_0 in
    let c : ones (s + 2 ^ j) ≡ 1 + ones s = ap ones e ∙ ones_cat j 1 s h ∙ ap (λ (x : ℕ). x + ones s) o in
    ap odd c ∙ flips (ones s)
  where
    flips : (n : ℕ) → eqb ((1 + n) % 2) 1 ≡ not (eqb (n % 2) 1)
    flips n = grind arith

-- one group row more: the choices below 2 ^ (j + 1) with parity p, from those below 2 ^ j with parity p and with the other
same_flip : (p b : Bool) → cond (not p) b (not b) ≡ cond p (not b) (not (not b))
same_flip true true = refl
same_flip true false = refl
same_flip false true = refl
same_flip false false = refl

parity-flips : (p : Bool) (j s : ℕ) → s < 2 ^ j → of_parity (not p) s ≡ of_parity p (s + 2 ^ j)
parity-flips p j s h = same_flip p (parity s) ∙ ap (λ (b : Bool). cond p b (not b)) (sym (parity_high j s h))

doubled : (j : ℕ) → 2 ^ j + 2 ^ j ≡ 2 ^ (j + 1)
doubled j = let e : 2 ^ (j + 1) ≡ 2 * 2 ^ j = ap (λ (x : ℕ). 2 ^ x) (add-one j) ∙ pow-succ' 2 j in omega arith

module _ (S : ℕ → ℤ) (p : Bool) (j m n : ℕ) (t : TopOf (of_parity p) (signs S j) (2 ^ j) m) (u : TopOf (of_parity (not p)) (signs S j) (2 ^ j) n) where
  low : TopOf (of_parity p) (signs S (suc j)) (2 ^ j) m
  low = of_shift (of_parity p) (signs S j) (signs S (suc j)) (S j) (2 ^ j) m (λ i l _. signs_low S j i l) t

  high : TopOf (of_parity (not p)) (λ i. signs S (suc j) (i + 2 ^ j)) (2 ^ j) n
  high = of_shift (of_parity (not p)) (signs S j) (λ i. signs S (suc j) (i + 2 ^ j)) (neg_ℤ (S j)) (2 ^ j) n (λ i l _. signs_high S j i l) u

  put : (s : ℕ) → TopOf (of_parity p) (signs S (suc j)) (2 ^ j + 2 ^ j) s → TopOf (of_parity p) (signs S (j + 1)) (2 ^ (j + 1)) s
  put s x = subst (λ (k : ℕ). TopOf (of_parity p) (signs S k) (2 ^ (j + 1)) s) (sym (add-one j)) (subst (λ (k : ℕ). TopOf (of_parity p) (signs S (suc j)) k s) (doubled j) x)

  value_low : signs S (j + 1) m ≡ signs S j m +ℤ S j
  value_low = ap (λ (k : ℕ). signs S k m) (add-one j) ∙ signs_low S j m t.within

  value_high : signs S (j + 1) (n + 2 ^ j) ≡ signs S j n +ℤ neg_ℤ (S j)
  value_high = ap (λ (k : ℕ). signs S k (n + 2 ^ j)) (add-one j) ∙ signs_high S j n u.within

  pub row_keeps : (signs S j n +ℤ neg_ℤ (S j)) ≤ℤ (signs S j m +ℤ S j) → TopOf (of_parity p) (signs S (j + 1)) (2 ^ (j + 1)) m × (signs S (j + 1) m ≡ signs S j m +ℤ S j)
  row_keeps h =
      let a = signs_low S j m t.within in
      let b = signs_high S j n u.within in
      let k : signs S (suc j) (n + 2 ^ j) ≤ℤ signs S (suc j) m = omega (arith, ints) in
      (put m (of_keeps (of_parity p) (of_parity (not p)) (signs S (suc j)) (2 ^ j) (2 ^ j) m n (λ i l. parity-flips p j i l) low high k), value_low)

  pub row_takes : (signs S j m +ℤ S j) <ℤ (signs S j n +ℤ neg_ℤ (S j)) → TopOf (of_parity p) (signs S (j + 1)) (2 ^ (j + 1)) (n + 2 ^ j) × (signs S (j + 1) (n + 2 ^ j) ≡ signs S j n +ℤ neg_ℤ (S j))
  row_takes h =
      let a = signs_low S j m t.within in
      let b = signs_high S j n u.within in
      let k : signs S (suc j) m <ℤ signs S (suc j) (n + 2 ^ j) = omega (arith, ints) in
      (put (n + 2 ^ j) (of_takes (of_parity p) (of_parity (not p)) (signs S (suc j)) (2 ^ j) (2 ^ j) m n (λ i l. parity-flips p j i l) low high k), value_high)

-- one row
parity_0 : parity 0 ≡ false
parity_0 = ap odd ones_0

parity_1 : parity 1 ≡ true
parity_1 = ap odd (ones_step 1 ∙ ap (λ (x : ℕ). 1 + x) ones_0)

differs : (a : ℕ) (X : Type 0) → parity a ≡ true → parity a ≡ false → X
differs a X p q = absurd (both_ways (parity a) q p)

pub first_even : (S : ℕ → ℤ) → TopOf (of_parity false) (signs S 1) (2 ^ 1) 0
first_even S = record {
  within = omega arith;
  admitted = ap not parity_0;
  greatest = λ j l p. ⊎_elim (λ (e : j ≡ 0). subst (λ (k : ℕ). signs S 1 k ≤ℤ signs S 1 0) (sym e) (≤ℤ_refl (signs S 1 0)))
      (λ n. let e : j ≡ 1 = omega arith in differs 1 _ parity_1 (ap parity (sym e) ∙ not-true (parity j) p)) (cases_eq j 0);
  smallest = λ j l p. absurd (omega arith);
}

pub first_odd : (S : ℕ → ℤ) → TopOf (of_parity true) (signs S 1) (2 ^ 1) 1
first_odd S = record {
  within = omega arith;
  admitted = parity_1;
  greatest = λ j l p. ⊎_elim (λ (e : j ≡ 1). subst (λ (k : ℕ). signs S 1 k ≤ℤ signs S 1 1) (sym e) (≤ℤ_refl (signs S 1 1)))
      (λ n. let e : j ≡ 0 = omega arith in differs 0 _ (ap parity (sym e) ∙ p) parity_0) (cases_eq j 1);
  smallest = λ j l p. let e : j ≡ 0 = omega arith in differs 0 _ (ap parity (sym e) ∙ p) parity_0;
}

pub value_even : (S : ℕ → ℤ) → signs S 1 0 ≡ S 0
value_even S = +ℤ_idl (S 0)

pub value_odd : (S : ℕ → ℤ) → signs S 1 1 ≡ neg_ℤ (S 0)
value_odd S = +ℤ_idl (neg_ℤ (S 0))

-- F and M
module _ (w : ℕ → ℤ) (J : ℕ) where
  even_value : (s : ℕ) → parity s ≡ false → choice_value w J s ≡ signs (λ i. w (i + 1)) J s +ℤ (w 0 +ℤ w (J + 1))
  even_value s p = ap (λ (b : Bool). w 0 +ℤ (signs (λ i. w (i + 1)) J s +ℤ negated_if b (w (J + 1)))) p ∙ omega (arith, ints)

  odd_value : (s : ℕ) → parity s ≡ true → choice_value w J s ≡ signs (λ i. w (i + 1)) J s +ℤ (w 0 +ℤ neg_ℤ (w (J + 1)))
  odd_value s p = ap (λ (b : Bool). w 0 +ℤ (signs (λ i. w (i + 1)) J s +ℤ negated_if b (w (J + 1)))) p ∙ omega (arith, ints)

  module _ (m n : ℕ) (t : TopOf (of_parity false) (signs (λ i. w (i + 1)) J) (2 ^ J) m) (u : TopOf (of_parity true) (signs (λ i. w (i + 1)) J) (2 ^ J) n) where
    all_even : TopOf (λ s. not (parity s)) (choice_value w J) (2 ^ J) m
    all_even = of_shift (of_parity false) (signs (λ i. w (i + 1)) J) (choice_value w J) (w 0 +ℤ w (J + 1)) (2 ^ J) m (λ i _ p. even_value i (not-true (parity i) p)) t

    all_odd : TopOf parity (choice_value w J) (2 ^ J) n
    all_odd = of_shift (of_parity true) (signs (λ i. w (i + 1)) J) (choice_value w J) (w 0 +ℤ neg_ℤ (w (J + 1))) (2 ^ J) n (λ i _ p. odd_value i p) u

    pub best_even : (a b : ℤ) → a ≡ signs (λ i. w (i + 1)) J m +ℤ w (J + 1) → b ≡ signs (λ i. w (i + 1)) J n +ℤ neg_ℤ (w (J + 1)) → (b <ℤ a) ⊎ ((b ≤ℤ a) × (m < n))
        → Top (choice_value w J) (2 ^ J) m × (choice_value w J m ≡ w 0 +ℤ a)
    best_even a b ea eb h =
        let vm = even_value m (not-true (parity m) t.admitted) in
        let vn = odd_value n u.admitted in
        (join_first parity (choice_value w J) (2 ^ J) m n all_even all_odd (⊎_elim (λ k. inl (omega (arith, ints))) (λ k. let x = k.0 in inr (omega (arith, ints), k.1)) h), omega (arith, ints))

    pub best_odd : (a b : ℤ) → a ≡ signs (λ i. w (i + 1)) J m +ℤ w (J + 1) → b ≡ signs (λ i. w (i + 1)) J n +ℤ neg_ℤ (w (J + 1)) → (a <ℤ b) ⊎ ((a ≤ℤ b) × (n ≤ m))
        → Top (choice_value w J) (2 ^ J) n × (choice_value w J n ≡ w 0 +ℤ b)
    best_odd a b ea eb h =
        let vm = even_value m (not-true (parity m) t.admitted) in
        let vn = odd_value n u.admitted in
        (join_second parity (choice_value w J) (2 ^ J) m n all_even all_odd (⊎_elim (λ k. inl (omega (arith, ints))) (λ k. let x = k.0 in inr (omega (arith, ints), k.1)) h), omega (arith, ints))

-- no group row
pub none_best : (w : ℕ → ℤ) → Top (choice_value w 0) (2 ^ 0) 0 × (choice_value w 0 0 ≡ w 0 +ℤ w 1)
none_best w = (
  record { within = omega arith; greatest = λ j l. let e : 0 ≡ j = omega arith in subst (λ (k : ℕ). choice_value w 0 k ≤ℤ choice_value w 0 0) e (≤ℤ_refl (choice_value w 0 0)); smallest = λ j l. absurd (omega arith) },
  ap (λ (b : Bool). w 0 +ℤ (pos 0 +ℤ negated_if b (w 1))) parity_0 ∙ omega (arith, ints),
)
