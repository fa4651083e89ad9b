-- A message written into samples.
use Rattle.std.proofs.Common.{◌≡◌, ℕ, ◌+◌, ◌-◌, ◌^◌, ◌<◌, ◌≤◌, Bool, true, false, cond, eqb, leb, List, ◌++◌, length, get_or, drop, Ok, Err, sym, refl, ap, ◌∙◌, subst, inl, inr, arith, leb-false}
use borrow.Rule.Slice.PartMut.{post_of}
use Rattle.std.proofs.lemmas.List.{same_lists, get_or-take, get_or-drop, get_or_append_left, get_or-append_right, length-take, length-drop, length-append}
use Rattle.code.specs.Words.{digit, codeword}
use Rattle.code.specs.declared.refusal.Refusal.TheVariants.{MessageTooLarge}
use Rattle.card.specs.Cards.{Card, rows_of, encoded}
use Rattle.sample.specs.declared.Sample.{Sample}
use Rattle.sample.specs.declared.Sample.TheVariants.{Bit, Level}
use Rattle.played.specs.Played.{level_for, PlaysDigit, played_as, Written}

pub encoded_ok : (card : Card) (m w : ℕ) → Ok w ≡ encoded card m → (m < 2 ^ length (rows_of card)) × (w ≡ codeword (rows_of card) m)
encoded_ok card m w is = go (leb (2 ^ length (rows_of card)) m) refl is
  where
    go : (b : Bool) → leb (2 ^ length (rows_of card)) m ≡ b → Ok w ≡ cond b (Err MessageTooLarge) (Ok (codeword (rows_of card) m)) → (m < 2 ^ length (rows_of card)) × (w ≡ codeword (rows_of card) m)
    go true e q = let z : ◌≡◌ {A = ℕ} 0 1 = cc in absurd (omega arith)
    go false e q = (leb-false _ _ e, cc)

plays_as : (l d : ℕ) → PlaysDigit d (played_as l d)
plays_as l d = go (eqb l 1)
  where
    go : (b : Bool) → PlaysDigit d (cond b (Level (level_for d)) (Bit d))
    go true = inr refl
    go false = inl refl

module _ (card : Card) (m levels n w : ℕ) (xs ys : List Sample) (nis : n ≡ card.len) (room : n ≤ length xs) (yis : length ys ≡ n) (wis : w ≡ codeword (rows_of card) m)
    (all : (k : ℕ) (x : Sample) → k < length ys → get_or ys k x ≡ played_as (digit k levels) (digit k w)) where
  at : (k : ℕ) (x : Sample) → k < n → get_or (ys ++ post_of 0 (n - 0) xs) k x ≡ played_as (digit k levels) (digit k (codeword (rows_of card) m))
  at k x h = get_or_append_left ys (post_of 0 (n - 0) xs) x k (omega arith) ∙ all k x (omega arith) ∙ ap (λ v. played_as (digit k levels) (digit k v)) wis

  rest_stays : drop n (ys ++ post_of 0 (n - 0) xs) ≡ drop n xs
  rest_stays = same_lists _ _ (simp (length-drop, length-append, length-drop) (omega arith)) (λ k d h.
      get_or-drop n (ys ++ post_of 0 (n - 0) xs) k d ∙ get_or-append_right ys (post_of 0 (n - 0) xs) n (n + k) d yis (omega arith)
      ∙ get_or-drop (n - 0) xs (n + k - n) d ∙ ap (λ i. get_or xs i d) (let e : n - 0 + (n + k - n) ≡ n + k = omega arith in e)
      ∙ sym (get_or-drop n xs k d))

  pub written : Written card m levels xs (ys ++ post_of 0 (n - 0) xs)
  written = record {
    long = simp (length-append, length-drop) (omega arith);
    samples = λ k x h. at k x (omega arith);
    plays = λ k x h.
        let l = length-take card.len (ys ++ post_of 0 (n - 0) xs) in
        let low : k < n = omega arith in
        subst (PlaysDigit (digit k (codeword (rows_of card) m)))
        (sym (get_or-take card.len (ys ++ post_of 0 (n - 0) xs) k x (omega arith) ∙ at k x low))
        (plays_as (digit k levels) (digit k (codeword (rows_of card) m)));
    rest = ap (λ j. drop j (ys ++ post_of 0 (n - 0) xs)) (sym nis) ∙ rest_stays ∙ ap (λ j. drop j xs) nis;
  }
