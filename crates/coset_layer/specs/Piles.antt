-- The rows of a pile.
use Rattle.std.specs.Prelude.{◌≡◌, ℕ, zero, suc, ◌+◌, ◌-◌, ◌*◌, ◌/◌, ◌%◌, ◌^◌, ◌<◌, ◌≤◌, min, List, [], ◌∷◌, ◌++◌, length, take, drop, Some, None, Ok, Option, MatchOption, bit_xor, nat_lt, slice_index, slice_index_or, refl}
use Rattle.std.proofs.Common.{sym, ap, ap₂, ◌∙◌, zero-mul, one-mul, mod-eq_of_lt, arith, pow_mono, ⊎_elim}
use Rattle.std.proofs.Math.Nat.{zero-mod}
use Rattle.std.proofs.lemmas.Nat.{mod_below, pow_pos, xor_mod}
use Rattle.std.proofs.lemmas.List.{length-append, length-map, length-take, take_all, get_or_append_left, get_or-append_right, get_or-map, map-append, append_assoc, length-drop, get_or-take, get_or-drop, take-append-drop, take-take, drop_all, get_or-append-add}
use Rattle.std.proofs.lemmas.Bool.{cases_lt, cond-true, lt-ltb}
use Rattle.card.specs.Rows.{Within}
use Rattle.code.specs.Limits.{max_rows}
use Rattle.code.specs.Words.{codeword}
use Rattle.finder.specs.Search.{Lawful, Meaning}
use Rattle.coset_layer.specs.Pile.{cut_to, pile_rows, piled, layer_rows, row_verdict}

chosen_mod : (d r n : ℕ) → d < 2 → d * (r % 2 ^ n) ≡ (d * r) % 2 ^ n
chosen_mod zero r n h = zero-mul (r % 2 ^ n) ∙ sym (ap (λ (x : ℕ). x % 2 ^ n) (zero-mul r) ∙ zero-mod (2 ^ n))
chosen_mod (suc zero) r n h = one-mul (r % 2 ^ n) ∙ sym (ap (λ (x : ℕ). x % 2 ^ n) (one-mul r))
chosen_mod (suc (suc d)) r n h = absurd (omega arith)

-- the word of cut rows is the word of the rows, cut
pub codeword-cut : (n : ℕ) (rows : List ℕ) (m : ℕ) → codeword (cut_to n rows) m ≡ codeword rows m % 2 ^ n
codeword-cut n [] m = sym (zero-mod (2 ^ n))
codeword-cut n (r ∷ rs) m = ap₂ bit_xor (chosen_mod (m % 2) r n (omega arith)) (codeword-cut n rs (m / 2)) ∙ sym (xor_mod (m % 2 * r) (codeword rs (m / 2)) n)

cut_below : (n : ℕ) (rows : List ℕ) (j : ℕ) → j < length rows → slice_index (cut_to n rows) j < 2 ^ n
cut_below n rows j h = let e : slice_index_or (cut_to n rows) j 0 ≡ slice_index rows j % 2 ^ n = get_or-map (λ w. w % 2 ^ n) rows j 0 0 h in let b = mod_below (slice_index rows j) (2 ^ n) (pow_pos n) in omega arith

-- how many rows a pile has
pub pile_count_lem : (n : ℕ) (below own : List ℕ) → length (pile_rows n below own) ≡ length below + length (take (max_rows - length below) own)
pile_count_lem n below own = length-append below (cut_to n (take (max_rows - length below) own)) ∙ ap (λ (k : ℕ). length below + k) (length-map (take (max_rows - length below) own) (λ w. w % 2 ^ n))

-- a pile on a lawful finder is one
pub pile_lawful : (by : Meaning) (own : List ℕ) → Lawful by → Lawful (piled by own)
pile_lawful by own l =
    let n = by.span in
    let below = by.rows in
    let read = take (max_rows - length below) own in
    let c = pile_count_lem n below own in
    let t = length-take (max_rows - length below) own in
    let s = l.small in
    let f = l.few in
    let p : 2 ^ length below ≤ 2 ^ length (pile_rows n below own) = pow_mono (omega arith) in
    record {
      sized = l.sized;
      few = omega arith;
      small = omega arith;
      within = λ j h. ⊎_elim
          (λ k. let e = get_or_append_left below (cut_to n read) 0 j k in let b = l.within j k in omega arith)
          (λ k. let e = get_or-append_right below (cut_to n read) (length below) j 0 refl k in let b = cut_below n read (j - length below) (omega arith) in omega arith)
          (cases_lt j (length below));
    }

-- a row below is a row of the pile
pub below_row : (r : Option ℕ) (below own : List ℕ) (n j : ℕ) → j < length below → MatchOption r (length below ≤ j) (λ w. (j < length below) × (w ≡ slice_index below j)) → MatchOption r (length (pile_rows n below own) ≤ j) (λ w. (j < length (pile_rows n below own)) × (w ≡ slice_index (pile_rows n below own) j))
below_row None below own n j l h = absurd (omega arith)
below_row (Some w) below own n j l h = (let e = pile_count_lem n below own in omega arith, h.1 ∙ sym (get_or_append_left below (cut_to n (take (max_rows - length below) own)) 0 j l))

-- a row of the layer, cut
pub own_row : (n : ℕ) (below own : List ℕ) (j : ℕ) → length below ≤ j → j - length below < length (take (max_rows - length below) own) → slice_index (take (max_rows - length below) own) (j - length below) % 2 ^ n ≡ slice_index (pile_rows n below own) j
own_row n below own j l h =
    sym (get_or-append_right below (cut_to n (take (max_rows - length below) own)) (length below) j 0 refl l ∙ get_or-map (λ w. w % 2 ^ n) (take (max_rows - length below) own) (j - length below) 0 0 h)

-- one row more in a layer that has room
pub pile_more : (n : ℕ) (below own : List ℕ) (row : ℕ) → length below + length own < max_rows → row < 2 ^ n → pile_rows n below (own ++ row ∷ []) ≡ pile_rows n below own ++ row ∷ []
pile_more n below own row room within =
    let l = length-append own (row ∷ []) in
    let all : take (max_rows - length below) (own ++ row ∷ []) ≡ own ++ row ∷ [] = take_all (max_rows - length below) (own ++ row ∷ []) (omega arith) in
    let old : own ≡ take (max_rows - length below) own = sym (take_all (max_rows - length below) own (omega arith)) in
    ap (λ (r : List ℕ). below ++ cut_to n r) all
    ∙ ap (λ (r : List ℕ). below ++ r) (map-append (λ w. w % 2 ^ n) own (row ∷ []))
    ∙ ap (λ (r : ℕ). below ++ (cut_to n own ++ (r ∷ []))) (mod-eq_of_lt within)
    ∙ sym (append_assoc below (cut_to n own) (row ∷ []))
    ∙ ap (λ (r : List ℕ). (below ++ cut_to n r) ++ (row ∷ [])) old

pub verdict-taken : (n k count row : ℕ) → row < 2 ^ n → count < layer_rows → k + count < max_rows → row_verdict n k count row ≡ Ok tt
verdict-taken n k count row a b c =
    cond-true (nat_lt row (2 ^ n)) _ _ (lt-ltb row (2 ^ n) a) ∙ cond-true (nat_lt count layer_rows) _ _ (lt-ltb count layer_rows b) ∙ cond-true (nat_lt (k + count) max_rows) _ _ (lt-ltb (k + count) max_rows c)

uncut : (n : ℕ) (rows : List ℕ) → Within n rows → cut_to n rows ≡ rows
uncut n [] w = refl
uncut n (r ∷ rs) w = ap₂ (λ (x : ℕ) (xs : List ℕ). x ∷ xs) (mod-eq_of_lt (w 0 (omega arith))) (uncut n rs (λ j h. w (suc j) (omega arith)))

-- rows without digits beyond the length, for which there is room, are read whole
pub pile_whole : (n : ℕ) (below own : List ℕ) → length below + length own ≤ max_rows → Within n own → pile_rows n below own ≡ below ++ own
pile_whole n below own room w = ap (λ (r : List ℕ). below ++ cut_to n r) (take_all (max_rows - length below) own (omega arith)) ∙ ap (λ (r : List ℕ). below ++ r) (uncut n own w)

take_within : (n k : ℕ) (rows : List ℕ) → Within n rows → Within n (take k rows)
take_within n k rows w j h =
    let l = length-take k rows in
    let lj : j < k = omega arith in
    let e = get_or-take k rows j 0 lj in
    let b = w j (omega arith) in
    omega arith

drop_within : (n k : ℕ) (rows : List ℕ) → Within n rows → Within n (drop k rows)
drop_within n k rows w j h =
    let l = length-drop k rows in
    let e = get_or-drop k rows j 0 in
    let b = w (k + j) (omega arith) in
    omega arith

-- two layers of at most eight rows, four in the first
pub two_piles : (n : ℕ) (below rows : List ℕ) → length rows ≤ 8 → length below + length rows ≤ max_rows → Within n rows → pile_rows n (pile_rows n below (take layer_rows rows)) (take layer_rows (drop layer_rows rows)) ≡ below ++ rows
two_piles n below rows few room w =
    let lower = take layer_rows rows in
    let upper = drop layer_rows rows in
    let a = length-take layer_rows rows in
    let b = length-drop layer_rows rows in
    let c = length-append below lower in
    let e : take layer_rows upper ≡ upper = take_all layer_rows upper (omega arith) in
    ap₂ (λ (p q : List ℕ). pile_rows n p q) (pile_whole n below lower (omega arith) (take_within n layer_rows rows w)) e
    ∙ pile_whole n (below ++ lower) upper (omega arith) (drop_within n layer_rows rows w)
    ∙ append_assoc below lower upper
    ∙ ap (λ (r : List ℕ). below ++ r) (take-append-drop layer_rows rows)

-- a list cut at the end of its first four
module _ (rows : List ℕ) (end : ℕ) (m : end ≡ min (length rows) layer_rows) where
  pub first_four : take layer_rows (take (end - 0) rows) ≡ take layer_rows rows
  first_four =
      ⊎_elim
      (λ (l : layer_rows < length rows). let e : end - 0 ≡ layer_rows = omega arith in ap (λ (k : ℕ). take layer_rows (take k rows)) e ∙ take-take layer_rows layer_rows rows (omega arith))
      (λ l. let e : length rows ≤ end - 0 = omega arith in ap (take layer_rows) (take_all (end - 0) rows e))
      (cases_lt layer_rows (length rows))

  pub last_four : take layer_rows (take (length rows - end) (drop end rows)) ≡ take layer_rows (drop layer_rows rows)
  last_four =
      let d = length-drop end rows in
      ap (take layer_rows) (take_all (length rows - end) (drop end rows) (omega arith))
      ∙ ⊎_elim
      (λ (l : layer_rows < length rows). let e : end ≡ layer_rows = omega arith in ap (λ (k : ℕ). take layer_rows (drop k rows)) e)
      (λ l. ap (take layer_rows) (drop_all end rows (omega arith) ∙ sym (drop_all layer_rows rows (omega arith))))
      (cases_lt layer_rows (length rows))

-- the last rows of a list within a length are within it
pub last_within : (n : ℕ) (xs ys : List ℕ) → Within n (xs ++ ys) → Within n ys
last_within n xs ys w j h =
    let l = length-append xs ys in
    let e = get_or-append-add xs ys j 0 in
    let b = w (length xs + j) (omega arith) in
    omega arith
