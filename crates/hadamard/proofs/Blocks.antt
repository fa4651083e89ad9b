-- A list in blocks of one length.
use Rattle.std.proofs.Common.{◌≡◌, ℕ, ◌+◌, ◌*◌, ◌/◌, ◌%◌, ◌^◌, ◌<◌, ◌≤◌, List, [], ◌∷◌, ◌++◌, map, length, get_or, take, drop, ℤ, pos, ◌+ℤ◌, sum_by, sym, refl, ap, ◌∙◌, subst, mul-le-mul_right, add-mul, mul-add, arith, below_more}
use native.Mathlib.Decide.{dec_lt}
use borrow.Rule.Slice.PartMut.{put_mid, post_of}
use lib.IntN.{+ℤ_idl}
use Rattle.std.proofs.lemmas.List.{take_all, take-take, take_at, drop_at, drop-drop, drop-take, length-take-le, length-drop, length-map}
use Rattle.std.proofs.lemmas.List.FromFn.{fill_by_all}
use Rattle.std.proofs.lemmas.Slice.{take-put_mid_below, drop-put_mid}
use Rattle.code.specs.Words.{odd, negated_if}
use Rattle.hadamard.specs.Transform.{Transformed, weight_at, size_at, spectrum}
use Rattle.hadamard.specs.Stages.{Crossed, Staged, Blocked, block}
use Rattle.hadamard.proofs.Entries.{at_take, at_drop}
use Rattle.hadamard.proofs.Signs.{ones_0}
use Rattle.hadamard.proofs.Halves.{front_total, back_total, front_spectrum, back_spectrum}
use Rattle.reading.specs.declared.Reading.{Ghosts as Kind}

-- block b of n ends within the list
pub fits : (width n b m : ℕ) → b < n → m ≡ n * width → b * width + width ≤ m
fits width n b m l e =
    let l' : b + 1 ≤ n = omega arith in
    omega (arith, mul-le-mul_right width l', add-mul b 1 width)

-- and before any later one begins
pub before : (width b k : ℕ) → b < k → b * width + width ≤ k * width
before width b k l = fits width k b (k * width) l refl

pub block_long : {R : Type 0} (width n b : ℕ) (xs : List R) → b < n → length xs ≡ n * width → length (block width b xs) ≡ width
block_long width n b xs l e = let f = fits width n b (length xs) l e in length-take-le width (drop (b * width) xs) (simp length-drop (omega arith))

-- a write to one block
module _ {R : Type 0} (width k : ℕ) (xs ys : List R) (long : length ys ≡ width) (within : k * width ≤ length xs) where
  pub block_same : block width k (put_mid (k * width) width xs ys) ≡ ys
  block_same =
      ap (take width) (drop_at (take (k * width) xs) (ys ++ post_of (k * width) width xs) (k * width) (length-take-le (k * width) xs within))
      ∙ take_at ys (post_of (k * width) width xs) width long

  pub block_below : (b : ℕ) → b < k → block width b (put_mid (k * width) width xs ys) ≡ block width b xs
  block_below b l =
      sym (drop-take (b * width) width (put_mid (k * width) width xs ys))
      ∙ ap (drop (b * width)) (take-put_mid_below (k * width) width xs ys (b * width + width) (before width b k l) within)
      ∙ drop-take (b * width) width xs

  pub block_above : (b : ℕ) → k < b → block width b (put_mid (k * width) width xs ys) ≡ block width b xs
  block_above b l = ap (take width) (drop-put_mid (k * width) width xs ys (b * width) (before width k b l) within long)

-- one more block is crossed
pub stage_step : {R : Type 0} (kind : Kind R) (h n k : ℕ) (old cur ys : List R) → length ys ≡ h + h → k * (h + h) ≤ length cur → k < n → Staged kind h n k old cur → Crossed kind h h (block (h + h) k cur) ys → Staged kind h n (k + 1) old (put_mid (k * (h + h)) (h + h) cur ys)
stage_step kind h n k old cur ys long within low inv new = record {
  crossed = below_more _ _
      (λ b l. subst (λ (z : List _). Crossed kind h h (block (h + h) b old) z) (sym (block_below (h + h) k cur ys long within b l)) (inv.crossed b l))
      (subst (λ (z : List _). Crossed kind h h (block (h + h) k old) z) (sym (block_same (h + h) k cur ys long within))
      (subst (λ (z : List _). Crossed kind h h z ys) (inv.rest k (omega arith) low) new));
  rest = λ b a l. block_above (h + h) k cur ys long within b (omega arith) ∙ inv.rest b (omega arith) l;
}

-- the two halves of a block
twice : (b h : ℕ) → b * (h + h) ≡ (b + b) * h
twice b h = omega (arith, mul-add b h h, add-mul b b h)

pub block-front : {R : Type 0} (h b : ℕ) (xs : List R) → take h (block (h + h) b xs) ≡ block h (b + b) xs
block-front h b xs = take-take h (h + h) (drop (b * (h + h)) xs) (omega arith) ∙ ap (λ m. take h (drop m xs)) (twice b h)

pub block_back : {R : Type 0} (h b : ℕ) (xs : List R) → drop h (block (h + h) b xs) ≡ block h (b + b + 1) xs
block_back h b xs =
    let e : b * (h + h) + h ≡ (b + b + 1) * h = omega (arith, twice b h, add-mul (b + b) 1 h) in
    drop-take h h (drop (b * (h + h)) xs) ∙ ap (take h) (drop-drop h (b * (h + h)) xs) ∙ ap (λ m. take h (drop m xs)) e

-- what holds of the numbers b + b and b + b + 1 holds of all
even_odd : (P : ℕ → Type 0) (n : ℕ) → ((b : ℕ) → b < n → P (b + b)) → ((b : ℕ) → b < n → P (b + b + 1)) → (c : ℕ) → c < n * 2 → P c
even_odd P n p q c l =
    elim (dec_lt (c % 2) 1) [
      | yes a ↦ let e : c / 2 + c / 2 ≡ c = omega arith in subst P e (p (c / 2) (omega arith))
      | no a ↦ let e : c / 2 + c / 2 + 1 ≡ c = omega arith in subst P e (q (c / 2) (omega arith))
    ]

-- one stride over all blocks
module _ {R : Type 0} (kind : Kind R) (t h n : ℕ) (old cur new : List R) (power : h ≡ 2 ^ t) (long : length cur ≡ n * (h + h)) (same : length new ≡ length cur) (inv : Blocked kind (h + h) n old cur) (staged : Staged kind h n n cur new) where
  module _ (b : ℕ) (l : b < n) where
    was_long : length (block (h + h) b cur) ≡ h + h
    was_long = block_long (h + h) n b cur l long

    is_long : length (block (h + h) b new) ≡ length (block (h + h) b cur)
    is_long = block_long (h + h) n b new l (same ∙ long) ∙ sym was_long

    front_weighs : (i : ℕ) → i < h → spectrum (map kind.weight (block h (b + b) new)) i ≡ spectrum (map kind.weight old) ((b + b) * h + i)
    front_weighs i hi =
        ap (λ z. spectrum (map kind.weight z) i) (sym (block-front h b new))
        ∙ front_spectrum kind h (block (h + h) b cur) (block (h + h) b new) was_long is_long (staged.crossed b l) t power i hi
        ∙ inv.weighs b i l (omega arith)
        ∙ ap (λ m. spectrum (map kind.weight old) (m + i)) (twice b h)

    back_weighs : (i : ℕ) → i < h → spectrum (map kind.weight (block h (b + b + 1) new)) i ≡ spectrum (map kind.weight old) ((b + b + 1) * h + i)
    back_weighs i hi =
        let e : b * (h + h) + (h + i) ≡ (b + b + 1) * h + i = omega (arith, twice b h, add-mul (b + b) 1 h) in
        ap (λ z. spectrum (map kind.weight z) i) (sym (block_back h b new))
        ∙ back_spectrum kind h (block (h + h) b cur) (block (h + h) b new) was_long is_long (staged.crossed b l) t power i hi
        ∙ inv.weighs b (h + i) l (omega arith)
        ∙ ap (spectrum (map kind.weight old)) e

    front_small : sum_by kind.size (block h (b + b) new) ≤ sum_by kind.size old
    front_small =
        let e = ap (sum_by kind.size) (block-front h b new) in
        omega (arith, front_total kind h (block (h + h) b cur) (block (h + h) b new) was_long is_long (staged.crossed b l), inv.small b l)

    back_small : sum_by kind.size (block h (b + b + 1) new) ≤ sum_by kind.size old
    back_small =
        let e = ap (sum_by kind.size) (block_back h b new) in
        omega (arith, back_total kind h (block (h + h) b cur) (block (h + h) b new) was_long is_long (staged.crossed b l), inv.small b l)

  pub stride : Blocked kind h (n * 2) old new
  stride = record {
    weighs = λ b i l hi. even_odd (λ c. (i : ℕ) → i < h → spectrum (map kind.weight (block h c new)) i ≡ spectrum (map kind.weight old) (c * h + i)) n front_weighs back_weighs b l i hi;
    small = even_odd (λ c. sum_by kind.size (block h c new) ≤ sum_by kind.size old) n front_small back_small;
  }

-- one block, the list
pub blocked_start : {R : Type 0} (kind : Kind R) (xs : List R) → Blocked kind (length xs) 1 xs xs
blocked_start kind xs =
    let whole : take (length xs) xs ≡ xs = take_all (length xs) xs (omega arith) in
    let at : (b : ℕ) → b < 1 → block (length xs) b xs ≡ xs = λ b l. let z : b * length xs ≡ 0 = (let y : b ≡ 0 = omega arith in ap (λ m. m * length xs) y ∙ omega arith) in ap (λ m. take (length xs) (drop m xs)) z ∙ whole in
    record {
      weighs = λ b i l hi. let z : i ≡ b * length xs + i = (let y : b ≡ 0 = omega arith in let w : b * length xs ≡ 0 = ap (λ m. m * length xs) y ∙ omega arith in omega arith) in ap (λ z. spectrum (map kind.weight z) i) (at b l) ∙ ap (spectrum (map kind.weight xs)) z;
      small = λ b l. let e = ap (sum_by kind.size) (at b l) in omega arith;
    }

-- a list of one entry is its own transform
single_weight : (ws : List ℤ) → length ws ≡ 1 → get_or ws 0 (pos 0) ≡ spectrum ws 0
single_weight [] e = absurd (omega arith)
single_weight (w ∷ []) e = sym (ap (λ (n : ℕ). pos 0 +ℤ negated_if (odd n) w) ones_0 ∙ +ℤ_idl w)
single_weight (w ∷ (v ∷ ws)) e = absurd (omega arith)

single_size : {R : Type 0} (size : R → ℕ) (xs : List R) → length xs ≡ 1 → size_at size xs 0 ≤ sum_by size xs
single_size size [] e = absurd (omega arith)
single_size size (x ∷ []) e = omega arith
single_size size (x ∷ (y ∷ ys)) e = absurd (omega arith)

-- blocks of one entry: the transform is done
module _ {R : Type 0} (kind : Kind R) (n : ℕ) (old new : List R) (long : length old ≡ n) (same : length new ≡ length old) (inv : Blocked kind 1 n old new) where
  held : {Y : Type 0} (f : R → Y) (e : Y) (i : ℕ) → get_or (map f new) i e ≡ get_or (map f (block 1 i new)) 0 e
  held f e i =
      let z : i ≡ i * 1 + 0 = omega arith in
      ap (λ m. get_or (map f new) m e) z ∙ sym (at_drop f e (i * 1) new 0) ∙ sym (at_take f e 1 (drop (i * 1) new) 0 (omega arith))

  one_long : (i : ℕ) → i < n → length (block 1 i new) ≡ 1
  one_long i l = block_long 1 n i new l (omega arith)

  entry_weighs : (i : ℕ) → i < n → weight_at kind.weight new i ≡ spectrum (map kind.weight old) i
  entry_weighs i l =
      let z : i * 1 + 0 ≡ i = omega arith in
      held kind.weight (pos 0) i
      ∙ single_weight (map kind.weight (block 1 i new)) (length-map (block 1 i new) kind.weight ∙ one_long i l)
      ∙ inv.weighs i 0 l (omega arith)
      ∙ ap (spectrum (map kind.weight old)) z

  pub blocked_end : Transformed kind old new
  blocked_end = record {
    weights = fill_by_all (spectrum (map kind.weight old)) (map kind.weight new) (length (map kind.weight old)) (pos 0)
        (length-map new kind.weight ∙ same ∙ sym (length-map old kind.weight))
        (λ k l. let h = length-map old kind.weight in entry_weighs k (omega arith));
    small = λ i l.
        let e = held kind.size 0 i in
        omega (arith, single_size kind.size (block 1 i new) (one_long i (omega arith)), inv.small i (omega arith));
  }
