-- A word whose readings are replaced by their opposites at some places.
use Rattle.std.proofs.Common.{◌≡◌, ℕ, ◌+◌, ◌/◌, ◌<◌, ◌≤◌, Bool, true, false, cond, List, [], ◌∷◌, ◌++◌, map, length, get_or, take, drop, set, ℤ, sym, refl, ap, ◌∙◌, ap₂, arith}
use Rattle.std.specs.List.{AllByRecursion}
use Rattle.std.proofs.lemmas.List.{append_assoc, drop-drop, drop-set-lt, take_more_set, drop_more, drop_all, take_all, append-nil, get_or-drop}
use Rattle.code.specs.Limits.{sum_limit}
use Rattle.code.specs.Words.{odd, negated_if, negated_at}
use Rattle.reading.specs.Opposites.{Opposites}
use Rattle.coset_layer.specs.Pile.{opposite_at}

module _ {R : Type 0} (weight : R → ℤ) (size : R → ℕ) (op : R → R) (o : Opposites weight size op) where
  weight_one : (x : R) (p : Bool) → size x ≤ sum_limit → weight (cond p (op x) x) ≡ negated_if p (weight x)
  weight_one x true h = o.negates x h
  weight_one x false h = refl

  pub weights_at : (xs : List R) (c : ℕ) → AllByRecursion (λ x. size x ≤ sum_limit) xs → map weight (opposite_at op xs c) ≡ negated_at (map weight xs) c
  weights_at [] c h = refl
  weights_at (x ∷ xs) c h = ap₂ (λ z zs. z ∷ zs) (weight_one x (odd c) h.0) (weights_at xs (c / 2) h.1)

  size_one : (x : R) (p : Bool) → size x ≤ sum_limit → size (cond p (op x) x) ≡ size x
  size_one x true h = o.sized x h
  size_one x false h = refl

  pub sizes_at : (xs : List R) (c : ℕ) → AllByRecursion (λ x. size x ≤ sum_limit) xs → map size (opposite_at op xs c) ≡ map size xs
  sizes_at [] c h = refl
  sizes_at (x ∷ xs) c h = ap₂ (λ z zs. z ∷ zs) (size_one x (odd c) h.0) (sizes_at xs (c / 2) h.1)

  pub small_at : (xs : List R) (c : ℕ) → AllByRecursion (λ x. size x ≤ sum_limit) xs → AllByRecursion (λ x. size x ≤ sum_limit) (opposite_at op xs c)
  small_at [] c h = tt
  small_at (x ∷ xs) c h = (let e = size_one x (odd c) h.0 in let k = h.0 in omega arith, small_at xs (c / 2) h.1)

  twice_one : (x : R) (p : Bool) → size x ≤ sum_limit → cond p (op (cond p (op x) x)) (cond p (op x) x) ≡ x
  twice_one x true h = o.twice x h
  twice_one x false h = refl

  pub twice_at : (xs : List R) (c : ℕ) → AllByRecursion (λ x. size x ≤ sum_limit) xs → opposite_at op (opposite_at op xs c) c ≡ xs
  twice_at [] c h = refl
  twice_at (x ∷ xs) c h = ap₂ (λ z zs. z ∷ zs) (twice_one x (odd c) h.0) (twice_at xs (c / 2) h.1)

drop_next : {R : Type 0} (xs ys : List R) (i : ℕ) → drop i xs ≡ drop i ys → drop (i + 1) xs ≡ drop (i + 1) ys
drop_next xs ys i e = sym (drop-drop 1 i xs) ∙ ap (drop 1) e ∙ drop-drop 1 i ys

-- one reading more
module _ {R : Type 0} (op : R → R) (xs : List R) (i rest : ℕ) (d : R) (h : i < length xs) (v : R) (ys : List R) (is : ys ≡ set xs i v) where
  pub opposite_step : v ≡ cond (odd rest) (op (get_or xs i d)) (get_or xs i d) → take (i + 1) ys ++ opposite_at op (drop (i + 1) ys) (rest / 2) ≡ take i xs ++ opposite_at op (drop i xs) rest
  opposite_step f =
      let left : take (i + 1) ys ≡ take i xs ++ v ∷ [] = ap (take (i + 1)) is ∙ take_more_set xs i v h in
      let right : drop (i + 1) ys ≡ drop (i + 1) xs = ap (drop (i + 1)) is ∙ drop-set-lt (i + 1) xs i v (omega arith) in
      ap₂ (λ (l m : List R). l ++ opposite_at op m (rest / 2)) left right
      ∙ append_assoc (take i xs) (v ∷ []) (opposite_at op (drop (i + 1) xs) (rest / 2))
      ∙ ap (λ (u : R). take i xs ++ (u ∷ opposite_at op (drop (i + 1) xs) (rest / 2))) f
      ∙ ap (λ (l : List R). take i xs ++ opposite_at op l rest) (sym (drop_more xs i d h))

  pub rest_step : (zs : List R) → drop i xs ≡ drop i zs → drop (i + 1) ys ≡ drop (i + 1) zs
  rest_step zs f = ap (drop (i + 1)) is ∙ drop-set-lt (i + 1) xs i v (omega arith) ∙ drop_next xs zs i f

pub rest_same : {R : Type 0} (xs ys : List R) (i : ℕ) (d : R) → drop i xs ≡ drop i ys → get_or xs i d ≡ get_or ys i d
rest_same {R = R} xs ys i d e =
    let z : i ≡ i + 0 = omega arith in
    ap (λ (k : ℕ). get_or xs k d) z ∙ sym (get_or-drop i xs 0 d) ∙ ap (λ (l : List R). get_or l 0 d) e ∙ get_or-drop i ys 0 d ∙ ap (λ (k : ℕ). get_or ys k d) (sym z)

pub opposite_done : {R : Type 0} (op : R → R) (xs : List R) (i rest : ℕ) → length xs ≤ i → take i xs ++ opposite_at op (drop i xs) rest ≡ xs
opposite_done {R = R} op xs i rest h = ap₂ (λ (l m : List R). l ++ opposite_at op m rest) (take_all i xs h) (drop_all i xs h) ∙ append-nil xs
