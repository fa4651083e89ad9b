-- What a list holds under a function, after a write and in its parts.
use Rattle.std.proofs.Common.{◌≡◌, ℕ, ◌+◌, ◌<◌, ◌≤◌, ◌≢◌, List, map, length, get_or, take, drop, set, sum_by, sym, ap, ◌∙◌, arith}
use Rattle.std.proofs.lemmas.List.{get_or-map, map-set, get_or-set_same, get_or-set_other, length-map, length-take, get_or-take, get_or-drop, length-drop, take-map, drop-map}
use Rattle.std.proofs.lemmas.List.Sums.{sum_by-take-drop, get_or-le-sum_by}

-- an element that was read
pub read_at : {R Y : Type 0} (f : R → Y) (xs : List R) (i : ℕ) (x : R) (e : Y) → i < length xs → x ≡ get_or xs i x → get_or (map f xs) i e ≡ f x
read_at f xs i x e h is = get_or-map f xs i x e h ∙ ap f (sym is)

pub same_at : {R Y : Type 0} (f : R → Y) (xs : List R) (i : ℕ) (y : R) (e : Y) → i < length xs → get_or (map f (set xs i y)) i e ≡ f y
same_at f xs i y e h = ap (λ l. get_or l i e) (map-set f xs i y) ∙ get_or-set_same (map f xs) i (f y) e (rw length-map h)

pub other_at : {R Y : Type 0} (f : R → Y) (xs : List R) (i j : ℕ) (y : R) (e : Y) → j ≢ i → get_or (map f (set xs i y)) j e ≡ get_or (map f xs) j e
other_at f xs i j y e n = ap (λ l. get_or l j e) (map-set f xs i y) ∙ get_or-set_other (map f xs) i j (f y) e n

-- two elements come to no more than the sum of all
pub two_le_sum_by : {R : Type 0} (f : R → ℕ) (xs : List R) (i j : ℕ) (x y : R) → i < j → j < length xs → f (get_or xs i x) + f (get_or xs j y) ≤ sum_by f xs
two_le_sum_by f xs i j x y h k =
    let a : f (get_or (take j xs) i x) ≤ sum_by f (take j xs) = get_or-le-sum_by f (take j xs) i x (simp length-take (omega arith)) in
    let b : f (get_or (drop j xs) 0 y) ≤ sum_by f (drop j xs) = get_or-le-sum_by f (drop j xs) 0 y (simp length-drop (omega arith)) in
    let a' : f (get_or xs i x) ≤ sum_by f (take j xs) = rw get_or-take at a in
    let b' : f (get_or xs (j + 0) y) ≤ sum_by f (drop j xs) = rw get_or-drop at b in
    let z : j + 0 ≡ j = omega arith in
    let b'' : f (get_or xs j y) ≤ sum_by f (drop j xs) = rw z at b' in
    omega (arith, sum_by-take-drop f xs j)

pub two_le_at : {R : Type 0} (f : R → ℕ) (xs : List R) (i j : ℕ) (x : R) → i < j → j < length xs → get_or (map f xs) i 0 + get_or (map f xs) j 0 ≤ sum_by f xs
two_le_at f xs i j x h k =
    let l : i < length xs = omega arith in
    let a = get_or-map f xs i x 0 l in
    let b = get_or-map f xs j x 0 k in
    omega (arith, two_le_sum_by f xs i j x x h k)

-- an element of the front and of the back
module _ {R Y : Type 0} (f : R → Y) (e : Y) where
  pub at_take : (h : ℕ) (xs : List R) (j : ℕ) → j < h → get_or (map f (take h xs)) j e ≡ get_or (map f xs) j e
  at_take h xs j l = ap (λ z. get_or z j e) (sym (take-map f h xs)) ∙ get_or-take h (map f xs) j e l

  pub at_drop : (h : ℕ) (xs : List R) (j : ℕ) → get_or (map f (drop h xs)) j e ≡ get_or (map f xs) (h + j) e
  at_drop h xs j = ap (λ z. get_or z j e) (sym (drop-map f h xs)) ∙ get_or-drop h (map f xs) j e
