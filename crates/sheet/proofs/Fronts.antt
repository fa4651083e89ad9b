-- A write to the covered cells, `&mut cells[0..n]`.
use Rattle.std.proofs.Common.{◌≡◌, ℕ, ◌+◌, ◌-◌, ◌<◌, min, List, ◌++◌, length, get_or, take, drop, sym, ap, ◌∙◌, arith}
use Rattle.code.specs.Limits.{max_places}
use Rattle.std.proofs.lemmas.List.{take-append-drop, same_lists, get_or-take, get_or-drop, get_or_append_left, get_or-append_right, length-take, length-drop, length-append}

module _ {X : Type 0} (xs ys : List X) (n : ℕ) (nis : n ≡ min max_places (length xs)) (yis : length ys ≡ n) where
  pub length_is : length (ys ++ drop n xs) ≡ length xs
  length_is = simp (length-append, length-drop) (omega arith)

  pub front_is : take max_places (ys ++ drop n xs) ≡ ys
  front_is = same_lists _ _ (simp (length-take, length-append, length-drop) (omega arith)) (λ k d h.
      let l : k < length ys = omega (arith, simp (length-take, length-append, length-drop) at h) in
      get_or-take max_places (ys ++ drop n xs) k d (omega arith) ∙ get_or_append_left ys (drop n xs) d k l)

  pub rest_is : drop max_places (ys ++ drop n xs) ≡ drop max_places xs
  rest_is = same_lists _ _ (simp (length-drop, length-append, length-drop) (omega arith)) (λ k d h.
      let l : k + max_places < length xs = omega (arith, simp (length-drop, length-append) at h) in
      get_or-drop max_places (ys ++ drop n xs) k d ∙ get_or-append_right ys (drop n xs) n (max_places + k) d yis (omega arith)
      ∙ get_or-drop n xs (max_places + k - n) d ∙ ap (λ i. get_or xs i d) (let e : n + (max_places + k - n) ≡ max_places + k = omega arith in e)
      ∙ sym (get_or-drop max_places xs k d))

module _ {X : Type 0} (xs : List X) (n : ℕ) (nis : n ≡ min max_places (length xs)) where
  pub part_is : take n xs ≡ take max_places xs
  part_is = same_lists _ _ (simp length-take (omega arith)) (λ k d h.
      let l : k < n = omega (arith, simp length-take at h) in
      get_or-take n xs k d (omega arith) ∙ sym (get_or-take max_places xs k d (omega arith)))

pub put_back : {X : Type 0} (xs ys : List X) (n : ℕ) → ys ≡ take n xs → ys ++ drop n xs ≡ xs
put_back xs ys n e = ap (λ zs. zs ++ drop n xs) e ∙ take-append-drop n xs
