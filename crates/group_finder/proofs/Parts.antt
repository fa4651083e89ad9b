-- Several lists, one after the other.
use Rattle.std.proofs.Common.{◌≡◌, ℕ, ◌+◌, ◌*◌, ◌<◌, ◌≤◌, List, ◌++◌, map, length, get_or, take, drop, ℤ, pos, sum_by, sym, ap, ◌∙◌, subst, ⊎_elim, mul-le-mul_right, add-mul, arith}
use borrow.Rule.Slice.PartMut.{put_mid, post_of}
use lib.Arith.{digits_lt}
use Rattle.code.specs.Limits.{sum_limit}
use Rattle.std.proofs.lemmas.List.{map-append, get_or_append_left, get_or-append-add, length-map, length-take-le, length-drop, drop-drop, get_or-take, take-map}
use Rattle.std.proofs.lemmas.Slice.{drop-put_mid}
use Rattle.std.proofs.lemmas.List.Sums.{sum_by-take-le, sum_by-take-drop}
use Rattle.std.proofs.lemmas.Bool.{cases_lt}
use Rattle.std.proofs.lemmas.List.FromFn.{get_or-map-range_with_len}
use Rattle.hadamard.specs.Transform.{weight_at, size_at, spectrum, Transformed}
use Rattle.group_finder.specs.Choices.{PartsDone}
use Rattle.reading.specs.declared.Reading.{Ghosts as Kind}

module _ {X Y : Type 0} (f : X → Y) (d : Y) (a k : ℕ) (xs ys : List X) (in-range : a ≤ length xs) where
  put_below : (i : ℕ) → i < a → get_or (map f (put_mid a k xs ys)) i d ≡ get_or (map f xs) i d
  put_below i l =
      let n : length (take a xs) ≡ a = length-take-le a xs in-range in
      let m = length-map (take a xs) f in
      ap (λ z. get_or z i d) (map-append f (take a xs) (ys ++ post_of a k xs)) ∙ get_or_append_left (map f (take a xs)) (map f (ys ++ post_of a k xs)) d i (omega arith)
      ∙ ap (λ z. get_or z i d) (sym (take-map f a xs)) ∙ get_or-take a (map f xs) i d l

  put_inside : (i : ℕ) → i < length ys → get_or (map f (put_mid a k xs ys)) (a + i) d ≡ get_or (map f ys) i d
  put_inside i l =
      let n : length (map f (take a xs)) ≡ a = length-map (take a xs) f ∙ length-take-le a xs in-range in
      let m = length-map ys f in
      ap (λ z. get_or z (a + i) d) (map-append f (take a xs) (ys ++ post_of a k xs))
      ∙ ap (λ (j : ℕ). get_or (map f (take a xs) ++ map f (ys ++ post_of a k xs)) (j + i) d) (sym n)
      ∙ get_or-append-add (map f (take a xs)) (map f (ys ++ post_of a k xs)) i d
      ∙ ap (λ z. get_or z i d) (map-append f ys (post_of a k xs)) ∙ get_or_append_left (map f ys) (map f (post_of a k xs)) d i (omega arith)

module _ {R : Type 0} (kind : Kind R) (span q count : ℕ) (old cur ys : List R) (long : length cur ≡ count * span) (low : q < count) (rest : drop (q * span) cur ≡ drop (q * span) old) where
  pub room : q * span + span ≤ count * span
  room = (let e = add-mul q 1 span in let h : (q + 1) * span ≤ count * span = mul-le-mul_right span (omega arith) in omega arith)

  pub part_same : take span (drop (q * span) cur) ≡ take span (drop (q * span) old)
  part_same = ap (take span) rest

  pub part_long : length (take span (drop (q * span) cur)) ≡ span
  part_long = length-take-le span (drop (q * span) cur) (let l = length-drop (q * span) cur in let r = room in omega arith)

  pub part_small : sum_by kind.size old ≤ sum_limit → sum_by kind.size (take span (drop (q * span) old)) ≤ sum_limit
  part_small h = omega (arith, sum_by-take-le kind.size (drop (q * span) old) span, sum_by-take-drop kind.size old (q * span))

  module _ (lys : length ys ≡ span) (done : PartsDone kind span q old cur) (tr : Transformed kind (take span (drop (q * span) old)) ys) where
    next : List R
    next = put_mid (q * span) span cur ys

    pub parts_step : PartsDone kind span (q + 1) old (put_mid (q * span) span cur ys)
    parts_step =
        let r = room in
        let lp : length (take span (drop (q * span) old)) ≡ span = ap length (sym part_same) ∙ part_long in
        let lm = length-map (take span (drop (q * span) old)) kind.weight in
        let here : (j : ℕ) → q ≤ j → j < q + 1 → j ≡ q = λ j a b. omega arith in
        record {
          weighs = λ j l t k. ⊎_elim
              (λ b. put_below kind.weight (pos 0) (q * span) span cur ys (omega arith) (j * span + t) (digits_lt b k) ∙ done.weighs j b t k)
              (λ b. subst (λ (i : ℕ). weight_at kind.weight (put_mid (q * span) span cur ys) (i * span + t) ≡ spectrum (map kind.weight (take span (drop (i * span) old))) t) (sym (here j b l))
              (put_inside kind.weight (pos 0) (q * span) span cur ys (omega arith) t (omega arith)
              ∙ ap (λ (v : List ℤ). get_or v t (pos 0)) tr.weights
              ∙ get_or-map-range_with_len (spectrum (map kind.weight (take span (drop (q * span) old)))) 0 (length (map kind.weight (take span (drop (q * span) old)))) t t (pos 0) (omega arith) (omega arith)))
              (cases_lt j q);
          small = λ j l t k. ⊎_elim
              (λ b. let e = put_below kind.size 0 (q * span) span cur ys (omega arith) (j * span + t) (digits_lt b k) in let f = done.small j b t k in omega arith)
              (λ b. subst (λ (i : ℕ). size_at kind.size (put_mid (q * span) span cur ys) (i * span + t) ≤ sum_by kind.size (take span (drop (i * span) old))) (sym (here j b l))
              (let e = put_inside kind.size 0 (q * span) span cur ys (omega arith) t (omega arith) in let f = tr.small t (omega arith) in omega arith))
              (cases_lt j q);
        }

    pub parts_rest : drop ((q + 1) * span) (put_mid (q * span) span cur ys) ≡ drop ((q + 1) * span) old
    parts_rest =
        let r = room in
        let e : q * span + span ≡ (q + 1) * span = (let m = add-mul q 1 span in omega arith) in
        drop-put_mid (q * span) span cur ys ((q + 1) * span) (omega arith) (omega arith) lys
        ∙ ap (λ (j : ℕ). drop j cur) (sym e) ∙ sym (drop-drop span (q * span) cur) ∙ ap (drop span) rest ∙ drop-drop span (q * span) old ∙ ap (λ (j : ℕ). drop j old) e
