-- One more butterfly of a block.
use Rattle.std.proofs.Common.{◌≡◌, ℕ, ◌+◌, ◌-◌, ◌<◌, ◌≤◌, ◌≢◌, List, ◌++◌, map, length, get_or, set, pos, ◌+ℤ◌, neg_ℤ, sum_by, sym, ap, ◌∙◌, ap₂, subst, arith, below_more, length-append}
use Rattle.std.proofs.lemmas.List.{length-set, get_or_append_left, get_or-append_right, set-append_left, set-append_right}
use Rattle.hadamard.specs.Transform.{weight_at, size_at}
use Rattle.hadamard.specs.Stages.{Crossed}
use Rattle.hadamard.proofs.Entries.{read_at, same_at, other_at, two_le_at}
use Rattle.reading.specs.declared.Reading.{Ghosts as Kind}

module _ {R : Type 0} (kind : Kind R) (h k : ℕ) (old cur : List R) (long : length cur ≡ h + h) (low : k < h) where
  module _ {Y : Type 0} (f : R → Y) (e : Y) (s d : R) where
    at_low : get_or (map f (set (set cur k s) (h + k) d)) k e ≡ f s
    at_low =
        let n : k ≢ h + k = omega arith in
        other_at f (set cur k s) (h + k) k d e n ∙ same_at f cur k s e (omega arith)

    at_high : get_or (map f (set (set cur k s) (h + k) d)) (h + k) e ≡ f d
    at_high = same_at f (set cur k s) (h + k) d e (simp length-set (omega arith))

    at_else : (j : ℕ) → j ≢ k → j ≢ h + k → get_or (map f (set (set cur k s) (h + k) d)) j e ≡ get_or (map f cur) j e
    at_else j n m = other_at f (set cur k s) (h + k) j d e m ∙ other_at f cur k j s e n

  pub cross_step : (inv : Crossed kind h k old cur) (s d : R) → kind.weight s ≡ weight_at kind.weight old k +ℤ weight_at kind.weight old (h + k) → kind.weight d ≡ weight_at kind.weight old k +ℤ neg_ℤ (weight_at kind.weight old (h + k)) → kind.size s ≤ size_at kind.size old k + size_at kind.size old (h + k) → kind.size d ≤ size_at kind.size old k + size_at kind.size old (h + k) → Crossed kind h (k + 1) old (set (set cur k s) (h + k) d)
  cross_step inv s d ws wd bs bd = record {
    sum = below_more _ _ (λ j l. at_else kind.weight (pos 0) s d j (omega arith) (omega arith) ∙ inv.sum j l) (at_low kind.weight (pos 0) s d ∙ ws);
    difference = below_more _ _ (λ j l. at_else kind.weight (pos 0) s d (h + j) (omega arith) (omega arith) ∙ inv.difference j l) (at_high kind.weight (pos 0) s d ∙ wd);
    sum_size = below_more _ _ (λ j l. let e = at_else kind.size 0 s d j (omega arith) (omega arith) in omega (arith, inv.sum_size j l)) (let e = at_low kind.size 0 s d in omega arith);
    difference_size = below_more _ _ (λ j l. let e = at_else kind.size 0 s d (h + j) (omega arith) (omega arith) in omega (arith, inv.difference_size j l)) (let e = at_high kind.size 0 s d in omega arith);
    lower = λ j a b. (at_else kind.weight (pos 0) s d j (omega arith) (omega arith) ∙ (inv.lower j (omega arith) b).0, at_else kind.size 0 s d j (omega arith) (omega arith) ∙ (inv.lower j (omega arith) b).1);
    upper = λ j a b. (at_else kind.weight (pos 0) s d (h + j) (omega arith) (omega arith) ∙ (inv.upper j (omega arith) b).0, at_else kind.size 0 s d (h + j) (omega arith) (omega arith) ∙ (inv.upper j (omega arith) b).1);
  }

-- the next butterfly, at a block in two halves
module _ {R : Type 0} (kind : Kind R) (h k : ℕ) (old low high : List R) (low_long : length low ≡ h) (high_long : length high ≡ h) (less : k < h) (x y : R) (x-is : x ≡ get_or low k x) (y-is : y ≡ get_or high k y) (inv : Crossed kind h k old (low ++ high)) where
  long : length (low ++ high) ≡ h + h
  long = simp length-append (omega arith)

  at_x : {Y : Type 0} (f : R → Y) (e : Y) → get_or (map f (low ++ high)) k e ≡ f x
  at_x f e = read_at f (low ++ high) k x e (omega (arith, long)) (x-is ∙ sym (get_or_append_left low high x k (omega arith)))

  at_y : {Y : Type 0} (f : R → Y) (e : Y) → get_or (map f (low ++ high)) (h + k) e ≡ f y
  at_y f e =
      let z : h + k - h ≡ k = omega arith in
      read_at f (low ++ high) (h + k) y e (omega (arith, long)) (y-is ∙ ap (λ j. get_or high j y) (sym z) ∙ sym (get_or-append_right low high h (h + k) y low_long (omega arith)))

  pub pair_small : length old ≡ h + h → kind.size x + kind.size y ≤ sum_by kind.size old
  pair_small l =
      let a = at_x kind.size 0 in
      let b = at_y kind.size 0 in
      omega (arith, two_le_at kind.size old k (h + k) x (omega arith) (omega arith), (inv.lower k (omega arith) less).1, (inv.upper k (omega arith) less).1)

  pub halves_step : (s d : R) → kind.weight s ≡ kind.weight x +ℤ kind.weight y → kind.weight d ≡ kind.weight x +ℤ neg_ℤ (kind.weight y) → kind.size s ≤ kind.size x + kind.size y → kind.size d ≤ kind.size x + kind.size y → Crossed kind h (k + 1) old (set low k s ++ set high k d)
  halves_step s d ws wd bs bd =
      let wx = sym (at_x kind.weight (pos 0)) ∙ (inv.lower k (omega arith) less).0 in
      let wy = sym (at_y kind.weight (pos 0)) ∙ (inv.upper k (omega arith) less).0 in
      let sx = sym (at_x kind.size 0) ∙ (inv.lower k (omega arith) less).1 in
      let sy = sym (at_y kind.size 0) ∙ (inv.upper k (omega arith) less).1 in
      let z : h + k - h ≡ k = omega arith in
      let sets : set (set (low ++ high) k s) (h + k) d ≡ set low k s ++ set high k d =
      ap (λ l. set l (h + k) d) (set-append_left low high k s (omega arith))
      ∙ set-append_right (set low k s) high h (h + k) d (simp length-set low_long) (omega arith)
      ∙ ap (λ j. set low k s ++ set high j d) z in
      subst (Crossed kind h (k + 1) old) sets
      (cross_step kind h k old (low ++ high) long less inv s d
      (ws ∙ ap₂ (λ u v. u +ℤ v) wx wy) (wd ∙ ap₂ (λ u v. u +ℤ neg_ℤ v) wx wy)
      (omega arith) (omega arith))
