-- The transform of a list by the transforms of two of half its length.
use Rattle.std.proofs.Common.{◌≡◌, ℕ, ◌+◌, ◌^◌, ◌<◌, ◌≤◌, List, map, length, take, drop, pos, ◌+ℤ◌, neg_ℤ, sum_by, sym, ap, ◌∙◌, subst, arith}
use Rattle.std.proofs.lemmas.List.{length-map, length-take-le, length-drop}
use Rattle.code.specs.Words.{negated_if}
use Rattle.hadamard.specs.Transform.{weight_at, size_at, summed, odd_common, spectrum}
use Rattle.hadamard.specs.Stages.{Crossed}
use Rattle.hadamard.proofs.Entries.{at_take, at_drop}
use Rattle.hadamard.proofs.Sums.{summed_ext, counted, sum_by-counted, counted_le, counted_pairs, counted_split}
use Rattle.hadamard.proofs.Signs.{low_half, high_half}
use Rattle.reading.specs.declared.Reading.{Ghosts as Kind}

module _ {R : Type 0} (kind : Kind R) (h : ℕ) (old mid : List R) (long : length old ≡ h + h) (same : length mid ≡ length old) (crossed : Crossed kind h h old mid) where
  pairs_total : counted h (λ j. size_at kind.size old j + size_at kind.size old (h + j)) ≡ sum_by kind.size old
  pairs_total =
      counted_pairs h h (size_at kind.size old) ∙ sym (counted_split h h (size_at kind.size old)) ∙ ap (λ n. counted n (size_at kind.size old)) (sym long) ∙ sym (sum_by-counted kind.size old)

  pub front_long : length (take h mid) ≡ h
  front_long = length-take-le h mid (omega arith)

  pub back_long : length (drop h mid) ≡ h
  back_long = length-drop h mid ∙ omega arith

  pub front_total : sum_by kind.size (take h mid) ≤ sum_by kind.size old
  front_total =
      let a = sum_by-counted kind.size (take h mid) ∙ ap (λ n. counted n (size_at kind.size (take h mid))) front_long in
      let b = counted_le h (size_at kind.size (take h mid)) (λ j. size_at kind.size old j + size_at kind.size old (h + j)) (λ j l. let e = at_take kind.size 0 h mid j l in omega (arith, crossed.sum_size j l)) in
      omega (arith, pairs_total)

  pub back_total : sum_by kind.size (drop h mid) ≤ sum_by kind.size old
  back_total =
      let a = sum_by-counted kind.size (drop h mid) ∙ ap (λ n. counted n (size_at kind.size (drop h mid))) back_long in
      let b = counted_le h (size_at kind.size (drop h mid)) (λ j. size_at kind.size old j + size_at kind.size old (h + j)) (λ j l. let e = at_drop kind.size 0 h mid j in omega (arith, crossed.difference_size j l)) in
      omega (arith, pairs_total)

  module _ (t : ℕ) (power : h ≡ 2 ^ t) (i : ℕ) (hi : i < h) where
    low : summed (h + h) (λ j. negated_if (odd_common i j) (weight_at kind.weight old j)) ≡ summed h (λ j. negated_if (odd_common i j) (weight_at kind.weight old j +ℤ weight_at kind.weight old (h + j)))
    low = subst (λ (k : ℕ). i < k → summed (k + k) (λ j. negated_if (odd_common i j) (weight_at kind.weight old j)) ≡ summed k (λ j. negated_if (odd_common i j) (weight_at kind.weight old j +ℤ weight_at kind.weight old (k + j)))) (sym power) (λ l. low_half t i l (weight_at kind.weight old)) hi

    high : summed (h + h) (λ j. negated_if (odd_common (h + i) j) (weight_at kind.weight old j)) ≡ summed h (λ j. negated_if (odd_common i j) (weight_at kind.weight old j +ℤ neg_ℤ (weight_at kind.weight old (h + j))))
    high = subst (λ (k : ℕ). i < k → summed (k + k) (λ j. negated_if (odd_common (k + i) j) (weight_at kind.weight old j)) ≡ summed k (λ j. negated_if (odd_common i j) (weight_at kind.weight old j +ℤ neg_ℤ (weight_at kind.weight old (k + j))))) (sym power) (λ l. high_half t i l (weight_at kind.weight old)) hi

    whole_long : length (map kind.weight old) ≡ h + h
    whole_long = length-map old kind.weight ∙ long

    pub front_spectrum : spectrum (map kind.weight (take h mid)) i ≡ spectrum (map kind.weight old) i
    front_spectrum =
        ap (λ n. summed n (λ j. negated_if (odd_common i j) (weight_at kind.weight (take h mid) j))) (length-map (take h mid) kind.weight ∙ front_long)
        ∙ summed_ext h _ _ (λ j l. ap (negated_if (odd_common i j)) (at_take kind.weight (pos 0) h mid j l ∙ crossed.sum j l))
        ∙ sym low
        ∙ ap (λ n. summed n (λ j. negated_if (odd_common i j) (weight_at kind.weight old j))) (sym whole_long)

    pub back_spectrum : spectrum (map kind.weight (drop h mid)) i ≡ spectrum (map kind.weight old) (h + i)
    back_spectrum =
        ap (λ n. summed n (λ j. negated_if (odd_common i j) (weight_at kind.weight (drop h mid) j))) (length-map (drop h mid) kind.weight ∙ back_long)
        ∙ summed_ext h _ _ (λ j l. ap (negated_if (odd_common i j)) (at_drop kind.weight (pos 0) h mid j ∙ crossed.difference j l))
        ∙ sym high
        ∙ ap (λ n. summed n (λ j. negated_if (odd_common (h + i) j) (weight_at kind.weight old j))) (sym whole_long)
