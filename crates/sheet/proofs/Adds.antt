-- One sample more is added.
use Rattle.std.proofs.Common.{◌≡◌, ℕ, ◌+◌, ◌<◌, ◌≢◌, List, length, get_or, set, sym, ◌∙◌, subst, arith, below_more}
use Rattle.std.proofs.lemmas.List.{get_or_read, get_or_default, get_or-set_same, get_or-set_other}
use Rattle.reading.specs.declared.Reading.{Ghosts as Kind}
use Rattle.sample.specs.declared.Sample.{Sample}
use Rattle.sheet.specs.Cells.{Added, Grown}

module _ {R : Type 0} (kind : Kind R) where
  pub added_more : (ss : List Sample) (i : ℕ) (xs ys : List R) (a b : R) (x : Sample) → i < length ys → i < length ss → a ≡ get_or ys i a →
      Grown kind (get_or ss i x) a b → Added kind ss i xs ys → Added kind ss (i + 1) xs (set ys i b)
  added_more ss i xs ys a b x h hs read g ad =
      let was : (d : R) → a ≡ get_or xs i d = λ d. get_or_read ys i a h read d ∙ ad.others i d (omega arith) in
      record {
        grown = λ k z d hk.
            below_more (λ j. Grown kind (get_or ss j z) (get_or xs j d) (get_or (set ys i b) j d)) i
            (λ j hj. let ne : j ≢ i = omega arith in
            subst (λ y. Grown kind (get_or ss j z) (get_or xs j d) y) (sym (get_or-set_other ys i j b d ne)) (ad.grown j z d hj))
            (subst (λ y. Grown kind (get_or ss i z) (get_or xs i d) y) (sym (get_or-set_same ys i b d h))
            (subst (λ y. Grown kind (get_or ss i z) y b) (was d)
            (subst (λ y. Grown kind y a b) (get_or_default ss i x z hs) g)))
            k hk;
        others = λ k d hk. let ne : k ≢ i = omega arith in rw get_or-set_other (ad.others k d (omega arith));
      }
