-- Worked cases, each by the definitions that the contracts cite.
use Rattle.std.specs.Prelude.{◌≡◌, ℕ, List, [], ◌∷◌, ℤ, pos, negsuc, neg_ℤ, Some, Ok, Err, from_bits}
use Rattle.std.specs.Float.{binary32}
use Rattle.code.specs.declared.refusal.Section.TheVariants.{Group}
use Rattle.code.specs.declared.refusal.Refusal.TheVariants.{DependentRow, ConcurrenceBroken}
use Rattle.code.specs.Limits.{Length}
use Rattle.code.specs.Words.{Best, agrees}
use Rattle.card.specs.Cards.{Card, verdict}
use Rattle.reading.specs.Kinds.{level_weight, heads_weight}
use Rattle.hadamard.specs.Transform.{sylvester}
use Rattle.sample.specs.Levels.{label_of}

-- the group of code E, and all its rows
abbrev pub group_e : Card
group_e = record { len = 5; group = 3 ∷ 6 ∷ []; transform = []; coset = [] }

abbrev pub rows_e : List ℕ
rows_e = 3 ∷ 6 ∷ 12 ∷ 17 ∷ []

-- m is the best message of the rows for the weights, with this agreement
abbrev pub Finds : List ℕ → List ℤ → ℕ → ℤ → Type 0
Finds rows weights m a = Best rows weights m × (agrees rows weights m ≡ a)

pub record Worked : Type 0 where
  -- 64 is a word length; 0 and 65 are none
  pub length_64 : Length 64
  pub length_0 : Length 0 → ⊥
  pub length_65 : Length 65 → ⊥
  -- the transform of 1, 2, 3, 4 is 10, -2, -4, 0
  pub transform_4 : sylvester (pos 1 ∷ pos 2 ∷ pos 3 ∷ pos 4 ∷ []) ≡ pos 10 ∷ negsuc 1 ∷ negsuc 3 ∷ pos 0 ∷ []
  -- the labels of the levels 0.5, 2 ^ -10, 2 ^ -11 and -0, each given by its bits
  pub label_half : label_of (from_bits binary32 0x3f000000) ≡ Some (pos 512)
  pub label_least : label_of (from_bits binary32 0x3a800000) ≡ Some (pos 1)
  pub label_below_least : label_of (from_bits binary32 0x3a000000) ≡ Some (pos 0)
  pub label_minus_zero : label_of (from_bits binary32 0x80000000) ≡ Some (pos 0)
  -- on code E's group, row 5 is dependent though it breaks concurrence too, row 9 breaks concurrence, and row 2 is taken
  pub row_5 : verdict group_e Group 5 ≡ Err (DependentRow Group 2)
  pub row_9 : verdict group_e Group 9 ≡ Err (ConcurrenceBroken Group 2)
  pub row_2 : verdict group_e Group 2 ≡ Ok tt
  -- on code E, the levels 1, 0.5, -0.75, -0.25, 0.75 find 4 with 3328; no levels at all find 0 with 0; three of -0.5 and two of 0.5 find 1 with 1536
  pub finds_4 : Finds rows_e (pos 1024 ∷ pos 512 ∷ neg_ℤ (pos 768) ∷ neg_ℤ (pos 256) ∷ pos 768 ∷ []) 4 (pos 3328)
  pub finds_0 : Finds rows_e (pos 0 ∷ pos 0 ∷ pos 0 ∷ pos 0 ∷ pos 0 ∷ []) 0 (pos 0)
  pub finds_1 : Finds rows_e (neg_ℤ (pos 512) ∷ neg_ℤ (pos 512) ∷ neg_ℤ (pos 512) ∷ pos 512 ∷ pos 512 ∷ []) 1 (pos 1536)
  -- with one place and the row 1, the labels 0 and -512 find 1 in the two-head kind and 0 in the level kind
  pub two_heads : Finds (1 ∷ []) (heads_weight (record { main = pos 0; second = neg_ℤ (pos 512) }) ∷ []) 1 (pos 512)
  pub one_head : Finds (1 ∷ []) (level_weight (record { value = pos 0 }) ∷ []) 0 (pos 0)
