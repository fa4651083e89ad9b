-- Agreement under negation of places.
use Rattle.std.proofs.Common.{◌≡◌, ℕ, ◌/◌, Bool, true, false, cond, not, List, [], ◌∷◌, ℤ, ◌+ℤ◌, sym, refl, ap, ◌∙◌, ap₂}
use lib.IntN.{neg_ℤ-neg_ℤ}
use lib.Bits.{bit_xor}
use Rattle.code.specs.Words.{odd, negated_if, negated_at, agreement}
use Rattle.code.proofs.Xor.{odd-xor, half_xor}

pub negated_both : (p q : Bool) (w : ℤ) → negated_if q (negated_if p w) ≡ negated_if (cond p (not q) q) w
negated_both true true w = neg_ℤ-neg_ℤ w
negated_both true false w = refl
negated_both false q w = refl

-- weights negated at the digits of c agree with d as the weights themselves with the sum of c and d
pub agreement_negated : (ws : List ℤ) (c d : ℕ) → agreement (negated_at ws c) d ≡ agreement ws (bit_xor c d)
agreement_negated [] c d = refl
agreement_negated (w ∷ ws) c d =
    ap₂ (λ (x y : ℤ). x +ℤ y)
    (negated_both (odd c) (odd d) w ∙ ap (λ (b : Bool). negated_if b w) (sym (odd-xor c d)))
    (agreement_negated ws (c / 2) (d / 2) ∙ ap (agreement ws) (sym (half_xor c d)))
