use Rattle.std.proofs.Common.{◌≡◌, ℕ, zero, suc, ◌+◌, ◌-◌, ◌*◌, ◌/◌, ◌%◌, ◌^◌, ◌<◌, ◌≤◌, sym, ap, ◌∙◌, ap₂, ◌==◌, inl, inr, ⊎_elim, count_ones, arith}
use Rattle.std.proofs.Math.Nat.{pow-succ'}
use Rattle.std.proofs.Math.Pow.{pow-lt}
use Rattle.std.proofs.lemmas.Bool.{both_ways, cases_eq, eq-eqb, eqb-true}
use Rattle.std.proofs.lemmas.Nat.{pow_pos}
use Rattle.std.proofs.lemmas.Nat.Bits.{bit_at-trailing_zeros, bit_at-pow_other}
use Rattle.std.specs.Int.{trailing_zeros, w64}
use Rattle.std.specs.Int.Count.{ones-ones}
use lib.Count.{ones_step}
use Rattle.hadamard.proofs.Signs.{ones_0}
use Rattle.group_finder.specs.Choices.{Concurs, Slotted}
use Rattle.group_finder.specs.Concurring.{last_slot}
use Rattle.group_finder.proofs.slots.single_slot.Goals as goal

count_ones-pow : (j : ℕ) → count_ones (2 ^ j) ≡ 1
count_ones-pow zero = ones_step 1 ∙ ap (λ (x : ℕ). 1 + x) ones_0
count_ones-pow (suc j) =
    let e = ap count_ones (pow-succ' 2 j) in
    let l : (2 * 2 ^ j) % 2 ≡ 0 = omega arith in
    let h : (2 * 2 ^ j) / 2 ≡ 2 ^ j = omega arith in
    let s = ones_step (2 * 2 ^ j) ∙ ap₂ (λ (x y : ℕ). x + count_ones y) l h in
    let i = count_ones-pow j in
    omega arith

trailing_zeros-pow : (j : ℕ) → j < 64 → trailing_zeros w64 (2 ^ j) ≡ j
trailing_zeros-pow j h =
    let b = bit_at-trailing_zeros w64 (2 ^ j) (pow_pos j) (pow-lt h) in
    ⊎_elim (λ e. e) (λ n. let z = bit_at-pow_other j (trailing_zeros w64 (2 ^ j)) n in let o = b.1 in absurd (omega arith)) (cases_eq (trailing_zeros w64 (2 ^ j)) j)

-- a column with one digit 1
alone : (J c : ℕ) → J ≤ 8 → Concurs J c → count_ones c ≡ 1 → Slotted J c (trailing_zeros w64 c + 1)
alone J c f d o =
    ⊎_elim
    (λ e. let z = ap count_ones e ∙ ones_0 in absurd (omega arith))
    (λ r. inr (inl (⊎_elim
    (λ k. let l = k.1.0 in (k.0, (l, k.1.1, ap (λ (x : ℕ). trailing_zeros w64 x + 1) k.1.1 ∙ ap (λ (x : ℕ). x + 1) (trailing_zeros-pow k.0 (omega arith)))))
    (λ e.
    let j : J ≡ 1 = sym (ones-ones J) ∙ ap count_ones (sym e) ∙ o in
    let one : c ≡ 2 ^ 0 = e ∙ ap (λ (x : ℕ). 2 ^ x - 1) j in
    (0, (omega arith, one, ap (λ (x : ℕ). trailing_zeros w64 x + 1) one ∙ ap (λ (x : ℕ). x + 1) (trailing_zeros-pow 0 (omega arith)))))
    r)))
    d

pub returns-then-is_power_of_two : goal.returns-then-is_power_of_two
returns-then-is_power_of_two c =
    alone c.args.count c.args.c c.requires.0 c.requires.1 (eqb-true (count_ones c.args.c) 1 (sym c.is_power_of_two.ensures ∙ c.if-is_power_of_two.true))

pub returns-else-is_power_of_two : goal.returns-else-is_power_of_two
returns-else-is_power_of_two c =
    λ z.
    let x = c.args.c in
    last_slot c.args.count x c.requires.1 z
    (λ k l e. both_ways (count_ones x == 1) (sym c.is_power_of_two.ensures ∙ c.if-is_power_of_two.false) (eq-eqb (count_ones x) 1 (ap count_ones e ∙ count_ones-pow k)))
