-- The columns of rows that concur, and the law of a finder over them.
use Rattle.std.specs.Prelude.{◌≡◌, ℕ, zero, suc, ◌+◌, ◌-◌, ◌*◌, ◌^◌, ◌<◌, ◌≤◌, List, [], ◌∷◌, length, ◌≢◌, refl}
use Rattle.std.proofs.Common.{ap, ◌∙◌, inl, inr, ⊎_elim, mul-le-mul_right, arith, pow-add}
use Rattle.std.proofs.Math.Nat.{pow-succ'}
use Rattle.std.proofs.lemmas.Nat.{pow_pos}
use Rattle.std.proofs.lemmas.Bool.{cases_lt}
use Rattle.code.specs.Limits.{Length}
use Rattle.code.specs.Words.{digit}
use Rattle.code.proofs.Xor.{digit_two}
use Rattle.card.specs.Rows.{tally, Concur, Within}
use Rattle.finder.specs.Fold.{column}
use Rattle.finder.specs.Search.{Lawful}
use Rattle.group_finder.specs.Choices.{Concurs, Slotted, group_need}

digit_below : (i r : ℕ) → digit i r < 2
digit_below i r = omega arith

tally_le : (i : ℕ) (rows : List ℕ) → tally i rows ≤ length rows
tally_le i [] = omega arith
tally_le i (r ∷ rs) = let h = tally_le i rs in let d = digit_below i r in omega arith

tally_none : (i : ℕ) (rows : List ℕ) → tally i rows ≡ 0 → column rows i ≡ 0
tally_none i [] h = refl
tally_none i (r ∷ rs) h = let t : tally i rs ≡ 0 = omega arith in let c = tally_none i rs t in omega arith

tally-one : (i : ℕ) (rows : List ℕ) → tally i rows ≡ 1 → (j : ℕ) × ((j < length rows) × (column rows i ≡ 2 ^ j))
tally-one i [] h = absurd (omega arith)
tally-one i (r ∷ rs) h =
    ⊎_elim
    (λ (d : digit i r ≡ 0).
    let t : tally i rs ≡ 1 = omega arith in
    let k = tally-one i rs t in
    let l = k.1.0 in
    let e = k.1.1 in
    let p = pow-succ' 2 k.0 in
    (suc k.0, (omega arith, omega arith)))
    (λ (d : digit i r ≡ 1).
    let t : tally i rs ≡ 0 = omega arith in
    let c = tally_none i rs t in
    (0, (omega arith, omega arith)))
    (digit_two (digit i r) (digit_below i r))

tally_all : (i : ℕ) (rows : List ℕ) → tally i rows ≡ length rows → column rows i ≡ 2 ^ length rows - 1
tally_all i [] h = refl
tally_all i (r ∷ rs) h =
    let b = tally_le i rs in
    let d = digit_below i r in
    let t : tally i rs ≡ length rs = omega arith in
    let o : digit i r ≡ 1 = omega arith in
    let c = tally_all i rs t in
    let p = pow-succ' 2 (length rs) in
    let q = pow_pos (length rs) in
    omega arith

-- each column of concurring rows has no digit 1, just one, or all
pub concurs_at : (rows : List ℕ) → Concur rows → (i : ℕ) → Concurs (length rows) (column rows i)
concurs_at rows h i =
    ⊎_elim
    (λ l. ⊎_elim (λ (z : tally i rows ≡ 0). inl (tally_none i rows z)) (λ (o : tally i rows ≡ 1). inr (inl (tally-one i rows o))) (digit_two (tally i rows) l))
    (λ l. inr (inr (tally_all i rows (h i l))))
    (cases_lt (tally i rows) 2)

few_lists : (j : ℕ) → j + 2 ≤ 4 * 2 ^ j
few_lists zero = omega arith
few_lists (suc j) = let h = few_lists j in let e = pow-succ' 2 j in omega arith

pub group_lawful : (n : ℕ) (rows : List ℕ) (J T : ℕ) → length rows ≡ J + T → Length n → length rows ≤ 24 → Within n rows → Lawful (record { span = n; rows = rows; need = group_need J T })
group_lawful n rows J T l s f w =
    let m : (J + 2) * 2 ^ T ≤ (4 * 2 ^ J) * 2 ^ T = mul-le-mul_right (2 ^ T) (few_lists J) in
    let e : 2 ^ length rows ≡ 2 ^ J * 2 ^ T = ap (λ (k : ℕ). 2 ^ k) l ∙ pow-add 2 J T in
    record { sized = s; few = f; small = omega arith; within = w }

-- a column that is neither 0 nor a power of two has all digits, and there are at least two
pub last_slot : (J c : ℕ) → Concurs J c → (c ≢ 0) → ((k : ℕ) → k < J → c ≢ 2 ^ k) → Slotted J c (J + 1)
last_slot J c d z p =
    ⊎_elim
    (λ e. absurd (z e))
    (λ r. ⊎_elim
    (λ k. absurd (p k.0 k.1.0 k.1.1))
    (λ e. inr (inr (two J c e z p, e, refl)))
    r)
    d
  where
    two : (J c : ℕ) → c ≡ 2 ^ J - 1 → (c ≢ 0) → ((k : ℕ) → k < J → c ≢ 2 ^ k) → 2 ≤ J
    two zero c e z p = absurd (z e)
    two (suc zero) c e z p = absurd (p 0 (omega arith) e)
    two (suc (suc J)) c e z p = omega arith
