-- Sums over places, gathered by slot.
use Rattle.std.specs.Prelude.{◌≡◌, ℕ, zero, suc, ◌+◌, ◌*◌, ◌/◌, ◌%◌, ◌^◌, ◌<◌, min, Bool, true, false, cond, not, List, [], ◌∷◌, length, get_or, ℤ, pos, ◌+ℤ◌, ◌==◌, bit_and, count_ones, nat_eq, slice_index_or, refl}
use Rattle.std.proofs.Common.{sym, ap, ap₂, ◌∙◌, ⊎_elim, zero-mul, one-mul, arith}
use Rattle.std.proofs.Math.Nat.{pow-succ', div-div-eq-div-mul, zero-div}
use Rattle.std.proofs.Math.IntN.{+ℤ_idl, +ℤ_idr}
use Rattle.std.specs.Int.Bits.{and_step, and_zero_r}
use Rattle.std.proofs.lemmas.Nat.{xor_shr}
use Rattle.std.specs.Int.Count.{ones_step}
use Rattle.std.proofs.lemmas.Int.{ints}
use Rattle.std.proofs.lemmas.Bool.{cases_eq, eq-eqb, ne_eqb, cond-true, cond-false}
use Rattle.hadamard.specs.Transform.{summed, odd_common, spectrum}
use Rattle.hadamard.proofs.Sums.{summed_ext, summed-add}
use Rattle.hadamard.proofs.Signs.{ones_0, negated_if-add}
use Rattle.code.specs.Words.{odd, negated_if, codeword, agreement}
use Rattle.code.proofs.Xor.{odd-xor}
use Rattle.finder.specs.Fold.{column, sum_of_slot}

pub summed_zero : (n : ℕ) → summed n (λ _. pos 0) ≡ pos 0
summed_zero zero = refl
summed_zero (suc n) = ap (λ x. x +ℤ pos 0) (summed_zero n)

pub summed-front : (n : ℕ) (f : ℕ → ℤ) → summed (suc n) f ≡ f 0 +ℤ summed n (λ i. f (suc i))
summed-front zero f = omega (arith, ints)
summed-front (suc n) f = ap (λ x. x +ℤ f (suc n)) (summed-front n f) ∙ omega (arith, ints)

pub negated_if-summed : (b : Bool) (n : ℕ) (f : ℕ → ℤ) → negated_if b (summed n f) ≡ summed n (λ i. negated_if b (f i))
negated_if-summed true zero f = refl
negated_if-summed false zero f = refl
negated_if-summed b (suc n) f = negated_if-add b (summed n f) (f n) ∙ ap (λ x. x +ℤ negated_if b (f n)) (negated_if-summed b n f)

pub negated_if_cond : (b e : Bool) (w : ℤ) → negated_if b (cond e w (pos 0)) ≡ cond e (negated_if b w) (pos 0)
negated_if_cond b true w = refl
negated_if_cond true false w = refl
negated_if_cond false false w = refl

-- one slot of many
pub pick : (q c : ℕ) (h : ℕ → ℤ) → c < q → summed q (λ x. cond (c == x) (h x) (pos 0)) ≡ h c
pick zero c h l = absurd (omega arith)
pick (suc q) c h l = ⊎_elim
    (λ (e : c ≡ q).
    let low : summed q (λ x. cond (c == x) (h x) (pos 0)) ≡ pos 0 = summed_ext q _ _ (λ j k. cond-false (c == j) (h j) (pos 0) (ne_eqb c j (λ z. omega arith))) ∙ summed_zero q in
    ap₂ (λ x y. x +ℤ y) low (cond-true (c == q) (h q) (pos 0) (eq-eqb c q e)) ∙ +ℤ_idl (h q) ∙ ap h (sym e))
    (λ n. ap₂ (λ x y. x +ℤ y) (pick q c h (omega arith)) (cond-false (c == q) (h q) (pos 0) (ne_eqb c q n)) ∙ +ℤ_idr (h c))
    (cases_eq c q)

-- all slots together are all places
pub gather : (n q : ℕ) (slot : ℕ → ℕ) (h : ℕ → ℕ → ℤ) → ((i : ℕ) → i < n → slot i < q) → summed q (λ x. summed n (λ i. cond (slot i == x) (h x i) (pos 0))) ≡ summed n (λ i. h (slot i) i)
gather zero q slot h l = summed_zero q
gather (suc n) q slot h l =
    summed-add q (λ x. summed n (λ i. cond (slot i == x) (h x i) (pos 0))) (λ x. cond (slot n == x) (h x n) (pos 0))
    ∙ ap₂ (λ x y. x +ℤ y) (gather n q slot h (λ i k. l i (omega arith))) (pick q (slot n) (λ x. h x n) (l n (omega arith)))

-- the transform of a folded list
pub spectrum_folded : (ws : List ℤ) (n : ℕ) (slot : ℕ → ℕ) (w : ℕ → ℤ) (m : ℕ) → ((i : ℕ) → i < n → slot i < length ws) → ((x : ℕ) → x < length ws → slice_index_or ws x (pos 0) ≡ sum_of_slot slot w n x) → spectrum ws m ≡ summed n (λ i. negated_if (odd_common m (slot i)) (w i))
spectrum_folded ws n slot w m l e =
    summed_ext (length ws) _ _ (λ x k. ap (negated_if (odd_common m x)) (e x k) ∙ negated_if-summed (odd_common m x) n _ ∙ summed_ext n _ _ (λ i _. negated_if_cond (odd_common m x) (slot i == x) (w i)))
    ∙ gather n (length ws) slot (λ x i. negated_if (odd_common m x) (w i)) l

pub half_pow : (c i : ℕ) → c / 2 / 2 ^ i ≡ c / 2 ^ suc i
half_pow c i = div-div-eq-div-mul c 2 (2 ^ i) ∙ ap (λ (x : ℕ). c / x) (sym (pow-succ' 2 i))

-- agreement as a sum over the places
pub agreement-summed : (ws : List ℤ) (c : ℕ) → agreement ws c ≡ summed (length ws) (λ i. negated_if (odd (c / 2 ^ i)) (slice_index_or ws i (pos 0)))
agreement-summed [] c = refl
agreement-summed (w ∷ ws) c =
    let z : c ≡ c / 2 ^ 0 = omega arith in
    ap₂ (λ x y. x +ℤ y)
    (ap (λ (d : ℕ). negated_if (odd d) w) z)
    (agreement-summed ws (c / 2) ∙ summed_ext (length ws) _ _ (λ i _. ap (λ (d : ℕ). negated_if (odd d) (slice_index_or ws i (pos 0))) (half_pow c i)))
    ∙ sym (summed-front (length ws) (λ i. negated_if (odd (c / 2 ^ i)) (slice_index_or (w ∷ ws) i (pos 0))))

-- the digit of a code word is the parity of what the message and the column share
both_odd : (p d n : ℕ) → p < 2 → d < 2 → ((min p d + n) % 2 == 1) ≡ cond (cond (p == 1) (d == 1) false) (not (n % 2 == 1)) (n % 2 == 1)
both_odd zero d n hp hd = ap (λ (x : ℕ). nat_eq (x % 2) 1) (let z : min 0 d + n ≡ n = omega arith in z)
both_odd (suc zero) zero n hp hd = ap (λ (x : ℕ). nat_eq (x % 2) 1) (let z : min 1 0 + n ≡ n = omega arith in z)
both_odd (suc zero) (suc zero) n hp hd = grind arith
both_odd (suc zero) (suc (suc d)) n hp hd = absurd (omega arith)
both_odd (suc (suc p)) d n hp hd = absurd (omega arith)

chosen_digit : (d r i : ℕ) → d < 2 → odd (d * r / 2 ^ i) ≡ cond (d == 1) (r / 2 ^ i % 2 == 1) false
chosen_digit zero r i h = ap (λ (x : ℕ). odd (x / 2 ^ i)) (zero-mul r) ∙ ap odd (zero-div (2 ^ i))
chosen_digit (suc zero) r i h = ap (λ (x : ℕ). odd (x / 2 ^ i)) (one-mul r)
chosen_digit (suc (suc d)) r i h = absurd (omega arith)

pub digit_link : (rows : List ℕ) (m i : ℕ) → odd_common m (column rows i) ≡ odd (codeword rows m / 2 ^ i)
digit_link [] m i = ap (λ (x : ℕ). nat_eq (count_ones x % 2) 1) (and_zero_r m) ∙ ap (λ (x : ℕ). nat_eq (x % 2) 1) ones_0 ∙ sym (ap odd (zero-div (2 ^ i)))
digit_link (r ∷ rs) m i =
    let d = r / 2 ^ i % 2 in
    let c = column rs i in
    let dl : (d + 2 * c) % 2 ≡ d = omega arith in
    let dh : (d + 2 * c) / 2 ≡ c = omega arith in
    let a : bit_and m (d + 2 * c) ≡ bit_and (m / 2) c * 2 + min (m % 2) d = and_step m (d + 2 * c) ∙ ap₂ (λ (x y : ℕ). bit_and (m / 2) x * 2 + min (m % 2) y) dh dl in
    let lo : (bit_and (m / 2) c * 2 + min (m % 2) d) % 2 ≡ min (m % 2) d = omega arith in
    let hi : (bit_and (m / 2) c * 2 + min (m % 2) d) / 2 ≡ bit_and (m / 2) c = omega arith in
    let o : count_ones (bit_and m (d + 2 * c)) ≡ min (m % 2) d + count_ones (bit_and (m / 2) c) = ap count_ones a ∙ ones_step _ ∙ ap₂ (λ (x y : ℕ). x + count_ones y) lo hi in
    ap (λ (x : ℕ). nat_eq (x % 2) 1) o
    ∙ both_odd (m % 2) d (count_ones (bit_and (m / 2) c)) (omega arith) (omega arith)
    ∙ ap₂ (λ (x y : Bool). cond x (not y) y) (sym (chosen_digit (m % 2) r i (omega arith))) (digit_link rs (m / 2) i)
    ∙ sym (odd-xor (m % 2 * r / 2 ^ i) (codeword rs (m / 2) / 2 ^ i))
    ∙ ap odd (sym (xor_shr (m % 2 * r) (codeword rs (m / 2)) i))

-- a list folded by columns and transformed holds the agreements
pub folded_agrees : (ws : List ℤ) (rows : List ℕ) (vs : List ℤ) (m : ℕ) → ((i : ℕ) → i < length ws → column rows i < length vs) → ((x : ℕ) → x < length vs → slice_index_or vs x (pos 0) ≡ sum_of_slot (column rows) (λ i. get_or ws i (pos 0)) (length ws) x) → spectrum vs m ≡ agreement ws (codeword rows m)
folded_agrees ws rows vs m l e =
    spectrum_folded vs (length ws) (column rows) (λ i. get_or ws i (pos 0)) m l e
    ∙ summed_ext (length ws) _ _ (λ i _. ap (λ (b : Bool). negated_if b (slice_index_or ws i (pos 0))) (digit_link rows m i))
    ∙ sym (agreement-summed ws (codeword rows m))

pub column_below : (rows : List ℕ) (i : ℕ) → column rows i < 2 ^ length rows
column_below [] i = omega arith
column_below (r ∷ rs) i = let h = column_below rs i in let p = pow-succ' 2 (length rs) in omega arith
