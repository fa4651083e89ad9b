-- One choice of a layer's own rows: what the search below says of the pile.
use Rattle.std.proofs.Common.{◌≡◌, ℕ, ◌+◌, ◌*◌, ◌%◌, ◌^◌, ◌<◌, ◌≤◌, true, false, List, ◌++◌, length, ℤ, ◌≤ℤ◌, ◌<ℤ◌, sym, ap, ◌∙◌, subst, add-mul, arith, pow_mono}
use lib.Signed.{lt_z}
use lib.Bits.{bit_xor, xor_comm, xor_zero_r}
use Rattle.std.proofs.lemmas.Int.{ints}
use Rattle.std.proofs.lemmas.Nat.{shl_whole, one_shl, pow-add, mul-le}
use Rattle.std.proofs.lemmas.List.{length-append}
use Rattle.code.specs.Words.{codeword, agreement, agrees, negated_at, Best, Top}
use Rattle.code.proofs.Codewords.{codeword-append, codeword_zero}
use Rattle.code.proofs.Agreements.{agreement_negated}
use Rattle.code.proofs.Tops.{top_same, top_takes, top_keeps}

-- the shift of a choice stays within 32 bits
pub choice_below : (c o : ℕ) → o ≤ 4 → c < (1 * 2 ^ o) % 2 ^ 32 → c < 2 ^ o
choice_below c o h l = let e = one_shl o 32 (omega arith) in omega arith

pub choice_shift : (c o k : ℕ) → c < 2 ^ o → o + k ≤ 24 → (c * 2 ^ k) % 2 ^ 32 ≡ c * 2 ^ k
choice_shift c o k l h = shl_whole c o k 32 l (omega arith)

pub message_below : (c o k m : ℕ) → c < 2 ^ o → o + k ≤ 24 → m < 2 ^ k → m + c * 2 ^ k < 2 ^ 24
message_below c o k m l h b =
    let p : (c + 1) * 2 ^ k ≤ 2 ^ o * 2 ^ k = mul-le (c + 1) (2 ^ k) (2 ^ o) (2 ^ k) (omega arith) (omega arith) in
    let q = pow-add 2 o k in
    let r : 2 ^ (o + k) ≤ 2 ^ 24 = pow_mono h in
    let s = add-mul c 1 (2 ^ k) in
    omega arith

module _ (rows own : List ℕ) (ws : List ℤ) where
  first_agrees : (j : ℕ) → j < 2 ^ length rows → agrees rows ws j ≡ agrees (rows ++ own) ws j
  first_agrees j h =
      let z : j + 0 * 2 ^ length rows ≡ j = omega arith in
      ap (agreement ws) (sym (xor_zero_r (codeword rows j)) ∙ ap (bit_xor (codeword rows j)) (sym (codeword_zero own)) ∙ sym (codeword-append rows own j 0 h) ∙ ap (codeword (rows ++ own)) z)

  pub first_turn : (vs : List ℤ) → vs ≡ ws → (m : ℕ) (x : ℤ) → Best rows ws m → x ≡ agrees rows ws m → Top (agrees (rows ++ own) vs) (1 * 2 ^ length rows) m × (x ≡ agrees (rows ++ own) vs m)
  first_turn vs same m x b w =
      let e : 2 ^ length rows ≡ 1 * 2 ^ length rows = omega arith in
      subst (λ (l : List ℤ). Top (agrees (rows ++ own) l) (1 * 2 ^ length rows) m × (x ≡ agrees (rows ++ own) l m)) (sym same)
      (subst (λ n. Top (agrees (rows ++ own) ws) n m) e (top_same (agrees rows ws) (agrees (rows ++ own) ws) (2 ^ length rows) m first_agrees b), w ∙ first_agrees m b.within)

  module _ (c m b : ℕ) (x y : ℤ) (best : Best rows (negated_at ws (codeword own c)) m) (wy : y ≡ agrees rows (negated_at ws (codeword own c)) m) (top : Top (agrees (rows ++ own) ws) (c * 2 ^ length rows) b) (wx : x ≡ agrees (rows ++ own) ws b) where
    turn_agrees : (j : ℕ) → j < 2 ^ length rows → agrees rows (negated_at ws (codeword own c)) j ≡ agrees (rows ++ own) ws (j + c * 2 ^ length rows)
    turn_agrees j h = agreement_negated ws (codeword own c) (codeword rows j) ∙ ap (agreement ws) (xor_comm (codeword own c) (codeword rows j) ∙ sym (codeword-append rows own j c h))

    turn_top : Top (λ j. agrees (rows ++ own) ws (j + c * 2 ^ length rows)) (2 ^ length rows) m
    turn_top = top_same (agrees rows (negated_at ws (codeword own c))) (λ j. agrees (rows ++ own) ws (j + c * 2 ^ length rows)) (2 ^ length rows) m turn_agrees best

    more : c * 2 ^ length rows + 2 ^ length rows ≡ (c + 1) * 2 ^ length rows
    more = omega (arith, add-mul c 1 (2 ^ length rows))

    pub turn_takes : lt_z x y ≡ true → Top (agrees (rows ++ own) ws) ((c + 1) * 2 ^ length rows) (m + c * 2 ^ length rows) × (y ≡ agrees (rows ++ own) ws (m + c * 2 ^ length rows))
    turn_takes less =
        let all = agrees (rows ++ own) ws in
        let e = turn_agrees m best.within in
        let l : x <ℤ y = grind (arith, ints) in
        let h : all b <ℤ all (m + c * 2 ^ length rows) = omega (arith, ints) in
        (subst (λ n. Top all n (m + c * 2 ^ length rows)) more (top_takes all (c * 2 ^ length rows) (2 ^ length rows) b m top turn_top h), wy ∙ e)

    pub turn_keeps : lt_z x y ≡ false → Top (agrees (rows ++ own) ws) ((c + 1) * 2 ^ length rows) b × (x ≡ agrees (rows ++ own) ws b)
    turn_keeps less =
        let all = agrees (rows ++ own) ws in
        let e = turn_agrees m best.within in
        let l : y ≤ℤ x = grind (arith, ints) in
        let h : all (m + c * 2 ^ length rows) ≤ℤ all b = omega (arith, ints) in
        (subst (λ n. Top all n b) more (top_keeps all (c * 2 ^ length rows) (2 ^ length rows) b m top turn_top h), wx)

  -- all choices have been tried
  pub last_turn : (c m : ℕ) → c ≡ 2 ^ length own → Top (agrees (rows ++ own) ws) (c * 2 ^ length rows) m → Best (rows ++ own) ws m
  last_turn c m e t =
      let n : c * 2 ^ length rows ≡ 2 ^ length (rows ++ own) =
      ap (λ (k : ℕ). k * 2 ^ length rows) e ∙ sym (pow-add 2 (length own) (length rows)) ∙ ap (λ (k : ℕ). 2 ^ k) (let l = length-append rows own in omega arith) in
      subst (λ k. Top (agrees (rows ++ own) ws) k m) n t
