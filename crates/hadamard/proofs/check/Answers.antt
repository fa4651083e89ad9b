use Rattle.std.proofs.Common.{◌≡◌, ℕ, ◌^◌, ◌≤◌, Some, None, Ok, Err, MatchOption, Option, length, sym, subst, arith}
use Rattle.std.specs.Option.{ok_or}
use Rattle.std.proofs.lemmas.Result.{err_from_is_err_and}
use Rattle.code.specs.declared.refusal.Refusal.{Refusal}
use Rattle.code.specs.declared.refusal.Refusal.TheVariants.{ListNotPower}
use Rattle.hadamard.specs.Transform.{max_exponent}
use Rattle.hadamard.proofs.Powers.{verdict-length, verdict_total, verdict-taken}
use Rattle.hadamard.proofs.check.Goals as goal

-- what the exponent says of the result that `ok_or` makes of it
abbrev IsExponent : ℕ → Option ℕ → Type 0
IsExponent n o = MatchOption o ((t : ℕ) → t ≤ max_exponent → n ≡ 2 ^ t → ⊥) (λ t. (t ≤ max_exponent) × (n ≡ 2 ^ t))

taken : (n t : ℕ) (o : Option ℕ) (e : Refusal) → IsExponent n o → Ok t ≡ ok_or o e → (t ≤ max_exponent) × (n ≡ 2 ^ t)
taken n t None e m q = cc
taken n t (Some s) e m q = let z : s ≡ t = cc in subst (λ (k : ℕ). (k ≤ max_exponent) × (n ≡ 2 ^ k)) z m

refused : (n : ℕ) (o : Option ℕ) (e d : Refusal) → IsExponent n o → Err d ≡ ok_or o e → (d ≡ e) × ((t : ℕ) → t ≤ max_exponent → n ≡ 2 ^ t → ⊥)
refused n None e d m q = (cc, m)
refused n (Some s) e d m q = cc

pub returns-in_err-t : goal.returns-in_err-t
returns-in_err-t g c =
    let p = err_from_is_err_and c.from_residual.result c.from_residual.ensures.1 in
    let r = refused (length c.args.list.now) c.exponent.result ListNotPower c.in_err-t.field-0.0 c.exponent.ensures c.in_err-t.ensures.value in
    rw (p.1, p.2, r.0) (sym (verdict-length _ _ r.1))

pub returns-then-total-gt-SUM_LIMIT : goal.returns-then-total-gt-SUM_LIMIT
returns-then-total-gt-SUM_LIMIT g c =
    let e = taken (length c.args.list.now) c.in_ok-t.t c.exponent.result ListNotPower c.exponent.ensures c.in_ok-t.ensures.value in
    sym (verdict_total _ _ c.in_ok-t.t e.0 e.1 (omega arith))

pub returns : goal.returns
returns g c =
    let e = taken (length c.args.list.now) c.in_ok-t.t c.exponent.result ListNotPower c.exponent.ensures c.in_ok-t.ensures.value in
    (e.1, omega arith, sym (verdict-taken _ _ c.in_ok-t.t e.0 e.1 (omega arith)))
