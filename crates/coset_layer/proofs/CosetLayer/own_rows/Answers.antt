use Rattle.std.proofs.Common.{◌≡◌, ℕ, ◌-◌, ◌<◌, min, List, length, take, sym, ap, ap₂, ◌∙◌, ⊎_elim, arith}
use Rattle.std.proofs.lemmas.List.{length-take, take_all}
use Rattle.std.proofs.lemmas.Bool.{cases_lt}
use Rattle.code.specs.Limits.{max_rows}
use Rattle.coset_layer.proofs.CosetLayer.own_rows.Goals as goal

-- a list cut at n, or at its end where that comes first
take-min : (n end : ℕ) (rows : List ℕ) → end ≡ min (length rows) n → take (end - 0) rows ≡ take n rows
take-min n end rows m = ⊎_elim
    (λ (l : n < length rows). let e : end - 0 ≡ n = omega arith in ap (λ (k : ℕ). take k rows) e)
    (λ l. take_all (end - 0) rows (omega arith) ∙ sym (take_all n rows (omega arith)))
    (cases_lt n (length rows))

pub returns : goal.returns
returns g c =
    let s = c.args.self.now in
    let rows = (g.F.Finder.meaning s.below).rows in
    let law = (g.met.F.Finder.lawful s.below).few in
    let own = c.as_slice-own.ensures in
    let e = take-min _ c.min.result c.as_slice-own.result.now c.min.ensures in
    let is = e ∙ ap₂ (λ (k : ℕ) (l : List ℕ). take (max_rows - k) l) c.row_count.ensures own.value in
    let l = ap length is ∙ length-take (max_rows - length rows) s.own in
    let h = ap length own.value in
    let few = own.few in
    record { value = is; few = omega arith; room = omega arith }
