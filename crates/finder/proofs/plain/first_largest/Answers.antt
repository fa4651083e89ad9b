use Rattle.std.proofs.Common.{◌≡◌, ℕ, ◌+◌, ◌-◌, ◌<◌, length, drop, get_or, pos, sym, ap, ◌∙◌, arith, take_all}
use lib.Signed.{lt_z}
use Rattle.std.proofs.lemmas.Int.{ints}
use Rattle.std.proofs.lemmas.List.{get_or-drop, length-drop}
use Rattle.code.specs.Words.{Top}
use Rattle.hadamard.specs.Transform.{weight_at}
use Rattle.hadamard.proofs.Entries.{read_at}
use Rattle.finder.proofs.Picks.{picked, less, not_less, largest_takes, largest_keeps}
use Rattle.finder.proofs.plain.first_largest.Goals as goal

pub loop-i-preserved : goal.loop-i-preserved
loop-i-preserved g c =
    let w = g.R.Reading.weight in
    let list = c.args.list.now in
    let f = weight_at w list in
    let i = c.loop-i.i in
    let m = c.loop-i.best.message in
    let x = c.reading-item.result in
    let n = length-drop 1 list in
    let low : i + 1 < length list = omega arith in
    let all = take_all (length list - 1) (drop 1 list) (omega arith) in
    let z : 1 + i ≡ i + 1 = omega arith in
    let is = c.reading-item.is ∙ ap (λ l. get_or l i x) all ∙ get_or-drop 1 list i x ∙ ap (λ (k : ℕ). get_or list k x) z in
    let read = read_at w list (i + 1) x (pos 0) low is in
    let held = c.loop-i.invariant.weighs in
    let t = picked (λ b. Top f (i + 1 + 1) b.message × (w b.reading ≡ f b.message))
    (lt_z (w c.loop-i.best.reading) (w x)) c.loop-i.best _ c.or_heavier-best.result c.or_heavier-best.ensures
    (λ e. let l = less (w c.loop-i.best.reading) (w x) e in (largest_takes f (i + 1) m c.loop-i.invariant.top (omega (arith, ints)), sym read))
    (λ e. let l = not_less (w c.loop-i.best.reading) (w x) e in (largest_keeps f (i + 1) m c.loop-i.invariant.top (omega (arith, ints)), held)) in
    record { top = t.0; weighs = t.1 }
