use Rattle.std.proofs.Common.{◌≡◌, ℕ, ◌+◌, ◌*◌, ◌%◌, ◌^◌, ◌≤◌, List, ◌++◌, map, length, ℤ, sym, refl, ap, ◌∙◌, subst, ap₂, arith}
use lib.Signed.{lt_z}
use Rattle.std.proofs.lemmas.Nat.{one_shl, pow_pos}
use Rattle.std.proofs.lemmas.List.{length-map}
use Rattle.code.specs.Words.{agrees, Top, Best, codeword, negated_at}
use Rattle.finder.proofs.Picks.{picked}
use Rattle.finder.proofs.Refusals.{taken_sizes}
use Rattle.coset_layer.specs.Pile.{cut_to}
use Rattle.coset_layer.specs.Piles.{codeword-cut}
use Rattle.coset_layer.proofs.Turns.{first_turn, last_turn, turn_takes, turn_keeps, choice_below, choice_shift, message_below}
use Rattle.coset_layer.proofs.search_choices.Goals as goal

pub loop-choice-init : goal.loop-choice-init
loop-choice-init g c =
    let h = c.in_ok-best.ensures in
    let r = g.R.Reading in
    let rows = (g.F.Finder.meaning c.args.below.now).rows in
    let own = cut_to (g.F.Finder.meaning c.args.below.now).span c.args.own.now in
    let t = first_turn rows own (map r.weight c.args.word.now) (map r.weight c.search.new.word) (ap (map r.weight) h.same) c.in_ok-best.best.message (r.weight c.in_ok-best.best.reading) h.answer.is_best h.answer.weighs in
    (refl, refl, t.0, t.1)

pub search_negated-requires : goal.search_negated-requires
search_negated-requires g c =
    let h = c.in_ok-best.ensures in
    taken_sizes g.R.Reading.size _ _ c.args.word.now c.loop-choice.word _ h.answer.taken (c.loop-choice.invariant.0 ∙ h.same)

pub overflow_add-piled : goal.overflow_add-piled
overflow_add-piled g c =
    let h = c.in_ok-found.ensures in
    let rows = length (g.F.Finder.meaning c.args.below.now).rows in
    let own = length c.args.own.now in
    let p = c.requires in
    let room : own + rows ≤ 24 = p.room in
    let l = choice_below c.loop-choice.choice own p.few c.loop-choice-test.true in
    let s = ap (λ (k : ℕ). (c.loop-choice.choice * 2 ^ k) % 4294967296) c.requires.count ∙ choice_shift c.loop-choice.choice own rows l room in
    let b = message_below c.loop-choice.choice own rows c.in_ok-found.found.message l room h.answer.0.within in
    omega arith

pub loop-choice-preserved : goal.loop-choice-preserved
loop-choice-preserved g c =
    let h = c.in_ok-best.ensures in
    let a = c.in_ok-found.ensures.answer in
    let r = g.R.Reading in
    let rows = (g.F.Finder.meaning c.args.below.now).rows in
    let own = cut_to (g.F.Finder.meaning c.args.below.now).span c.args.own.now in
    let m = c.in_ok-found.found.message in
    let y = c.in_ok-found.found.reading in
    let ch = c.loop-choice.choice in
    let ws : List ℤ = map r.weight c.search.new.word in
    let p = c.requires in
    let room : length c.args.own.now + length rows ≤ 24 = p.room in
    let l = choice_below ch (length c.args.own.now) p.few c.loop-choice-test.true in
    let s : (ch * 2 ^ c.args.k) % 4294967296 ≡ ch * 2 ^ length rows = ap (λ (k : ℕ). (ch * 2 ^ k) % 4294967296) c.requires.count ∙ choice_shift ch (length c.args.own.now) (length rows) l room in
    let mask : c.first_digits-mask.result ≡ codeword own ch = c.first_digits-mask.ensures ∙ ap₂ (λ (x k : ℕ). x % 2 ^ k) c.word_of.ensures.value (c.places-n.ensures.value ∙ c.length.ensures) ∙ sym (codeword-cut (g.F.Finder.meaning c.args.below.now).span c.args.own.now ch) in
    let same = c.loop-choice.invariant.0 in
    let vs : negated_at (map r.weight c.loop-choice.word) c.first_digits-mask.result ≡ negated_at ws (codeword own ch) =
    ap (λ (w : List _). negated_at (map r.weight w) c.first_digits-mask.result) same ∙ ap (negated_at ws) mask in
    let best = subst (λ (v : List ℤ). Best rows v m) vs a.0 in
    let wy : r.weight y ≡ agrees rows (negated_at ws (codeword own ch)) m = a.1 ∙ ap (λ (v : List ℤ). agrees rows v m) vs in
    let x = r.weight c.loop-choice.best.reading in
    let em : m + (ch * 2 ^ c.args.k) % 4294967296 ≡ m + ch * 2 ^ length rows = ap (λ (k : ℕ). m + k) s in
    let t = picked (λ f. Top (agrees (rows ++ own) ws) ((ch + 1) * 2 ^ length rows) f.message × (r.weight f.reading ≡ agrees (rows ++ own) ws f.message))
    (lt_z x (r.weight y)) c.loop-choice.best _ c.or_heavier-best.result c.or_heavier-best.ensures
    (λ e. subst (λ (k : ℕ). Top (agrees (rows ++ own) ws) ((ch + 1) * 2 ^ length rows) k × (r.weight y ≡ agrees (rows ++ own) ws k)) (sym em)
    (turn_takes rows own ws ch m c.loop-choice.best.message x (r.weight y) best wy c.loop-choice.invariant.2 c.loop-choice.invariant.3 e))
    (λ e. turn_keeps rows own ws ch m c.loop-choice.best.message x (r.weight y) best wy c.loop-choice.invariant.2 c.loop-choice.invariant.3 e) in
    (c.search_negated.ensures.same ∙ same, a.2 ∙ c.loop-choice.invariant.1, t.0, t.1)

pub returns : goal.returns
returns g c =
    let h = c.in_ok-best.ensures in
    let r = g.R.Reading in
    let rows = (g.F.Finder.meaning c.args.below.now).rows in
    let own = cut_to (g.F.Finder.meaning c.args.below.now).span c.args.own.now in
    let ml = length-map c.args.own.now (λ w. w % 2 ^ (g.F.Finder.meaning c.args.below.now).span) in
    let full : c.loop-choice.choice ≡ 2 ^ length own =
    (let q : length c.args.own.now ≤ 4 = c.requires.few in let e = one_shl (length c.args.own.now) 32 (omega arith) in let p = pow_pos (length c.args.own.now) in
    let k : c.loop-choice.choice ≡ 2 ^ length c.args.own.now = omega arith in k ∙ ap (λ (j : ℕ). 2 ^ j) (sym ml)) in
    let ws : List ℤ = map r.weight c.search.new.word in
    let same : ws ≡ map r.weight c.args.word.now = ap (map r.weight) h.same in
    record {
      same = c.loop-choice.invariant.0 ∙ h.same;
      answer = record {
        taken = h.answer.taken;
        is_best = subst (λ (v : List ℤ). Best (rows ++ own) v c.loop-choice.best.message) same (last_turn rows own ws c.loop-choice.choice c.loop-choice.best.message full c.loop-choice.invariant.2);
        weighs = c.loop-choice.invariant.3 ∙ ap (λ (v : List ℤ). agrees (rows ++ own) v c.loop-choice.best.message) same;
        beyond = c.loop-choice.invariant.1 ∙ h.answer.beyond;
      };
    }
