use Rattle.std.proofs.Common.{◌≡◌, ◌+◌, ◌<◌, length, take, drop, Some, sym, refl, ap, ◌∙◌, ap₂, arith}
use Rattle.std.proofs.lemmas.List.{drop-drop, drop-set-lt, take_all}
use Rattle.code.specs.declared.refusal.Section.TheVariants.{Group}
use Rattle.card.specs.Cards.{blank}
use Rattle.card.specs.OpenCards.{card_in}
use Rattle.card_list.specs.Requests.{card_after, view_of}
use Rattle.card_list.proofs.RequestLists.{card_front, card_more, own_more, view_more}
use Rattle.card_list.proofs.requests.answer_all.Goals as goal

pub loop-i-init : goal.loop-i-init
loop-i-init c = record {
  view = rw (c.new.ensures.card, c.new.ensures.section) refl;
  due = λ j h. absurd (omega arith);
  card = c.new.ensures.card;
  beyond = refl;
}

pub loop-i-preserved : goal.loop-i-preserved
loop-i-preserved c =
    let n = c.args.len in
    let rs = c.args.requests.now in
    let bs = c.loop-i.answers in
    let i = c.loop-i.i in
    let k = c.loop-i.card in
    let (l, a) = c.answer_one-next.result in
    let now = c.answer_one-next.ensures in
    let before = c.loop-i.invariant in
    let hr : i < length rs = c.loop-i-test.true in
    let hb : i < length bs = omega (arith, c.requires) in
    record {
      view = view_more n rs bs i a (view_of k) (view_of l) hr hb before.view now.view;
      due = own_more n rs bs i a (view_of k) hb before.view now.due before.due;
      card = card_more n rs bs i a (view_of k) (card_in k) (card_in l) hr hb before.view before.card now.card;
      beyond = drop-set-lt (i + 1) bs i a (omega arith) ∙ sym (drop-drop 1 i bs) ∙ ap (drop 1) before.beyond ∙ drop-drop 1 i c.args.answers.now;
    }

pub returns : goal.returns
returns c =
    let n = c.args.len in
    let rs = c.args.requests.now in
    let bs = c.loop-i.answers in
    let before = c.loop-i.invariant in
    let all : c.loop-i.i ≡ length rs = omega arith in
    record {
      law = λ j h. before.due j (omega arith);
      card = before.card ∙ ap₂ (card_after n) (take_all c.loop-i.i rs (omega arith)) (ap (λ i. take i bs) all) ∙ card_front (Some Group) (blank n) rs bs;
      beyond = rw (← all) before.beyond;
    }
