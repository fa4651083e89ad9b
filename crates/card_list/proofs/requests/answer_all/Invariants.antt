use Rattle.std.proofs.Common.{◌≡◌, ℕ, ◌<◌, take, drop}
use Rattle.card.specs.OpenCards.{card_in}
use Rattle.card_list.specs.Requests.{card_after, DueAt, view_after, view_of}
use Rattle.card_list.proofs.requests.answer_all.Given as goal

abbrev pub invariant-loop-i : goal.invariant-loop-i
invariant-loop-i l = record {
  view : view_of l.card ≡ view_after l.fn.len (take l.i l.requests) (take l.i l.answers);
  due : (j : ℕ) → j < l.i → DueAt l.fn.len l.requests l.answers j;
  card : card_in l.card ≡ card_after l.fn.len (take l.i l.requests) (take l.i l.answers);
  beyond : drop l.i l.answers ≡ drop l.i l.initial.answers;
}
