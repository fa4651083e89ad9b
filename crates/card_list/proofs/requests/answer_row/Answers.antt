use Rattle.card.specs.OpenCards.{open_of, shown}
use Rattle.card_list.proofs.RequestLists.{due_told}
use Rattle.card_list.proofs.requests.answer_row.Goals as goal

pub returns-clause-due : goal.returns-clause-due
returns-clause-due c =
    rw (c.from-answer.ensures) (due_told (shown c.args.card) (open_of c.args.card) c.args.row c.add_row.result c.add_row.ensures.told)
