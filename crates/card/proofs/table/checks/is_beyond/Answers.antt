use Rattle.card.proofs.Tables.{shifted_beyond}
use Rattle.card.proofs.table.checks.is_beyond.Goals as goal

pub returns-then-places-lt-MAX_PLACES : goal.returns-then-places-lt-MAX_PLACES
returns-then-places-lt-MAX_PLACES c = shifted_beyond c.args.places c.args.row
