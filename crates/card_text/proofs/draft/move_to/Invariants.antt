use Rattle.std.proofs.Common.{◌≡◌, ◌-◌}
use Rattle.card.specs.OpenCards.{open_of, shown}
use Rattle.card_text.specs.Drafts.{rank, reopened}
use Rattle.card_text.proofs.draft.move_to.Given as goal

-- the card is the same, and the section is closed on it just where it was at first
abbrev pub invariant-loop-section : goal.invariant-loop-section
invariant-loop-section l = (shown l.open ≡ shown l.fn.card) × (reopened (open_of l.open) l.section ≡ reopened (open_of l.fn.card) l.section)

abbrev pub decreases-loop-section : goal.decreases-loop-section
decreases-loop-section l = 2 - rank (open_of l.open)
