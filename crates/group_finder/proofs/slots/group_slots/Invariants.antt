use Rattle.std.proofs.Common.{◌≡◌, ℕ, ◌+◌, ◌*◌, ◌/◌, ◌<◌, ◌≤◌, length, get_or}
use Rattle.finder.specs.Fold.{column}
use Rattle.group_finder.specs.Choices.{Slotted}
use Rattle.group_finder.proofs.slots.group_slots.Given as goal

-- the places before i have their entries, the others still their columns
abbrev pub invariant-loop-i : goal.invariant-loop-i
invariant-loop-i l =
    (length l.slots ≡ 64)
    × ((k : ℕ) → k < l.i → Slotted (length l.group) (column l.group k) (get_or l.slots k 0 / l.span))
    × ((k : ℕ) → k < l.i → get_or l.slots k 0 ≡ get_or l.slots k 0 / l.span * l.span + column l.others k)
    × ((k : ℕ) → l.i ≤ k → k < l.i-end → get_or l.slots k 0 ≡ column l.others k)
