use Rattle.std.proofs.Common.{◌≡◌}
use Rattle.ffi.specs.Batch.{SearchedFirst}
use Rattle.ffi.proofs.batch.search_all.Given as goal

-- the words are as they were, and the answers so far are those to the first words
abbrev pub invariant-loop-j : goal.invariant-loop-j
invariant-loop-j g l = (l.words ≡ l.initial.words) × SearchedFirst l.j (g.F.Finder.meaning l.finder) l.initial.words l.initial.work l.work l.answers
