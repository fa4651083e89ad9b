-- What crosses the boundary to other languages.
use Rattle.std.specs.Prelude.{◌≡◌, ℕ, zero, suc, List, Ok, Err, Result}
use Rattle.code.specs.declared.refusal.Refusal.{Refusal}
use Rattle.code.specs.Refusals.{number_of}
use Rattle.reading.specs.declared.Reading.{Ghosts as Kind}
use Rattle.hadamard.specs.Transform.{Transformed}

-- 0 where a call was answered, else the refusal's number
abbrev pub numbered : Result Unit Refusal → ℕ
numbered (Ok u) = 0
numbered (Err e) = number_of e

-- a list that was transformed, or, refused, is as before
abbrev pub Left : {R : Type 0} → Kind R → ℕ → List R → List R → Type 0
Left kind zero old new = Transformed kind old new
Left kind (suc n) old new = new ≡ old
