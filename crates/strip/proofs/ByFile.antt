-- What a call that reads a file into a card tells of the file.
use Rattle.std.proofs.Common.{◌≡◌, ℕ, Ok, Err, Result, sym, ap, arith}
use Rattle.code.specs.declared.refusal.Refusal.{Refusal}
use Rattle.card.specs.Cards.{Card}
use Rattle.card_file.specs.Files.{noted, refilled}

pub read_gives : (r : Result Card Refusal) (old new : Card) → Ok tt ≡ noted r → new ≡ refilled r old → r ≡ Ok new
read_gives (Ok k) old new a e = ap (λ (x : Card). Ok x) (sym e)
read_gives (Err x) old new a e = let z : ◌≡◌ {A = ℕ} 0 1 = cc in absurd (omega arith)

pub read_refuses : (r : Result Card Refusal) (e : Refusal) → Err e ≡ noted r → r ≡ Err e
read_refuses (Ok k) e a = let z : ◌≡◌ {A = ℕ} 0 1 = cc in absurd (omega arith)
read_refuses (Err x) e a = cc
