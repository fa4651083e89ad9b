-- The book of a sheet with no passes has nothing standing.
use Rattle.std.proofs.Common.{◌≡◌, ℕ, zero, suc, ◌+◌, List, [], ◌∷◌, length, set, replicate, ℤ, pos, Some, None, Option, refl, ap, ◌∙◌, arith}
use lib.ListN.{length-replicate}
use Rattle.std.proofs.lemmas.List.{length-set}
use Rattle.code.specs.declared.refusal.Refusal.{Refusal}
use Rattle.sample.specs.declared.Sample.{Sample}
use Rattle.sheet.specs.Cells.{pass_check}
use Rattle.sheet.specs.Book.{Call, Pass, Strike, Clear, Search, Book, laid, add_labels, unless_refused, step, after, book_of}

-- so many totals, and nothing standing while there are no passes
pub record Quiet (n : ℕ) (b : Book) : Type 0 where
  pub places : length b.totals ≡ n
  pub nothing : b.count ≡ 0 → b.totals ≡ replicate n (pos 0)

set_nothing : (n k : ℕ) → set (replicate n (pos 0)) k (pos 0) ≡ replicate n (pos 0)
set_nothing zero k = refl
set_nothing (suc n) zero = refl
set_nothing (suc n) (suc k) = ap (λ xs. pos 0 ∷ xs) (set_nothing n k)

length-added : (m s : ℕ) (ts : List ℤ) (xs : List Sample) → length (add_labels m s ts xs) ≡ length ts
length-added m s [] xs = refl
length-added m s (t ∷ ts) [] = refl
length-added m s (t ∷ ts) (x ∷ xs) = ap suc (length-added m s ts xs)

module _ (m s n : ℕ) where
  quiet_pass : (b : Book) (xs : List Sample) (o : Option Refusal) → Quiet n b → Quiet n (unless_refused o (record { count = b.count + 1; totals = add_labels m s b.totals xs }) b)
  quiet_pass b xs None q = record { places = length-added m s b.totals xs ∙ q.places; nothing = λ e. absurd (omega arith) }
  quiet_pass b xs (Some e) q = q

  quiet_step : (b : Book) (c : Call) → Quiet n b → Quiet n (step m s b c)
  quiet_step b (Pass xs) q = quiet_pass b xs (pass_check (length b.totals) b.count xs) q
  quiet_step b (Strike k) q = record {
    places = length-set b.totals k (pos 0) ∙ q.places;
    nothing = λ e. ap (λ ts. set ts k (pos 0)) (q.nothing e) ∙ set_nothing n k;
  }
  quiet_step b Clear q = record {
    places = length-replicate (length b.totals) (pos 0) ∙ q.places;
    nothing = λ e. ap (λ k. replicate k (pos 0)) q.places;
  }
  quiet_step b Search q = q

  quiet_after : (b : Book) (h : List Call) → Quiet n b → Quiet n (after m s b h)
  quiet_after b [] q = q
  quiet_after b (c ∷ h) q = quiet_after (step m s b c) h (quiet_step b c q)

  pub quiet_book : (h : List Call) → Quiet n (book_of m s n h)
  unfolding book_of
  quiet_book h = quiet_after (laid n) h (record { places = length-replicate n (pos 0); nothing = λ e. refl })
