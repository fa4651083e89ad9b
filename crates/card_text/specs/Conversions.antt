-- A card's text made into its file, and a file shown as text.
use Rattle.std.specs.Prelude.{ℕ, List, Some, None, Ok, Err, Option, Result}
use Rattle.code.specs.declared.refusal.Refusal.{Refusal}
use Rattle.card.specs.Cards.{Card}
use Rattle.card_file.specs.Files.{overwritten, wrote}
use Rattle.card_text.specs.declared.fault.Fault.{Fault}
use Rattle.card_text.specs.declared.fault.Fault.TheVariants.{InText, Refused}
use Rattle.card_text.specs.declared.fault.TextFault.{TextFault}
use Rattle.card_text.specs.Drafts.{on_ok}

-- what was read, with a fault as that of a conversion
abbrev pub text_told : Result Card TextFault → Result Card Fault
text_told (Ok k) = Ok k
text_told (Err f) = Err (InText f)

abbrev pub file_told : {A : Type 0} → Result A Refusal → Result A Fault
file_told (Ok a) = Ok a
file_told (Err e) = Err (Refused e)

-- the answer of writing what was read, in the form `bytes_of`, into memory of some length
abbrev pub converted : (bytes_of : Card → List ℕ) → Result Card Fault → ℕ → Result ℕ Fault
converted bytes_of r n = on_ok r (λ k. file_told (wrote (bytes_of k) n))

-- and the memory after it
abbrev pub written_as : (bytes_of : Card → List ℕ) → Option Card → List ℕ → List ℕ
written_as bytes_of (Some k) before = overwritten (bytes_of k) before
written_as bytes_of None before = before
