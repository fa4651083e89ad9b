-- The number of each refusal, and the layer of each number.
use Rattle.std.specs.Prelude.{ℕ, cond, nat_le}
use Rattle.code.specs.declared.refusal.Layer.{Layer}
use Rattle.code.specs.declared.refusal.Layer.TheVariants.{Card, Deck, Finder, Console}
use Rattle.code.specs.declared.refusal.Refusal.{Refusal}
use Rattle.code.specs.declared.refusal.Refusal.TheVariants.{LengthOutOfRange, DigitBeyondLength, SectionFull, DependentRow, ConcurrenceBroken, BytesEndEarly, BytesLeftOver, PassLengthDiffers, TooManyPasses, BitNotBinary, LevelOutOfRange, PlaceOffSheet, WordLengthDiffers, SizeTooLarge, WorkMemoryShort, LayerFull, PileFull, ListNotPower, ListTotalTooLarge, OutputShort, MessageTooLarge, UnknownCommand, UnknownLetter, NotTwoDigits, InputTooLong}

-- 21 is not used
abbrev pub number_of : Refusal → ℕ
number_of LengthOutOfRange = 1
number_of (DigitBeyondLength section index) = 2
number_of (SectionFull section) = 3
number_of (DependentRow section index) = 4
number_of (ConcurrenceBroken section index) = 5
number_of BytesEndEarly = 6
number_of BytesLeftOver = 7
number_of PassLengthDiffers = 8
number_of TooManyPasses = 9
number_of (BitNotBinary place) = 10
number_of (LevelOutOfRange place) = 11
number_of (PlaceOffSheet place) = 12
number_of WordLengthDiffers = 13
number_of (SizeTooLarge place) = 14
number_of WorkMemoryShort = 15
number_of LayerFull = 16
number_of PileFull = 17
number_of ListNotPower = 18
number_of ListTotalTooLarge = 19
number_of OutputShort = 20
number_of MessageTooLarge = 22
number_of UnknownCommand = 23
number_of (UnknownLetter place) = 24
number_of NotTwoDigits = 25
number_of InputTooLong = 26

-- the card's up to 7, the deck's up to 12, the finder's up to 22, the console's above
abbrev pub layer_of : ℕ → Layer
layer_of n = cond (nat_le n 7) Card (cond (nat_le n 12) Deck (cond (nat_le n 22) Finder Console))
