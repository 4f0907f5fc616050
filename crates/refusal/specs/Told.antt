-- What a refusal tells its caller: its number, its layer and a byte place.
-- The one table that every contract and every printed refusal goes by.
-- Assumes nothing.
use Rattle.std.specs.Prelude.{ℕ}
use Rattle.refusal.specs.declared.Layer.{Layer}
use Rattle.refusal.specs.declared.Layer.TheVariants.{Cipher, Card, Recipe, Register, Page}
use Rattle.refusal.specs.declared.Refusal.{Refusal}
use Rattle.refusal.specs.declared.Refusal.TheVariants.{TextTooLong, OutputTooShort, TagDiffers, NotACard, LengthTooLarge, EmptyRecipe, WrongCardLength, BufferTooShort, BadLine, WrongPhase, OverTotal, NumberTooLarge, NumberUsed, TooManyRuns, BadPage, NotBlank}

pub record Told : Type 0 where
  pub number : ℕ
  pub layer : Layer
  pub place : ℕ

abbrev pub telling : ℕ → Layer → ℕ → Told
telling n l p = record { number = n; layer = l; place = p }

abbrev pub told : Refusal → Told
told TextTooLong = telling 1 Cipher 0
told OutputTooShort = telling 2 Cipher 0
told TagDiffers = telling 3 Cipher 0
told NotACard = telling 4 Card 0
told LengthTooLarge = telling 5 Card 0
told EmptyRecipe = telling 6 Card 0
told WrongCardLength = telling 7 Card 0
told BufferTooShort = telling 8 Card 0
told (BadLine p) = telling 9 Recipe p
told (WrongPhase p) = telling 10 Recipe p
told OverTotal = telling 11 Recipe 0
told NumberTooLarge = telling 12 Register 0
told NumberUsed = telling 13 Register 0
told TooManyRuns = telling 14 Register 0
told (BadPage p) = telling 15 Page p
told NotBlank = telling 16 Page 0
