-- The words of a refusal, as every program prints them.
-- Assumes nothing.
use Rattle.std.specs.Prelude.{ℕ, List, ◌++◌, codes, decimal}
use Rattle.refusal.specs.Told.{told}
use Rattle.refusal.specs.declared.Layer.{Layer}
use Rattle.refusal.specs.declared.Layer.TheVariants.{Cipher, Card, Recipe, Register, Page}
use Rattle.refusal.specs.declared.Refusal.{Refusal}
use Rattle.refusal.specs.declared.Refusal.TheVariants.{TextTooLong, OutputTooShort, TagDiffers, NotACard, LengthTooLarge, EmptyRecipe, WrongCardLength, BufferTooShort, BadLine, WrongPhase, OverTotal, NumberTooLarge, NumberUsed, TooManyRuns, BadPage, NotBlank}

abbrev pub layer_name : Layer → List ℕ
layer_name Cipher = codes "cipher"
layer_name Card = codes "card"
layer_name Recipe = codes "recipe"
layer_name Register = codes "register"
layer_name Page = codes "page"

abbrev pub reason_of : Refusal → List ℕ
reason_of TextTooLong = codes "the text is over 65,536 bytes"
reason_of OutputTooShort = codes "the output buffer is too short"
reason_of TagDiffers = codes "the tag is missing or differs"
reason_of NotACard = codes "this is not a card"
reason_of LengthTooLarge = codes "a length is too large"
reason_of EmptyRecipe = codes "the recipe is empty"
reason_of WrongCardLength = codes "the card has the wrong length"
reason_of BufferTooShort = codes "the buffer is too short"
reason_of (BadLine p) = codes "unknown letter, cut line or field out of range"
reason_of (WrongPhase p) = codes "the line is wrong for the trough's phase, or the trough is not empty at the end"
reason_of OverTotal = codes "the doses sum to over 12,000,000 g"
reason_of NumberTooLarge = codes "the number is above 4,095"
reason_of NumberUsed = codes "the number is used"
reason_of TooManyRuns = codes "more runs of used numbers than the register keeps"
reason_of (BadPage p) = codes "the number page is wrong"
reason_of NotBlank = codes "the register is not blank"

-- refused by N, layer LAYER, place P: REASON
abbrev pub line : Refusal → List ℕ
line e =
    codes "refused by " ++ (decimal (told e).number ++ (codes ", layer " ++ (layer_name (told e).layer ++ (codes ", place " ++ (decimal (told e).place ++ (codes ": " ++ reason_of e))))))
