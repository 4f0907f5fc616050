-- The lines of a recipe: what a line says, its range, its bytes, and the line that some bytes begin with.
-- Assumes nothing.
use Rattle.std.specs.Prelude.{◌≡◌, ℕ, ◌+◌, ◌*◌, ◌/◌, ◌%◌, Bool, true, if◌then◌else◌, ◌&&◌, List, [], ◌∷◌, ◌++◌, length, take, drop, Some, None, Ok, Err, Option, Result, MatchOption, ◌==◌, nat_le, slice_index}
use Rattle.std.specs.Borrow.{Bor}
use Rattle.std.specs.Bool.{then_some}
use Rattle.std.specs.List.{list_all}
use Rattle.std.specs.Option.{option_map}
use Rattle.refusal.specs.declared.Refusal.{Refusal}
use Rattle.refusal.specs.declared.Refusal.TheVariants.{BadLine, BufferTooShort}
use Rattle.recipe.specs.declared.lines.Line.{Line}
use Rattle.recipe.specs.declared.lines.Line.TheVariants.{Dose, Mix, Empty, Remark}

-- what a line says
pub data Entry : Type 0 where
  dose : (bin grams : ℕ) → Entry
  mix : (seconds : ℕ) → Entry
  empty : Entry
  remark : (text : List ℕ) → Entry

abbrev pub says : Line → Entry
says (Dose bin grams) = dose bin grams
says (Mix seconds) = mix seconds
says Empty = empty
says (Remark text) = remark text.now

-- the grams of a dose; any other line doses nothing
abbrev pub grams_of : Entry → ℕ
grams_of (dose bin grams) = grams
grams_of (mix seconds) = 0
grams_of empty = 0
grams_of (remark text) = 0

abbrev pub within : ℕ → ℕ → ℕ → Bool
within low high n = nat_le low n && nat_le n high

-- a byte that a remark may hold
abbrev pub printable : ℕ → Bool
printable b = within 0x20 0x7E b

abbrev pub all_printable : List ℕ → Bool
all_printable bs = list_all printable bs

abbrev pub in_range : Entry → Bool
in_range (dose bin grams) = within 1 32 bin && within 1 2_000_000 grams
in_range (mix seconds) = within 1 3_600 seconds
in_range empty = true
in_range (remark text) = within 1 80 (length text) && all_printable text

-- the line e, if its fields are in range
abbrev pub in_range_only : Entry → Option Entry
in_range_only e = then_some (in_range e) e

-- a number of two or four bytes lies low byte first
abbrev pub two : ℕ → List ℕ
two n = (n % 256) ∷ (n / 256 % 256) ∷ []

abbrev pub four : ℕ → List ℕ
four n = (n % 256) ∷ (n / 256 % 256) ∷ (n / 65_536 % 256) ∷ (n / 16_777_216 % 256) ∷ []

-- the letters D, M, E, R
abbrev pub bytes_of : Entry → List ℕ
bytes_of (dose bin grams) = 0x44 ∷ bin ∷ four grams
bytes_of (mix seconds) = 0x4D ∷ two seconds
bytes_of empty = 0x45 ∷ []
bytes_of (remark text) = 0x52 ∷ length text ∷ text

-- the line e of n bytes at the front of bs, with the rest, if the bytes are there and its fields are in range
abbrev pub whole : ℕ → Entry → List ℕ → Option (Entry × List ℕ)
whole n e bs = if nat_le n (length bs) && in_range e then Some (e, drop n bs) else None

-- what the bytes after its letter say of a dose, a mix and a remark
abbrev pub dose_in : List ℕ → Entry
dose_in bs = dose (slice_index bs 0) (slice_index bs 1 + slice_index bs 2 * 256 + slice_index bs 3 * 65_536 + slice_index bs 4 * 16_777_216)

abbrev pub mix_in : List ℕ → Entry
mix_in bs = mix (slice_index bs 0 + slice_index bs 1 * 256)

abbrev pub remark_in : List ℕ → Entry
remark_in bs = remark (take (slice_index bs 0) (drop 1 bs))

-- the line that the bytes begin with, and the rest; an unknown letter, a cut line and a field out of range are no line
abbrev pub read_line : List ℕ → Option (Entry × List ℕ)
read_line [] = None
read_line (letter ∷ bs) =
    if letter == 0x44 then whole 5 (dose_in bs) bs
    else if letter == 0x4D then whole 2 (mix_in bs) bs
    else if letter == 0x45 then whole 0 empty bs
    else if letter == 0x52 then whole (1 + slice_index bs 0) (remark_in bs) bs
    else None

-- what a reader of lines gives: what the line says, and the rest
abbrev pub given : Option (Line × Bor (List ℕ)) → Option (Entry × List ℕ)
given r = option_map (λ x. (says x.0, x.1.now)) r

-- a line with its fields in range stands in front of rest
abbrev pub Stands : Entry → List ℕ → List ℕ → Type 0
Stands e rest bs = (in_range e ≡ true) × (bs ≡ bytes_of e ++ rest)

-- reading tells the line that stands in front, or that none does
abbrev pub Told : List ℕ → Option (Entry × List ℕ) → Type 0
Told bs r = MatchOption r ((e : Entry) (rest : List ℕ) → Stands e rest bs → ⊥) (λ x. Stands x.0 x.1 bs)

-- bytes laid over the front of a buffer: the answer, and what the buffer holds then
abbrev pub covering : List ℕ → List ℕ → Result ℕ Refusal
covering bs out = if nat_le (length bs) (length out) then Ok (length bs) else Err BufferTooShort

abbrev pub covered : List ℕ → List ℕ → List ℕ
covered bs out = if nat_le (length bs) (length out) then bs ++ drop (length bs) out else out

-- a line written into a buffer: the answer, and what the buffer holds then
abbrev pub writing : Entry → List ℕ → Result ℕ Refusal
writing e out = if in_range e then covering (bytes_of e) out else Err (BadLine 0)

abbrev pub written : Entry → List ℕ → List ℕ
written e out = if in_range e then covered (bytes_of e) out else out

-- the line that was written is the line that is read, and the buffer's other bytes follow it
abbrev pub ReadBack : Entry → List ℕ → List ℕ → Result ℕ Refusal → Type 0
ReadBack e before after r = (n : ℕ) → r ≡ Ok n → read_line after ≡ Some (e, drop n before)
