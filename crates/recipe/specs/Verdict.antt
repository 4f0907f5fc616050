-- The judge of a recipe: the lines that its bytes hold, its first fault from the left, its total, and the verdict.
-- Assumes nothing.
use Rattle.std.specs.Prelude.{ℕ, zero, suc, ◌+◌, ◌-◌, ◌^◌, min, if◌then◌else◌, List, [], ◌∷◌, length, Some, None, Ok, Err, Option, Result, nat_le}
use Rattle.refusal.specs.declared.Refusal.{Refusal}
use Rattle.refusal.specs.declared.Refusal.TheVariants.{BadLine, WrongPhase, OverTotal}
use Rattle.recipe.specs.declared.trough.Phase.{Phase}
use Rattle.recipe.specs.declared.trough.Phase.TheVariants.{Empty, Filled, Mixed}
use Rattle.recipe.specs.declared.verdict.Lawful.{Lawful}
use Rattle.recipe.specs.Lines.{Entry, grams_of, bytes_of, read_line}
use Rattle.recipe.specs.Trough.{step_of}

-- what bytes hold: nothing more, something that is no line, or a line and what the bytes after it hold
pub data Held : Type 0 where
  done : Held
  bad : Held
  next : Entry → Held → Held

-- a line has a byte at least, so that as many steps as bytes are enough
abbrev pub held_in : ℕ → List ℕ → Held
held_in steps [] = done
held_in zero (b ∷ bs) = bad
held_in (suc steps) (b ∷ bs) = elim (read_line (b ∷ bs)) [ None ↦ bad | Some x ↦ next x.0 (held_in steps x.1) ]

abbrev pub held : List ℕ → Held
held bs = held_in (length bs) bs

abbrev pub entries : Held → List Entry
entries done = []
entries bad = []
entries (next e h) = e ∷ entries h

abbrev pub total : List Entry → ℕ
total [] = 0
total (e ∷ es) = grams_of e + total es

-- the trough must end empty
abbrev pub end_fault : ℕ → Phase → Option Refusal
end_fault place Empty = None
end_fault place Filled = Some (WrongPhase place)
end_fault place Mixed = Some (WrongPhase place)

-- the first fault from the left, where the trough is in a phase and the bytes begin at a place
abbrev pub fault : Phase → ℕ → Held → Option Refusal
fault phase place done = end_fault place phase
fault phase place bad = Some (BadLine place)
fault phase place (next e h) =
    elim (step_of phase e) [ None ↦ Some (WrongPhase place) | Some after ↦ fault after (place + length (bytes_of e)) h ]

-- a whole recipe without a fault, as it is walked: its lines, and its grams by a sum that stops at the largest number of 32 bits
abbrev pub counted : List Entry → Lawful
counted es = record { lines = length es; grams = min (total es) (2 ^ 32 - 1) }

abbrev pub walked : List ℕ → Result Lawful Refusal
walked bs = elim (fault Empty 0 (held bs)) [ None ↦ Ok (counted (entries (held bs))) | Some f ↦ Err f ]

-- the total is looked at last
abbrev pub weighed : List Entry → Result Lawful Refusal
weighed es = if nat_le (total es) 12_000_000 then Ok (record { lines = length es; grams = total es }) else Err OverTotal

abbrev pub verdict : List ℕ → Result Lawful Refusal
verdict bs = elim (fault Empty 0 (held bs)) [ None ↦ weighed (entries (held bs)) | Some f ↦ Err f ]
