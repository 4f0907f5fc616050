-- What the verdict means, by lists of lines and not by the judge's steps.
-- Assumes nothing.
use Rattle.std.specs.Prelude.{◌≡◌, ℕ, ◌<◌, ◌≤◌, true, List, [], ◌∷◌, ◌++◌, length, Some, None, Ok, Err, Option, Result, MatchResult, ◌≢◌}
use Rattle.std.specs.List.{flat_map, AllByRecursion}
use Rattle.refusal.specs.declared.Refusal.{Refusal}
use Rattle.refusal.specs.declared.Refusal.TheVariants.{BadLine, WrongPhase, OverTotal}
use Rattle.recipe.specs.declared.trough.Phase.{Phase}
use Rattle.recipe.specs.declared.trough.Phase.TheVariants.{Empty}
use Rattle.recipe.specs.declared.verdict.Lawful.{Lawful}
use Rattle.recipe.specs.Lines.{Entry, in_range, bytes_of, Stands}
use Rattle.recipe.specs.Trough.{step_of}
use Rattle.recipe.specs.Verdict.{total}

-- the phase that lines lead to, one after the other, or none if one of them is wrong for its phase
abbrev pub followed : Phase → List Entry → Option Phase
followed phase [] = Some phase
followed phase (e ∷ es) = elim (step_of phase e) [ None ↦ None | Some after ↦ followed after es ]

-- the bytes bs are the lines es, their fields in range, and then rest
pub record Begins (bs : List ℕ) (es : List Entry) (rest : List ℕ) : Type 0 where
  pub ranges : AllByRecursion (λ e. in_range e ≡ true) es
  pub bytes : bs ≡ flat_map bytes_of es ++ rest

-- the trough can follow es from empty to this phase
abbrev pub Follows : List Entry → Phase → Type 0
Follows es phase = followed Empty es ≡ Some phase

-- the bytes of lines that may be run: the trough ends empty, and the doses are not too much
pub record MayRun (bs : List ℕ) (es : List Entry) : Type 0 where
  pub reads : Begins bs es []
  pub empties : Follows es Empty
  pub light : total es ≤ 12_000_000

-- why bytes may not be run; es are the lines before the fault
pub data Fault (bs : List ℕ) : Refusal → Type 0 where
  no_line : (es : List Entry) (phase : Phase) (rest : List ℕ) → Begins bs es rest → Follows es phase → 0 < length rest
      → ((e : Entry) (after : List ℕ) → Stands e after rest → ⊥) → Fault bs (BadLine (length (flat_map bytes_of es)))
  wrong_line : (es : List Entry) (phase : Phase) (rest : List ℕ) → Begins bs es rest → Follows es phase
      → (e : Entry) (after : List ℕ) → Stands e after rest → step_of phase e ≡ None → Fault bs (WrongPhase (length (flat_map bytes_of es)))
  wrong_end : (es : List Entry) (phase : Phase) → Begins bs es [] → Follows es phase
      → (phase ≢ Empty) → Fault bs (WrongPhase (length bs))
  too_much : (es : List Entry) → Begins bs es [] → Follows es Empty
      → 12_000_000 < total es → Fault bs OverTotal

pub record Judged (bs : List ℕ) (r : Result Lawful Refusal) : Type 0 where
  -- no bytes read in two ways
  pub one_reading : (es fs : List Entry) → Begins bs es [] → Begins bs fs [] → es ≡ fs
  -- lines that may be run are granted, with their count and their grams
  pub grants : (es : List Entry) → MayRun bs es → r ≡ Ok (record { lines = length es; grams = total es })
  -- a fault is refused, and so there is only one
  pub refuses : (f : Refusal) → Fault bs f → r ≡ Err f
  -- there is always the one or the other
  pub tells : MatchResult r (λ l. (es : List Entry) × MayRun bs es) (Fault bs)
