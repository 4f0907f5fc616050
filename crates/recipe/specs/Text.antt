-- A line as plain text: `dose BIN GRAMS`, `mix SECONDS`, `empty`, `remark TEXT`, numbers in decimal.
-- Assumes nothing.
use Rattle.std.specs.Prelude.{◌≡◌, ℕ, true, if◌then◌else◌, List, [], ◌++◌, Some, None, codes, decimal, Option, MatchOption, ◌≢◌}
use Rattle.recipe.specs.declared.lines.Line.{Line}
use Rattle.recipe.specs.Lines.{Entry, dose, mix, empty, remark, says, in_range}

-- what follows the first word
abbrev pub fields_of : Entry → List ℕ
fields_of (dose bin grams) = decimal bin ++ (codes " " ++ decimal grams)
fields_of (mix seconds) = decimal seconds
fields_of empty = []
fields_of (remark text) = text

abbrev pub text_of : Entry → List ℕ
text_of (dose bin grams) = codes "dose " ++ fields_of (dose bin grams)
text_of (mix seconds) = codes "mix " ++ fields_of (mix seconds)
text_of empty = codes "empty"
text_of (remark text) = codes "remark " ++ fields_of (remark text)

-- what is printed of a line with its fields in range
abbrev pub printed : Line → Option (List ℕ)
printed l = if in_range (says l) then Some (text_of (says l)) else None

-- a line of one kind with its fields in range, of which the bytes are the text, or that there is none
abbrev pub Parsed : (Entry → Type 0) → (Entry → List ℕ) → List ℕ → Option Entry → Type 0
Parsed Kind text bs r =
    MatchOption r ((e : Entry) → Kind e → in_range e ≡ true → bs ≢ text e) (λ e. Kind e × (in_range e ≡ true) × (bs ≡ text e))

abbrev pub Any : Entry → Type 0
Any e = Unit {0}

abbrev pub Dosing : Entry → Type 0
Dosing (dose bin grams) = Unit {0}
Dosing (mix seconds) = ⊥
Dosing empty = ⊥
Dosing (remark text) = ⊥

abbrev pub Mixing : Entry → Type 0
Mixing (dose bin grams) = ⊥
Mixing (mix seconds) = Unit {0}
Mixing empty = ⊥
Mixing (remark text) = ⊥

abbrev pub Remarking : Entry → Type 0
Remarking (dose bin grams) = ⊥
Remarking (mix seconds) = ⊥
Remarking empty = ⊥
Remarking (remark text) = Unit {0}

-- the text of a line reads as that line
abbrev pub TextBack : List ℕ → Option Entry → Type 0
TextBack bs r = (e : Entry) → in_range e ≡ true → bs ≡ text_of e → r ≡ Some e
