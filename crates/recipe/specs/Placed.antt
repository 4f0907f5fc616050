-- The lines of a recipe, each with the byte place where it begins.
-- Assumes nothing.
use Rattle.std.specs.Prelude.{ℕ, ◌+◌, ◌-◌, List, [], ◌∷◌, length, Ok, Err, Result}
use Rattle.refusal.specs.declared.Refusal.{Refusal}
use Rattle.refusal.specs.declared.Refusal.TheVariants.{BadLine}
use Rattle.recipe.specs.declared.lines.Line.{Line}
use Rattle.recipe.specs.declared.placed.PlacedLines.{PlacedLines}
use Rattle.recipe.specs.Lines.{Entry, says, bytes_of}
use Rattle.recipe.specs.Verdict.{Held, done, bad, next, held}

-- what bytes hold that begin at a place: their lines, and a refusal where the rest is no line
abbrev pub placed : ℕ → Held → List (Result (ℕ × Entry) Refusal)
placed place done = []
placed place bad = Err (BadLine place) ∷ []
placed place (next e h) = Ok (place, e) ∷ placed (place + length (bytes_of e)) h

-- what is left to be read
abbrev pub placed_left : PlacedLines → List (Result (ℕ × Entry) Refusal)
placed_left it = placed (length it.recipe.now - length it.rest.now) (held it.rest.now)

-- what an item says
abbrev pub placed_says : Result (ℕ × Line) Refusal → Result (ℕ × Entry) Refusal
placed_says (Ok x) = Ok (x.0, says x.1)
placed_says (Err f) = Err f
