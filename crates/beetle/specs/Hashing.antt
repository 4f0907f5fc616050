-- PHOTON-Beetle's hash, for a map P on states.
-- Assumes nothing.
use Rattle.std.specs.Prelude.{ℕ, List, ◌++◌, length, take, drop, replicate, Ok, Err, ◌==◌, nat_le, nat_lt, if◌then◌else◌}
use Rattle.refusal.specs.declared.Refusal.TheVariants.{TextTooLong, OutputTooShort}
use Rattle.beetle.specs.Outcomes.{Outcome, outcome, is_too_long}
use Rattle.beetle.specs.Blocks.{padded, added, ending, absorbed}

-- 16 bytes after one P and 16 after a second
unfoldable pub squeezed : (List ℕ → List ℕ) → List ℕ → List ℕ
squeezed P S = take 16 (P S) ++ take 16 (P (P S))

-- the state that a text leads to, the constant added
unfoldable pub taken : (List ℕ → List ℕ) → List ℕ → List ℕ
taken P M =
    if length M == 0 then added 1 (replicate 32 0)
    else (if nat_le (length M) 16 then added (if nat_lt (length M) 16 then 1 else 2) (padded 16 M ++ replicate 16 0)
    else added (ending 4 (drop 16 M) 1 2) (absorbed P 4 (take 16 M ++ replicate 16 0) (drop 16 M)))

unfoldable pub digest : (List ℕ → List ℕ) → List ℕ → List ℕ
digest P M = squeezed P (taken P M)

-- hashing the text M into a buffer that holds B
unfoldable pub hash_outcome : (List ℕ → List ℕ) → List ℕ → List ℕ → Outcome
hash_outcome P M B =
    if is_too_long (length M) then outcome (Err TextTooLong) B
    else (if nat_lt (length B) 32 then outcome (Err OutputTooShort) B
    else outcome (Ok tt) (digest P M ++ drop 32 B))
