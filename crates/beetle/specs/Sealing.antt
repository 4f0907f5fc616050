-- Sealing: PHOTON-Beetle's authenticated encryption with key K, nonce N, associated data A and message M.
-- Assumes nothing.
use Rattle.std.specs.Prelude.{ℕ, ◌+◌, ◌||◌, List, ◌++◌, length, drop, Ok, Err, nat_lt, if◌then◌else◌}
use Rattle.refusal.specs.declared.Refusal.TheVariants.{TextTooLong, OutputTooShort}
use Rattle.beetle.specs.Outcomes.{Outcome, outcome, is_too_long}
use Rattle.beetle.specs.Blocks.{blocks}
use Rattle.beetle.specs.Mode.{Passed, rho, passed, begun, ended, tag}

-- the ciphertext, and the state after its last block
unfoldable pub sealing : (List ℕ → List ℕ) → ℕ → List ℕ → List ℕ → List ℕ → List ℕ → Passed
sealing P r K N A M = passed P (rho r) (begun P r K N A M) (blocks r M)

-- the ciphertext and then the tag
unfoldable pub sealed : (List ℕ → List ℕ) → ℕ → List ℕ → List ℕ → List ℕ → List ℕ → List ℕ
sealed P r K N A M = (sealing P r K N A M).text ++ tag P (ended r A M (sealing P r K N A M).state)

-- sealing M into a buffer that holds B
unfoldable pub seal_outcome : (List ℕ → List ℕ) → ℕ → List ℕ → List ℕ → List ℕ → List ℕ → List ℕ → Outcome
seal_outcome P r K N A M B =
    if is_too_long (length A) || is_too_long (length M) then outcome (Err TextTooLong) B
    else (if nat_lt (length B) (length M + 16) then outcome (Err OutputTooShort) B
    else outcome (Ok tt) (sealed P r K N A M ++ drop (length M + 16) B))
