-- Opening a sealed text C, which is a ciphertext and then a tag of 16 bytes, with key K, nonce N and associated data A.
-- Assumes nothing.
use Rattle.std.specs.Prelude.{ℕ, ◌-◌, ◌||◌, List, ◌++◌, length, take, drop, replicate, Some, None, Ok, Err, Option, nat_lt, if◌then◌else◌}
use Rattle.std.specs.Str.{bytes_eq}
use Rattle.refusal.specs.declared.Refusal.TheVariants.{TextTooLong, OutputTooShort, TagDiffers}
use Rattle.beetle.specs.Outcomes.{Outcome, outcome, is_too_long}
use Rattle.beetle.specs.Blocks.{blocks}
use Rattle.beetle.specs.Mode.{Passed, rho_back, passed, begun, ended, tag}

-- the length of the message; a text under 16 bytes counts as an empty one
abbrev pub message_length : List ℕ → ℕ
message_length C = length C - 16

-- the ciphertext V and the tag in C
abbrev pub ciphertext : List ℕ → List ℕ
ciphertext C = take (message_length C) C

abbrev pub tag_in : List ℕ → List ℕ
tag_in C = drop (message_length C) C

-- the message that a ciphertext V has, and the state after its last block
unfoldable pub opening : (List ℕ → List ℕ) → ℕ → List ℕ → List ℕ → List ℕ → List ℕ → Passed
opening P r K N A V = passed P (rho_back r) (begun P r K N A V) (blocks r V)

-- the tag that the mode gives to a ciphertext V
unfoldable pub tag_of : (List ℕ → List ℕ) → ℕ → List ℕ → List ℕ → List ℕ → List ℕ → List ℕ
tag_of P r K N A V = tag P (ended r A V (opening P r K N A V).state)

-- the message, if there is a tag and it is the specified one
unfoldable pub opened : (List ℕ → List ℕ) → ℕ → List ℕ → List ℕ → List ℕ → List ℕ → Option (List ℕ)
opened P r K N A C =
    if nat_lt (length C) 16 then None
    else (if bytes_eq (tag_in C) (tag_of P r K N A (ciphertext C)) then Some (opening P r K N A (ciphertext C)).text else None)

-- what opening leaves: the message and zeros to the end of a buffer of n bytes, or zeros alone
abbrev pub handed_out : ℕ → Option (List ℕ) → Outcome
handed_out n None = outcome (Err TagDiffers) (replicate n 0)
handed_out n (Some M) = outcome (Ok tt) (M ++ replicate (n - length M) 0)

-- opening C into a buffer that holds B
unfoldable pub open_outcome : (List ℕ → List ℕ) → ℕ → List ℕ → List ℕ → List ℕ → List ℕ → List ℕ → Outcome
open_outcome P r K N A C B =
    if is_too_long (length A) || is_too_long (message_length C) then outcome (Err TextTooLong) (replicate (length B) 0)
    else (if nat_lt (length B) (message_length C) then outcome (Err OutputTooShort) (replicate (length B) 0)
    else handed_out (length B) (opened P r K N A C))
