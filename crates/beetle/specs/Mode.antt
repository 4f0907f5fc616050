-- The parts that sealing and opening share, for a map P on states and a rate of r bytes.
-- Assumes nothing.
use Rattle.std.specs.Prelude.{ℕ, ◌+◌, ◌*◌, ◌/◌, ◌%◌, Bool, true, false, List, [], ◌∷◌, ◌++◌, map, length, take, drop, ◌==◌, slice_index, if◌then◌else◌}
use Rattle.std.specs.List.{range_with_len}
use Rattle.beetle.specs.Blocks.{xored, padded, blocks, added, ending, absorbed}

-- a half turned right by one bit: byte i is byte i shifted right by one, its top bit the lowest bit of byte i + 1;
-- the last byte takes from byte 0
unfoldable pub rotated : List ℕ → List ℕ
rotated H = map (λ i. slice_index H i / 2 + 128 * (slice_index H ((i + 1) % length H) % 2)) (range_with_len 0 (length H))

-- Shuffle(S) of r bytes S, with halves S1 and S2: S2 and then S1 rotated
unfoldable pub shuffled : ℕ → List ℕ → List ℕ
shuffled r S = drop (r / 2) S ++ rotated (take (r / 2) S)

-- a state, and a text that came out on the way to it
pub record Passed : Type 0 where
  pub state : List ℕ
  pub text : List ℕ

-- as many bytes of Shuffle(S) as U has, XOR U; S is the first r bytes of the state
unfoldable pub masked : ℕ → List ℕ → List ℕ → List ℕ
masked r S U = xored (take (length U) (shuffled r (take r S))) U

-- ρ(S, U): V comes out, from S as it was; then S is XORed with padded U
abbrev pub rho : ℕ → List ℕ → List ℕ → Passed
rho r S U = record { state = xored S (padded r U); text = masked r S U }

-- the inverse of ρ: U comes out of V alike; then S is XORed with padded U
abbrev pub rho_back : ℕ → List ℕ → List ℕ → Passed
rho_back r S V = record { state = xored S (padded r (masked r S V)); text = masked r S V }

-- the rule for a block: ρ where the text that goes in is the message, else its inverse
abbrev pub rule : Bool → ℕ → List ℕ → List ℕ → Passed
rule true = rho
rule false = rho_back

-- each block in order: P, and then f with the state and the block
abbrev pub passed : (List ℕ → List ℕ) → (List ℕ → List ℕ → Passed) → List ℕ → List (List ℕ) → Passed
passed P f S [] = record { state = S; text = [] }
passed P f S (U ∷ Us) = record {
  state = (passed P f (f (P S) U).state Us).state;
  text = (f (P S) U).text ++ (passed P f (f (P S) U).state Us).text;
}

abbrev pub empty : List ℕ → Bool
empty D = length D == 0

-- the constant after associated data A, by whether the message M is empty
unfoldable pub c0 : ℕ → List ℕ → List ℕ → ℕ
c0 r A M = if empty M then ending r A 3 4 else ending r A 1 2

-- the constant after a message M, by whether the associated data A is empty
unfoldable pub c1 : ℕ → List ℕ → List ℕ → ℕ
c1 r A M = if empty A then ending r M 5 6 else ending r M 1 2

-- the state before the message: nonce N and key K, and A absorbed
unfoldable pub begun : (List ℕ → List ℕ) → ℕ → List ℕ → List ℕ → List ℕ → List ℕ → List ℕ
begun P r K N A M =
    if empty A then (if empty M then added 1 (N ++ K) else N ++ K)
    else added (c0 r A M) (absorbed P r (N ++ K) A)

-- a text of either direction, from key, nonce and associated data: the other form of it, and the state after its last block
abbrev pub passing : (List ℕ → List ℕ) → Bool → ℕ → List ℕ → List ℕ → List ℕ → List ℕ → Passed
passing P seals r K N A M = passed P (rule seals r) (begun P r K N A M) (blocks r M)

-- the state after the message, from the state S after its last block
unfoldable pub ended : ℕ → List ℕ → List ℕ → List ℕ → List ℕ
ended r A M S = if empty M then S else added (c1 r A M) S

-- the first 16 bytes of one more P
unfoldable pub tag : (List ℕ → List ℕ) → List ℕ → List ℕ
tag P S = take 16 (P S)
