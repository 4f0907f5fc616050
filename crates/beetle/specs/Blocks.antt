-- Blocks of a text, their padding, and how they go into the state. A text and a state are lists of bytes; r is the rate in bytes.
-- Assumes nothing.
use Rattle.std.specs.Prelude.{ℕ, zero, suc, ◌-◌, ◌*◌, ◌%◌, List, [], ◌∷◌, ◌++◌, length, take, drop, replicate, ◌==◌, bit_xor, nat_lt, slice_index, slice_set, if◌then◌else◌}

-- XOR byte by byte; bytes of xs past the end of ys stay
abbrev pub xored : List ℕ → List ℕ → List ℕ
xored [] ys = []
xored (x ∷ xs) [] = x ∷ xs
xored (x ∷ xs) (y ∷ ys) = bit_xor x y ∷ xored xs ys

-- a block shorter than n gets one byte 01 and then zeros, up to n bytes; a full block is not padded
unfoldable pub padded : ℕ → List ℕ → List ℕ
padded n D = if nat_lt (length D) n then D ++ 1 ∷ replicate (n - length D - 1) 0 else D

-- the blocks of r bytes of a text, of which the last may be shorter; n bounds their number
abbrev pub blocks_up_to : ℕ → ℕ → List ℕ → List (List ℕ)
blocks_up_to zero r D = []
blocks_up_to (suc n) r [] = []
blocks_up_to (suc n) r (x ∷ D) = take r (x ∷ D) ∷ blocks_up_to n r (drop r (x ∷ D))

unfoldable pub blocks : ℕ → List ℕ → List (List ℕ)
blocks r D = blocks_up_to (length D) r D

-- adding the constant c XORs 32·c into the last byte of the state
unfoldable pub added : ℕ → List ℕ → List ℕ
added c S = slice_set S 31 (bit_xor (slice_index S 31) (32 * c))

-- the constant after a text D: one if r divides its length, another if not
unfoldable pub ending : ℕ → List ℕ → ℕ → ℕ → ℕ
ending r D whole cut = if length D % r == 0 then whole else cut

-- each block: P, then the padded block is XORed into the front of the state
abbrev pub absorbed_blocks : (List ℕ → List ℕ) → ℕ → List ℕ → List (List ℕ) → List ℕ
absorbed_blocks P r S [] = S
absorbed_blocks P r S (B ∷ Bs) = absorbed_blocks P r (xored (P S) (padded r B)) Bs

unfoldable pub absorbed : (List ℕ → List ℕ) → ℕ → List ℕ → List ℕ → List ℕ
absorbed P r S D = absorbed_blocks P r S (blocks r D)
