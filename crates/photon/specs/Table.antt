-- The columns of a square as numbers of 32 bits, and the rule of the table that joins S and M^8.
-- Assumes nothing.
use Rattle.std.specs.Prelude.{ℕ, ◌+◌, ◌*◌, ◌/◌, ◌%◌, ◌^◌, if◌then◌else◌, List, [], ◌∷◌, map, ◌==◌, bit_xor, slice_index}
use Rattle.std.specs.List.{range_with_len}
use Rattle.photon.specs.Photon.{Square, cell, square, round_constants, row_constants, s_box, by_ms}

-- a column as a number: row i fills bits 4i to 4i + 3
abbrev pub packed : List ℕ → ℕ
packed [] = 0
packed (x ∷ c) = packed c * 16 + x

-- column j of X
unfoldable pub column_of : Square → ℕ → List ℕ
column_of X j = map (λ i. cell X i j) (range_with_len 0 8)

-- the eight columns of X, as numbers
unfoldable pub columns_of : Square → List ℕ
columns_of X = map (λ j. packed (column_of X j)) (range_with_len 0 8)

-- the square whose columns are these numbers
unfoldable pub unpacked : List ℕ → Square
unpacked w = square (λ i j. slice_index w j / 2 ^ (4 * i) % 16)

-- the column that has S(low half of v) in row 2t, S(high half of v) in row 2t + 1 and 0 elsewhere
unfoldable pub pair : ℕ → ℕ → List ℕ
pair t v = map (λ i. (if i == 2 * t then slice_index s_box (v % 16) else (if i == 2 * t + 1 then slice_index s_box (v / 16) else 0))) (range_with_len 0 8)

-- what rows 2t and 2t + 1 of column j take from X once row i is turned by i: the v of that pair
abbrev pub turned : Square → ℕ → ℕ → ℕ
turned X j t = cell X (2 * t) ((j + 2 * t) % 8) + 16 * cell X (2 * t + 1) ((j + (2 * t + 1)) % 8)

-- entry k = 256 t + v of the table, for v below 256: M^8 times that column
unfoldable pub entry_of : ℕ → ℕ
entry_of k = packed (by_ms 8 (pair (k / 256) (k % 256)))

-- what round k adds to column 0: RC[k] + IC[i] in row i
unfoldable pub constant_of : ℕ → ℕ
constant_of k = packed (map (λ i. bit_xor (slice_index round_constants k) (slice_index row_constants i)) (range_with_len 0 8))
