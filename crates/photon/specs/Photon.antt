-- PHOTON256, in the steps and the order in which it is published.
-- Assumes nothing.
use Rattle.std.specs.Prelude.{ℕ, zero, suc, ◌+◌, ◌*◌, ◌/◌, ◌%◌, if◌then◌else◌, List, [], ◌∷◌, map, ◌==◌, bit_xor, slice_index, slice_index_or}
use Rattle.std.specs.List.{range_with_len}
use Rattle.photon.specs.Field.{dot}

-- the state: a list of eight rows, each of eight cells of 4 bits
abbrev pub Square : Type 0
Square = List (List ℕ)

-- X[i, j]: row i, column j
abbrev pub cell : Square → ℕ → ℕ → ℕ
cell X i j = slice_index (slice_index_or X i []) j

-- the square whose cell at row i and column j is f i j
unfoldable pub square : (ℕ → ℕ → ℕ) → Square
square f = map (λ i. map (f i) (range_with_len 0 8)) (range_with_len 0 8)

-- RC: one number for each round
abbrev pub round_constants : List ℕ
round_constants = 1 ∷ 3 ∷ 7 ∷ 14 ∷ 13 ∷ 11 ∷ 6 ∷ 12 ∷ 9 ∷ 2 ∷ 5 ∷ 10 ∷ []

-- IC: one number for each row
abbrev pub row_constants : List ℕ
row_constants = 0 ∷ 1 ∷ 3 ∷ 7 ∷ 15 ∷ 14 ∷ 12 ∷ 8 ∷ []

-- S
abbrev pub s_box : List ℕ
s_box = 12 ∷ 5 ∷ 6 ∷ 11 ∷ 9 ∷ 0 ∷ 10 ∷ 13 ∷ 3 ∷ 14 ∷ 15 ∷ 8 ∷ 4 ∷ 7 ∷ 1 ∷ 2 ∷ []

-- Serial[2, 4, 2, 11, 2, 8, 5, 6]
abbrev pub serial : Square
serial =
    (0 ∷ 1 ∷ 0 ∷ 0 ∷ 0 ∷ 0 ∷ 0 ∷ 0 ∷ [])
    ∷ (0 ∷ 0 ∷ 1 ∷ 0 ∷ 0 ∷ 0 ∷ 0 ∷ 0 ∷ [])
    ∷ (0 ∷ 0 ∷ 0 ∷ 1 ∷ 0 ∷ 0 ∷ 0 ∷ 0 ∷ [])
    ∷ (0 ∷ 0 ∷ 0 ∷ 0 ∷ 1 ∷ 0 ∷ 0 ∷ 0 ∷ [])
    ∷ (0 ∷ 0 ∷ 0 ∷ 0 ∷ 0 ∷ 1 ∷ 0 ∷ 0 ∷ [])
    ∷ (0 ∷ 0 ∷ 0 ∷ 0 ∷ 0 ∷ 0 ∷ 1 ∷ 0 ∷ [])
    ∷ (0 ∷ 0 ∷ 0 ∷ 0 ∷ 0 ∷ 0 ∷ 0 ∷ 1 ∷ [])
    ∷ (2 ∷ 4 ∷ 2 ∷ 11 ∷ 2 ∷ 8 ∷ 5 ∷ 6 ∷ [])
    ∷ []

-- X[i, 0] becomes X[i, 0] + RC[k] + IC[i]
unfoldable pub add_constant : Square → ℕ → Square
add_constant X k = square (λ i j. (if j == 0 then bit_xor (bit_xor (cell X i 0) (slice_index round_constants k)) (slice_index row_constants i) else cell X i j))

-- X[i, j] becomes S(X[i, j])
unfoldable pub sub_cells : Square → Square
sub_cells X = square (λ i j. slice_index s_box (cell X i j))

-- X[i, j] becomes X[i, (j + i) mod 8]
unfoldable pub shift_rows : Square → Square
shift_rows X = square (λ i j. cell X i ((j + i) % 8))

-- the columns of X, as rows
unfoldable pub transposed : Square → Square
transposed X = square (λ i j. cell X j i)

-- M times a column
unfoldable pub by_m : List ℕ → List ℕ
by_m c = map (λ row. dot row c) serial

-- M^n times a column
abbrev pub by_ms : ℕ → List ℕ → List ℕ
by_ms zero c = c
by_ms (suc n) c = by_m (by_ms n c)

-- each column times M^8
unfoldable pub mix_column_serial : Square → Square
mix_column_serial X = transposed (map (by_ms 8) (transposed X))

unfoldable pub a_round : Square → ℕ → Square
a_round X k = mix_column_serial (shift_rows (sub_cells (add_constant X k)))

-- rounds 0 to n - 1
abbrev pub rounds : ℕ → Square → Square
rounds zero X = X
rounds (suc n) X = a_round (rounds n X) n

-- cell c of the state lies at row c div 8 and column c mod 8; byte k holds cell 2k in its low half and 2k + 1 in its high half
abbrev pub half : List ℕ → ℕ → ℕ
half s c = (if c % 2 == 0 then slice_index s (c / 2) % 16 else slice_index s (c / 2) / 16)

unfoldable pub square_of : List ℕ → Square
square_of s = square (λ i j. half s (8 * i + j))

unfoldable pub bytes_of : Square → List ℕ
bytes_of X = map (λ k. cell X (2 * k / 8) (2 * k % 8) + 16 * cell X ((2 * k + 1) / 8) ((2 * k + 1) % 8)) (range_with_len 0 32)

unfoldable pub photon256 : List ℕ → List ℕ
photon256 s = bytes_of (rounds 12 (square_of s))
