-- Every step of PHOTON256 keeps cells of 4 bits, so the whole sends 32 bytes to 32 bytes. Assumes nothing.
use Rattle.std.proofs.Common.{sym, subst, ⊎_elim, arith, ltb→lt}
use Rattle.std.specs.Prelude.{ℕ, zero, suc, ◌+◌, ◌*◌, ◌/◌, ◌%◌, ◌<◌, ◌≤◌, if◌then◌else◌, T, List, [], ◌∷◌, map, length, ◌==◌, bit_xor, nat_lt, slice_index}
use Rattle.std.proofs.lemmas.Nat.{xor_lt}
use Rattle.std.specs.List.{range_with_len}
use Rattle.std.proofs.lemmas.List.FromFn.{get_or-map-range_with_len, length-map-range_with_len}
use Rattle.std.proofs.lemmas.List.{get_or_past}
use Rattle.std.proofs.lemmas.Bool.{cases_lt, cond_both}
use Rattle.photon.specs.Bytes.{Bytes}
use Rattle.photon.specs.Cells.{Nibbles, byte_of}
use Rattle.photon.specs.Field.{times_z, times_low, times, dot}
use Rattle.photon.specs.Photon.{Square, cell, round_constants, row_constants, s_box, serial, add_constant, sub_cells, shift_rows, transposed, by_m, by_ms, mix_column_serial, a_round, rounds, half, square_of, bytes_of, photon256}
use Rattle.photon.specs.Computed.{every, at, below}
use Rattle.photon.specs.Squares.{Cells, cells_square}

pub small_tested : (c : List ℕ) → T (every (λ _ x. nat_lt x 16) 0 c) → Nibbles c
small_tested c t i =
    ⊎_elim
    (λ h. ltb→lt (slice_index c i) 16 (at (λ _ x. nat_lt x 16) c t i h))
    (λ h. subst (λ n. n < 16) (sym (get_or_past c i 0 h)) (omega arith))
    (cases_lt i (length c))

pub small_round_constants : Nibbles round_constants
small_round_constants = small_tested round_constants tt

pub small_row_constants : Nibbles row_constants
small_row_constants = small_tested row_constants tt

pub small_s_box : Nibbles s_box
small_s_box = small_tested s_box tt

pub xor_small : (a b : ℕ) → a < 16 → b < 16 → bit_xor a b < 16
xor_small a b ha hb = xor_lt 4 a b ha hb

-- the field
pub times_z_small : (b : ℕ) → b < 16 → times_z b < 16
times_z_small b h = ltb→lt (times_z b) 16 (below (λ b. nat_lt (times_z b) 16) 16 tt b h)

times_low_small : (n a b : ℕ) → b < 16 → times_low n a b < 16
times_low_small zero a b h = omega arith
times_low_small (suc n) a b h =
    xor_small (if a % 2 == 1 then b else 0) (times_low n (a / 2) (times_z b))
    (cond_both (a % 2 == 1) b 0 (λ x. x < 16) (λ e. h) (λ e. omega arith))
    (times_low_small n (a / 2) (times_z b) (times_z_small b h))

pub times_small : (a b : ℕ) → b < 16 → times a b < 16
unfolding times
times_small a b h = times_low_small 4 a b h

pub dot_small : (r c : List ℕ) → Nibbles c → dot r c < 16
dot_small [] c h = omega arith
dot_small (a ∷ r) [] h = omega arith
dot_small (a ∷ r) (x ∷ c) h = xor_small (times a x) (dot r c) (times_small a x (h 0)) (dot_small r c (λ i. h (suc i)))

small_dots : (rows : Square) (c : List ℕ) → Nibbles c → Nibbles (map (λ row. dot row c) rows)
small_dots [] c h i = omega arith
small_dots (r ∷ rows) c h zero = dot_small r c h
small_dots (r ∷ rows) c h (suc i) = small_dots rows c h i

pub small_by_m : (c : List ℕ) → Nibbles c → Nibbles (by_m c)
unfolding by_m
small_by_m c h = small_dots serial c h

pub small_by_ms : (n : ℕ) (c : List ℕ) → Nibbles c → Nibbles (by_ms n c)
small_by_ms zero c h = h
small_by_ms (suc n) c h = small_by_m (by_ms n c) (small_by_ms n c h)

-- the steps of a round
pub cells_add_constant : (X : Square) (k : ℕ) → Cells X → Cells (add_constant X k)
unfolding add_constant
cells_add_constant X k h =
    cells_square (λ i j. (if j == 0 then bit_xor (bit_xor (cell X i 0) (slice_index round_constants k)) (slice_index row_constants i) else cell X i j))
    (λ i j hi hj. cond_both (j == 0) (bit_xor (bit_xor (cell X i 0) (slice_index round_constants k)) (slice_index row_constants i)) (cell X i j) (λ n. n < 16)
    (λ e. xor_small (bit_xor (cell X i 0) (slice_index round_constants k)) (slice_index row_constants i) (xor_small (cell X i 0) (slice_index round_constants k) (h i 0) (small_round_constants k)) (small_row_constants i))
    (λ e. h i j))

pub cells_sub_cells : (X : Square) → Cells (sub_cells X)
unfolding sub_cells
cells_sub_cells X = cells_square (λ i j. slice_index s_box (cell X i j)) (λ i j hi hj. small_s_box (cell X i j))

pub cells_shift_rows : (X : Square) → Cells X → Cells (shift_rows X)
unfolding shift_rows
cells_shift_rows X h = cells_square (λ i j. cell X i ((j + i) % 8)) (λ i j hi hj. h i ((j + i) % 8))

pub cells_transposed : (X : Square) → Cells X → Cells (transposed X)
unfolding transposed
cells_transposed X h = cells_square (λ i j. cell X j i) (λ i j hi hj. h j i)

-- a square of small rows, each put through a map that keeps them small
cells_map : (f : List ℕ → List ℕ) (X : Square) → ((c : List ℕ) → Nibbles c → Nibbles (f c)) → Cells X → Cells (map f X)
cells_map f [] k h i j = omega arith
cells_map f (r ∷ X) k h zero j = k r (h 0) j
cells_map f (r ∷ X) k h (suc i) j = cells_map f X k (λ i. h (suc i)) i j

pub cells_mix_column_serial : (X : Square) → Cells X → Cells (mix_column_serial X)
unfolding mix_column_serial
cells_mix_column_serial X h =
    cells_transposed (map (by_ms 8) (transposed X)) (cells_map (by_ms 8) (transposed X) (small_by_ms 8) (cells_transposed X h))

pub cells_a_round : (X : Square) (k : ℕ) → Cells X → Cells (a_round X k)
unfolding a_round
cells_a_round X k h =
    cells_mix_column_serial (shift_rows (sub_cells (add_constant X k)))
    (cells_shift_rows (sub_cells (add_constant X k)) (cells_sub_cells (add_constant X k)))

pub cells_rounds : (n : ℕ) (X : Square) → Cells X → Cells (rounds n X)
cells_rounds zero X h = h
cells_rounds (suc n) X h = cells_a_round (rounds n X) n (cells_rounds n X h)

-- bytes and cells
pub half_small : (s : List ℕ) (c : ℕ) → ((i : ℕ) → slice_index s i < 256) → half s c < 16
half_small s c h =
    cond_both (c % 2 == 0) (slice_index s (c / 2) % 16) (slice_index s (c / 2) / 16) (λ n. n < 16)
    (λ e. omega arith) (λ e. omega (arith, h (c / 2)))

pub cells_square_of : (s : List ℕ) → ((i : ℕ) → slice_index s i < 256) → Cells (square_of s)
unfolding square_of
cells_square_of s h = cells_square (λ i j. half s (8 * i + j)) (λ i j hi hj. half_small s (8 * i + j) h)

pub byte_of_small : (X : Square) (k : ℕ) → Cells X → byte_of X k < 256
byte_of_small X k h = omega (arith, h (2 * k / 8) (2 * k % 8), h ((2 * k + 1) / 8) ((2 * k + 1) % 8))

pub bytes_bytes_of : (X : Square) → Cells X → Bytes 32 (bytes_of X)
unfolding bytes_of
bytes_bytes_of X h =
    record {
      long = length-map-range_with_len (byte_of X) 0 32;
      small =
          λ k. ⊎_elim
          (λ l. subst (λ n. n < 256) (sym (get_or-map-range_with_len (byte_of X) 0 32 k k 0 l (omega arith))) (byte_of_small X k h))
          (λ g. subst (λ n. n < 256) (sym (get_or_past (map (byte_of X) (range_with_len 0 32)) k 0 (subst (λ n. n ≤ k) (sym (length-map-range_with_len (byte_of X) 0 32)) g))) (omega arith))
          (cases_lt k 32);
    }

pub bytes_photon256 : (s : List ℕ) → Bytes 32 s → Bytes 32 (photon256 s)
unfolding photon256
bytes_photon256 s h = bytes_bytes_of (rounds 12 (square_of s)) (cells_rounds 12 (square_of s) (cells_square_of s h.small))
