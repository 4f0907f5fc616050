-- Columns as numbers: their cells, and the square that they make. Assumes nothing.
use Rattle.std.proofs.Common.{◌≡◌, ℕ, zero, suc, ◌+◌, ◌*◌, ◌/◌, ◌%◌, ◌^◌, ◌<◌, List, [], ◌∷◌, length, get_or, sym, refl, ap, ◌∙◌, subst, ⊎_elim, arith}
use native.Mathlib.Nat.{zero-div}
use Rattle.std.proofs.lemmas.Nat.{shr-shr, shr_high}
use Rattle.std.proofs.lemmas.List.FromFn.{get_or-map-range_with_len}
use Rattle.std.proofs.lemmas.List.{get_or_past}
use Rattle.std.proofs.lemmas.Bool.{cases_lt}
use Rattle.photon.specs.Photon.{Square, cell, square, transposed, mix_column_serial, a_round, rounds, square_of, half}
use Rattle.photon.specs.Table.{packed, column_of, columns_of, unpacked}
use Rattle.photon.specs.Cells.{Nibbles}
use Rattle.photon.specs.Bounds.{cells_square_of, cells_rounds}
use Rattle.photon.specs.Squares.{Cells, cell_square, square_ext, cells_square}

-- row i of a packed column
pub packed_row : (c : List ℕ) → Nibbles c → (i : ℕ) → packed c / 2 ^ (4 * i) % 16 ≡ get_or c i 0
packed_row [] h i = ap (λ n. n % 16) (zero-div (2 ^ (4 * i)))
packed_row (x ∷ c) h zero = let hx : x < 16 = h 0 in omega arith
packed_row (x ∷ c) h (suc i) =
    let e : 4 * suc i ≡ 4 + 4 * i = omega arith in
    ap (λ k. (packed c * 16 + x) / 2 ^ k % 16) e
    ∙ ap (λ n. n % 16) (sym (shr-shr (packed c * 16 + x) 4 (4 * i)) ∙ ap (λ n. n / 2 ^ (4 * i)) (shr_high (packed c) 4 x (h 0)))
    ∙ packed_row c (λ i. h (suc i)) i

pub cell_column_of : (X : Square) (j i : ℕ) → i < 8 → get_or (column_of X j) i 0 ≡ cell X i j
unfolding column_of
cell_column_of X j i h = get_or-map-range_with_len (λ i. cell X i j) 0 8 i i 0 h (omega arith)

pub length_column_of : (X : Square) (j : ℕ) → length (column_of X j) ≡ 8
unfolding column_of
length_column_of X j = refl

pub small_column_of : (X : Square) (j : ℕ) → Cells X → Nibbles (column_of X j)
small_column_of X j h i =
    ⊎_elim
    (λ l. subst (λ n. n < 16) (sym (cell_column_of X j i l)) (h i j))
    (λ g. subst (λ n. n < 16) (sym (get_or_past (column_of X j) i 0 (omega (arith, length_column_of X j)))) (omega arith))
    (cases_lt i 8)

pub get_or_columns_of : (X : Square) (j : ℕ) → j < 8 → get_or (columns_of X) j 0 ≡ packed (column_of X j)
unfolding columns_of
get_or_columns_of X j h = get_or-map-range_with_len (λ j. packed (column_of X j)) 0 8 j j 0 h (omega arith)

pub cell_unpacked : (w : List ℕ) (i j : ℕ) → i < 8 → j < 8 → cell (unpacked w) i j ≡ get_or w j 0 / 2 ^ (4 * i) % 16
unfolding unpacked
cell_unpacked w i j hi hj = cell_square (λ i j. get_or w j 0 / 2 ^ (4 * i) % 16) i j hi hj

pub cells_unpacked : (w : List ℕ) → Cells (unpacked w)
unfolding unpacked
cells_unpacked w = cells_square (λ i j. get_or w j 0 / 2 ^ (4 * i) % 16) (λ i j hi hj. omega arith)

-- X is eight rows of eight cells
abbrev pub Whole : Square → Type 0
Whole X = square (cell X) ≡ X

pub whole_square : (f : ℕ → ℕ → ℕ) → Whole (square f)
whole_square f = square_ext (cell (square f)) f (λ i j hi hj. cell_square f i j hi hj)

-- packing the columns of a square loses nothing
pub unpacked_columns_of : (X : Square) → Cells X → Whole X → unpacked (columns_of X) ≡ X
unfolding unpacked
unpacked_columns_of X h whole =
    square_ext (λ i j. get_or (columns_of X) j 0 / 2 ^ (4 * i) % 16) (cell X)
    (λ i j hi hj.
    ap (λ n. n / 2 ^ (4 * i) % 16) (get_or_columns_of X j hj)
    ∙ packed_row (column_of X j) (small_column_of X j h) i
    ∙ cell_column_of X j i hi)
    ∙ whole

pub whole_square_of : (s : List ℕ) → Whole (square_of s)
unfolding square_of
whole_square_of s = whole_square (λ i j. half s (8 * i + j))

pub whole_a_round : (X : Square) (k : ℕ) → Whole (a_round X k)
unfolding a_round mix_column_serial transposed
whole_a_round X k = whole_square _

pub whole_rounds : (n : ℕ) (X : Square) → Whole X → Whole (rounds n X)
whole_rounds zero X h = h
whole_rounds (suc n) X h = whole_a_round (rounds n X) n

-- the columns after n rounds stand for the square after n rounds
pub unpacked_rounds : (s : List ℕ) (n : ℕ) → ((i : ℕ) → get_or s i 0 < 256) → unpacked (columns_of (rounds n (square_of s))) ≡ rounds n (square_of s)
unpacked_rounds s n h =
    unpacked_columns_of (rounds n (square_of s)) (cells_rounds n (square_of s) (cells_square_of s h))
    (whole_rounds n (square_of s) (whole_square_of s))
