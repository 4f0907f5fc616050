-- A round on columns: what its steps make of the square of the columns, and four entries of the table in place of S, the
-- turn of rows and M^8. Assumes nothing.
use Rattle.std.proofs.Common.{◌≡◌, ℕ, zero, suc, ◌+◌, ◌*◌, ◌/◌, ◌%◌, ◌^◌, ◌<◌, cond, eqb, List, [], ◌∷◌, map, length, get_or, set, sym, refl, ap, ◌∙◌, subst, ap₂, ⊎_elim, arith}
use lib.Bits.{bit_xor, xor_assoc, xor_zero_r}
use Rattle.std.specs.List.{range_with_len}
use Rattle.std.proofs.lemmas.Nat.{xor_shr, xor_mod}
use Rattle.std.proofs.lemmas.List.FromFn.{get_or-map-range_with_len, length-map-range_with_len, fill_by_all}
use Rattle.std.proofs.lemmas.Simd.{length-zip2}
use Rattle.std.proofs.lemmas.List.{get_or_past, get_or-map, get_or-set_same, get_or-set_other}
use Rattle.std.proofs.lemmas.Bool.{cases_lt, cases_eq, cond_both, cond-true, cond-false, eq-eqb, ne_eqb}
use Rattle.photon.specs.Photon.{Square, cell, round_constants, row_constants, s_box, add_constant, sub_cells, shift_rows, transposed, by_ms, mix_column_serial, a_round}
use Rattle.photon.specs.Table.{packed, column_of, columns_of, unpacked, pair, turned, entry_of, constant_of}
use Rattle.photon.specs.Cells.{Nibbles}
use Rattle.photon.specs.Bounds.{small_round_constants, small_row_constants, small_s_box, xor_small}
use Rattle.photon.specs.Squares.{Cells, cell_square, row_square, square_length, square_ext}
use Rattle.photon.proofs.TableColumns.{packed_row, cell_unpacked}
use Rattle.photon.proofs.TableLinear.{xors, length_by_m, mixed, mixed_xor}

-- ---- M^8, column by column

cell_transposed : (Y : Square) (i j : ℕ) → i < 8 → j < 8 → cell (transposed Y) i j ≡ cell Y j i
unfolding transposed
cell_transposed Y i j hi hj = cell_square (λ i j. cell Y j i) i j hi hj

row_transposed : (Y : Square) (j : ℕ) → j < 8 → get_or (transposed Y) j [] ≡ column_of Y j
unfolding transposed column_of
row_transposed Y j h = row_square (λ i j. cell Y j i) j h

length_transposed : (Y : Square) → length (transposed Y) ≡ 8
unfolding transposed
length_transposed Y = square_length (λ i j. cell Y j i)

cell_mixed : (Y : Square) (i j : ℕ) → i < 8 → j < 8 → cell (mix_column_serial Y) i j ≡ get_or (by_ms 8 (column_of Y j)) i 0
unfolding mix_column_serial
cell_mixed Y i j hi hj =
    cell_transposed (map (by_ms 8) (transposed Y)) i j hi hj
    ∙ ap (λ (r : List ℕ). get_or r i 0)
    (get_or-map (by_ms 8) (transposed Y) j [] [] (omega (arith, length_transposed Y)) ∙ ap (by_ms 8) (row_transposed Y j hj))

pub column_of_mixed : (Y : Square) (j : ℕ) → j < 8 → by_ms 8 (column_of Y j) ≡ column_of (mix_column_serial Y) j
unfolding column_of
column_of_mixed Y j h =
    fill_by_all (λ i. cell (mix_column_serial Y) i j) (by_ms 8 (column_of Y j)) 8 0 (length_by_m (by_ms 7 (column_of Y j)))
    (λ i hi. sym (cell_mixed Y i j hi h))

-- ---- the constants

small_counted : (f : ℕ → ℕ) → ((i : ℕ) → f i < 16) → Nibbles (map f (range_with_len 0 8))
small_counted f h i =
    ⊎_elim
    (λ l. subst (λ n. n < 16) (sym (get_or-map-range_with_len f 0 8 i i 0 l (omega arith))) (h i))
    (λ g. subst (λ n. n < 16) (sym (get_or_past (map f (range_with_len 0 8)) i 0 (omega (arith, length-map-range_with_len f 0 8)))) (omega arith))
    (cases_lt i 8)

row_constant_of : (k i : ℕ) → i < 8 → constant_of k / 2 ^ (4 * i) % 16 ≡ bit_xor (get_or round_constants k 0) (get_or row_constants i 0)
unfolding constant_of
row_constant_of k i h =
    packed_row (map (λ i. bit_xor (get_or round_constants k 0) (get_or row_constants i 0)) (range_with_len 0 8))
    (small_counted (λ i. bit_xor (get_or round_constants k 0) (get_or row_constants i 0)) (λ i. xor_small (get_or round_constants k 0) (get_or row_constants i 0) (small_round_constants k) (small_row_constants i))) i
    ∙ get_or-map-range_with_len (λ i. bit_xor (get_or round_constants k 0) (get_or row_constants i 0)) 0 8 i i 0 h (omega arith)

-- column 0 with the constant of round k
abbrev pub added : List ℕ → ℕ → List ℕ
added w k = set w 0 (bit_xor (get_or w 0 0) (constant_of k))

row_added : (w : List ℕ) (k i : ℕ) → i < 8 → bit_xor (get_or w 0 0) (constant_of k) / 2 ^ (4 * i) % 16 ≡ bit_xor (bit_xor (cell (unpacked w) i 0) (get_or round_constants k 0)) (get_or row_constants i 0)
row_added w k i h =
    ap (λ n. n % 16) (xor_shr (get_or w 0 0) (constant_of k) (4 * i))
    ∙ xor_mod (get_or w 0 0 / 2 ^ (4 * i)) (constant_of k / 2 ^ (4 * i)) 4
    ∙ ap₂ bit_xor (sym (cell_unpacked w i 0 h (omega arith))) (row_constant_of k i h)
    ∙ sym (xor_assoc (cell (unpacked w) i 0) (get_or round_constants k 0) (get_or row_constants i 0))

cell_added : (w : List ℕ) (k : ℕ) → length w ≡ 8 → (i j : ℕ) → i < 8 → j < 8 → get_or (added w k) j 0 / 2 ^ (4 * i) % 16 ≡ cond (eqb j 0) (bit_xor (bit_xor (cell (unpacked w) i 0) (get_or round_constants k 0)) (get_or row_constants i 0)) (cell (unpacked w) i j)
cell_added w k long i j hi hj =
    let v : ℕ = bit_xor (get_or w 0 0) (constant_of k) in
    let new : ℕ = bit_xor (bit_xor (cell (unpacked w) i 0) (get_or round_constants k 0)) (get_or row_constants i 0) in
    ⊎_elim
    (λ e. ap (λ j. get_or (added w k) j 0 / 2 ^ (4 * i) % 16) e
    ∙ ap (λ n. n / 2 ^ (4 * i) % 16) (get_or-set_same w 0 v 0 (omega arith))
    ∙ row_added w k i hi
    ∙ sym (cond-true (eqb j 0) new (cell (unpacked w) i j) (eq-eqb j 0 e)))
    (λ ne. ap (λ n. n / 2 ^ (4 * i) % 16) (get_or-set_other w 0 j v 0 ne)
    ∙ sym (cell_unpacked w i j hi hj)
    ∙ sym (cond-false (eqb j 0) new (cell (unpacked w) i j) (ne_eqb j 0 ne)))
    (cases_eq j 0)

pub unpacked_added : (w : List ℕ) (k : ℕ) → length w ≡ 8 → unpacked (added w k) ≡ add_constant (unpacked w) k
unfolding unpacked add_constant
unpacked_added w k long =
    square_ext (λ i j. get_or (added w k) j 0 / 2 ^ (4 * i) % 16)
    (λ i j. cond (eqb j 0) (bit_xor (bit_xor (cell (unpacked w) i 0) (get_or round_constants k 0)) (get_or row_constants i 0)) (cell (unpacked w) i j))
    (cell_added w k long)

-- ---- S and the turn of rows

cell_turned : (X : Square) (i j : ℕ) → i < 8 → j < 8 → cell (shift_rows (sub_cells X)) i j ≡ get_or s_box (cell X i ((j + i) % 8)) 0
unfolding shift_rows sub_cells
cell_turned X i j hi hj =
    cell_square (λ i j. cell (sub_cells X) i ((j + i) % 8)) i j hi hj
    ∙ cell_square (λ i j. get_or s_box (cell X i j) 0) i ((j + i) % 8) hi (omega arith)

pub turned_small : (X : Square) (j t : ℕ) → Cells X → turned X j t < 256
turned_small X j t h = omega (arith, h (2 * t) ((j + 2 * t) % 8), h (2 * t + 1) ((j + (2 * t + 1)) % 8))

low_row : (X : Square) (j t : ℕ) → Cells X → j < 8 → t < 4 → cell (shift_rows (sub_cells X)) (2 * t) j ≡ get_or s_box (turned X j t % 16) 0
low_row X j t h hj ht =
    let e : cell X (2 * t) ((j + 2 * t) % 8) ≡ turned X j t % 16 = omega (arith, h (2 * t) ((j + 2 * t) % 8)) in
    cell_turned X (2 * t) j (omega arith) hj ∙ ap (λ n. get_or s_box n 0) e

high_row : (X : Square) (j t : ℕ) → Cells X → j < 8 → t < 4 → cell (shift_rows (sub_cells X)) (2 * t + 1) j ≡ get_or s_box (turned X j t / 16) 0
high_row X j t h hj ht =
    let e : cell X (2 * t + 1) ((j + (2 * t + 1)) % 8) ≡ turned X j t / 16 = omega (arith, h (2 * t) ((j + 2 * t) % 8)) in
    cell_turned X (2 * t + 1) j (omega arith) hj ∙ ap (λ n. get_or s_box n 0) e

-- ---- a column as the XOR of one pair of rows for each t

abbrev Column : List ℕ → Type 0
Column c = (length c ≡ 8) × Nibbles c

column_pair : (t v : ℕ) → Column (pair t v)
unfolding pair
column_pair t v = (
  refl,
  small_counted (λ i. cond (eqb i (2 * t)) (get_or s_box (v % 16) 0) (cond (eqb i (2 * t + 1)) (get_or s_box (v / 16) 0) 0))
      (λ i. cond_both (eqb i (2 * t)) (get_or s_box (v % 16) 0) (cond (eqb i (2 * t + 1)) (get_or s_box (v / 16) 0) 0) (λ n. n < 16)
      (λ e. small_s_box (v % 16))
      (λ e. cond_both (eqb i (2 * t + 1)) (get_or s_box (v / 16) 0) 0 (λ n. n < 16) (λ e. small_s_box (v / 16)) (λ e. omega arith))),
)

small_xors : (a b : List ℕ) → Nibbles a → Nibbles b → Nibbles (xors a b)
small_xors [] b ha hb i = omega arith
small_xors (x ∷ a) [] ha hb i = omega arith
small_xors (x ∷ a) (y ∷ b) ha hb zero = xor_small x y (ha 0) (hb 0)
small_xors (x ∷ a) (y ∷ b) ha hb (suc i) = small_xors a b (λ i. ha (suc i)) (λ i. hb (suc i)) i

column_xors : (a b : List ℕ) → Column a → Column b → Column (xors a b)
column_xors a b ha hb = (length-zip2 bit_xor a b (ha.0 ∙ sym hb.0) ∙ ha.0, small_xors a b ha.1 hb.1)

mixed_xors : (a b : List ℕ) → Column a → Column b → mixed (xors a b) ≡ bit_xor (mixed a) (mixed b)
mixed_xors a b ha hb = mixed_xor a b (ha.0 ∙ sym hb.0) ha.1 hb.1

abbrev pairs : (ℕ → ℕ) → List ℕ
pairs v = xors (xors (xors (pair 0 (v 0)) (pair 1 (v 1))) (pair 2 (v 2))) (pair 3 (v 3))

mixed_pairs : (v : ℕ → ℕ) → mixed (pairs v) ≡ bit_xor (bit_xor (bit_xor (mixed (pair 0 (v 0))) (mixed (pair 1 (v 1)))) (mixed (pair 2 (v 2)))) (mixed (pair 3 (v 3)))
mixed_pairs v =
    let p : (t : ℕ) → Column (pair t (v t)) = λ t. column_pair t (v t) in
    let p01 : Column (xors (pair 0 (v 0)) (pair 1 (v 1))) = column_xors (pair 0 (v 0)) (pair 1 (v 1)) (p 0) (p 1) in
    let p012 : Column (xors (xors (pair 0 (v 0)) (pair 1 (v 1))) (pair 2 (v 2))) = column_xors (xors (pair 0 (v 0)) (pair 1 (v 1))) (pair 2 (v 2)) p01 (p 2) in
    mixed_xors (xors (xors (pair 0 (v 0)) (pair 1 (v 1))) (pair 2 (v 2))) (pair 3 (v 3)) p012 (p 3)
    ∙ ap (λ n. bit_xor n (mixed (pair 3 (v 3))))
    (mixed_xors (xors (pair 0 (v 0)) (pair 1 (v 1))) (pair 2 (v 2)) p01 (p 2)
    ∙ ap (λ n. bit_xor n (mixed (pair 2 (v 2)))) (mixed_xors (pair 0 (v 0)) (pair 1 (v 1)) (p 0) (p 1)))

pairs_are : (v : ℕ → ℕ) → pairs v ≡ get_or s_box (v 0 % 16) 0 ∷ get_or s_box (v 0 / 16) 0 ∷ get_or s_box (v 1 % 16) 0 ∷ get_or s_box (v 1 / 16) 0 ∷ get_or s_box (v 2 % 16) 0 ∷ get_or s_box (v 2 / 16) 0 ∷ get_or s_box (v 3 % 16) 0 ∷ get_or s_box (v 3 / 16) 0 ∷ []
unfolding pair
pairs_are v = simp xor_zero_r

column_of_turned : (X : Square) (j : ℕ) → Cells X → j < 8 → column_of (shift_rows (sub_cells X)) j ≡ pairs (turned X j)
unfolding column_of
column_of_turned X j h hj =
    let low : (t : ℕ) → t < 4 → cell (shift_rows (sub_cells X)) (2 * t) j ≡ get_or s_box (turned X j t % 16) 0 = λ t ht. low_row X j t h hj ht in
    let high : (t : ℕ) → t < 4 → cell (shift_rows (sub_cells X)) (2 * t + 1) j ≡ get_or s_box (turned X j t / 16) 0 = λ t ht. high_row X j t h hj ht in
    ap₂ ◌∷◌ (low 0 (omega arith)) (ap₂ ◌∷◌ (high 0 (omega arith))
    (ap₂ ◌∷◌ (low 1 (omega arith)) (ap₂ ◌∷◌ (high 1 (omega arith))
    (ap₂ ◌∷◌ (low 2 (omega arith)) (ap₂ ◌∷◌ (high 2 (omega arith))
    (ap₂ ◌∷◌ (low 3 (omega arith)) (ap₂ ◌∷◌ (high 3 (omega arith)) refl)))))))
    ∙ sym (pairs_are (turned X j))

-- ---- the table

pub entry_of_pair : (t v : ℕ) → v < 256 → entry_of (256 * t + v) ≡ mixed (pair t v)
unfolding entry_of
entry_of_pair t v h =
    let q : (256 * t + v) / 256 ≡ t = omega arith in
    let r : (256 * t + v) % 256 ≡ v = omega arith in
    ap₂ (λ t v. mixed (pair t v)) q r

-- the entry for rows 2t and 2t + 1 of column j
abbrev pub taken : Square → ℕ → ℕ → ℕ
taken X j t = entry_of (256 * t + turned X j t)

pub four_entries : (X : Square) (j : ℕ) → Cells X → j < 8 → bit_xor (bit_xor (bit_xor (taken X j 0) (taken X j 1)) (taken X j 2)) (taken X j 3) ≡ mixed (column_of (shift_rows (sub_cells X)) j)
four_entries X j h hj =
    let e : (t : ℕ) → taken X j t ≡ mixed (pair t (turned X j t)) = λ t. entry_of_pair t (turned X j t) (turned_small X j t h) in
    ap₂ bit_xor (ap₂ bit_xor (ap₂ bit_xor (e 0) (e 1)) (e 2)) (e 3)
    ∙ sym (mixed_pairs (turned X j))
    ∙ ap mixed (sym (column_of_turned X j h hj))

-- ---- a round

pub columns_round : (w v : List ℕ) (k : ℕ) → length w ≡ 8 → length v ≡ 8 → ((j : ℕ) → j < 8 → get_or v j 0 ≡ mixed (column_of (shift_rows (sub_cells (unpacked (added w k)))) j)) → v ≡ columns_of (a_round (unpacked w) k)
unfolding columns_of a_round
columns_round w v k lw lv h =
    let Y : Square = shift_rows (sub_cells (add_constant (unpacked w) k)) in
    fill_by_all (λ j. packed (column_of (mix_column_serial Y) j)) v 8 0 lv
    (λ j hj. h j hj
    ∙ ap (λ (X : Square). mixed (column_of (shift_rows (sub_cells X)) j)) (unpacked_added w k lw)
    ∙ ap packed (column_of_mixed Y j hj))
