-- Squares cell by cell. Assumes nothing.
use Rattle.std.specs.Prelude.{◌≡◌, ℕ, ◌<◌, ◌≤◌, List, [], map, length, slice_index, slice_index_or}
use Rattle.std.proofs.Common.{sym, ap, subst, ◌∙◌, ⊎_elim, arith}
use Rattle.std.specs.List.{range_with_len}
use Rattle.std.proofs.lemmas.List.FromFn.{get_or-map-range_with_len, length-map-range_with_len, fill_by_all}
use Rattle.std.proofs.lemmas.List.{get_or_past}
use Rattle.std.proofs.lemmas.Bool.{cases_lt}
use Rattle.photon.specs.Photon.{Square, cell, square}
pub use Rattle.photon.specs.Cells.{Cells}

pub row_square : (f : ℕ → ℕ → ℕ) (i : ℕ) → i < 8 → slice_index_or (square f) i [] ≡ map (f i) (range_with_len 0 8)
unfolding square
row_square f i h = get_or-map-range_with_len (λ i. map (f i) (range_with_len 0 8)) 0 8 i i [] h (omega arith)

pub cell_square : (f : ℕ → ℕ → ℕ) (i j : ℕ) → i < 8 → j < 8 → cell (square f) i j ≡ f i j
cell_square f i j hi hj =
    ap (λ (r : List ℕ). slice_index r j) (row_square f i hi) ∙ get_or-map-range_with_len (f i) 0 8 j j 0 hj (omega arith)

-- a square of eight rows is made by f once each row is
pub square_by_rows : (f : ℕ → ℕ → ℕ) (X : Square) → length X ≡ 8 → ((i : ℕ) → i < 8 → slice_index_or X i [] ≡ map (f i) (range_with_len 0 8)) → X ≡ square f
unfolding square
square_by_rows f X e h = fill_by_all (λ i. map (f i) (range_with_len 0 8)) X 8 [] e h

pub square_length : (f : ℕ → ℕ → ℕ) → length (square f) ≡ 8
unfolding square
square_length f = length-map-range_with_len (λ i. map (f i) (range_with_len 0 8)) 0 8

-- what a rule makes of 0 to n - 1 is set by its values there
pub counted_ext : {X : Type 0} (f g : ℕ → X) (n : ℕ) (d : X) → ((j : ℕ) → j < n → f j ≡ g j) → map f (range_with_len 0 n) ≡ map g (range_with_len 0 n)
counted_ext f g n d h =
    fill_by_all g (map f (range_with_len 0 n)) n d (length-map-range_with_len f 0 n)
    (λ j hj. get_or-map-range_with_len f 0 n j j d hj (omega arith) ∙ h j hj)

-- two rules that agree on the 64 cells make one square
pub square_ext : (f g : ℕ → ℕ → ℕ) → ((i j : ℕ) → i < 8 → j < 8 → f i j ≡ g i j) → square f ≡ square g
square_ext f g h =
    square_by_rows g (square f) (square_length f)
    (λ i hi. row_square f i hi ∙ counted_ext (f i) (g i) 8 0 (λ j hj. h i j hi hj))

pub cells_square : (f : ℕ → ℕ → ℕ) → ((i j : ℕ) → i < 8 → j < 8 → f i j < 16) → Cells (square f)
cells_square f h i j =
    ⊎_elim
    (λ hi. ⊎_elim
    (λ hj. subst (λ n. n < 16) (sym (cell_square f i j hi hj)) (h i j hi hj))
    (λ hj. subst (λ n. n < 16) (sym (ap (λ (r : List ℕ). slice_index r j) (row_square f i hi) ∙ get_or_past (map (f i) (range_with_len 0 8)) j 0 (subst (λ n. n ≤ j) (sym (length-map-range_with_len (f i) 0 8)) hj))) (omega arith))
    (cases_lt j 8))
    (λ hi. subst (λ n. n < 16) (sym (ap (λ (r : List ℕ). slice_index r j) (get_or_past (square f) i [] (subst (λ n. n ≤ i) (sym (square_length f)) hi)))) (omega arith))
    (cases_lt i 8)
