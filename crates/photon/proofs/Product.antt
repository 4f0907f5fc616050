-- Products in the field, and M times a column. Assumes nothing.
use Rattle.std.proofs.Common.{◌≡◌, ℕ, ◌/◌, ◌%◌, cond, eqb, List, [], ◌∷◌, length, get_or, sym, ap, ◌∙◌, subst, arith}
use lib.Bits.{bit_xor, xor_assoc, xor_zero_r}
use Rattle.std.specs.List.{fold, zip}
use Rattle.photon.specs.Cells.{last_row}
use Rattle.photon.specs.Field.{times_z, times, dot}
use Rattle.photon.specs.Photon.{by_m}
use Rattle.photon.proofs.Moves.{eight, by_m_eight}

-- a product, from b and its doubled values, one for each digit of a
pub by_digits : (a b twice fourfold eightfold : ℕ) → twice ≡ times_z b → fourfold ≡ times_z twice → eightfold ≡ times_z fourfold
    → bit_xor (cond (eqb (a % 2) 1) b 0) (bit_xor (cond (eqb (a / 2 % 2) 1) twice 0) (bit_xor (cond (eqb (a / 4 % 2) 1) fourfold 0) (cond (eqb (a / 8 % 2) 1) eightfold 0))) ≡ times a b
unfolding times
by_digits a b twice fourfold eightfold e f g =
    let fourth : a / 2 / 2 ≡ a / 4 = omega arith in
    let eighth : a / 4 / 2 ≡ a / 8 = omega arith in
    rw (g, f, e, xor_zero_r, fourth, eighth)

-- a row of M times a column, as a sum from the left
pub fold_dot : (r c : List ℕ) (sum : ℕ) → fold (λ sum p. bit_xor sum (times p.0 p.1)) sum (zip r c) ≡ bit_xor sum (dot r c)
fold_dot [] c sum = sym (xor_zero_r sum)
fold_dot (a ∷ r) [] sum = sym (xor_zero_r sum)
fold_dot (a ∷ r) (x ∷ c) sum = fold_dot r c (bit_xor sum (times a x)) ∙ xor_assoc sum (times a x) (dot r c)

-- the new column, cell by cell
pub by_m_cells : (c : List ℕ) (p q r s t u v last : ℕ) → length c ≡ 8 → last ≡ dot last_row c
    → get_or c 1 p ∷ get_or c 2 q ∷ get_or c 3 r ∷ get_or c 4 s ∷ get_or c 5 t ∷ get_or c 6 u ∷ get_or c 7 v ∷ last ∷ [] ≡ by_m c
by_m_cells c p q r s t u v last long e =
    subst (λ (c : List ℕ). last ≡ dot last_row c → get_or c 1 p ∷ get_or c 2 q ∷ get_or c 3 r ∷ get_or c 4 s ∷ get_or c 5 t ∷ get_or c 6 u ∷ get_or c 7 v ∷ last ∷ [] ≡ by_m c) (sym (eight c long))
    (λ e. ap (λ (n : ℕ). get_or c 1 0 ∷ get_or c 2 0 ∷ get_or c 3 0 ∷ get_or c 4 0 ∷ get_or c 5 0 ∷ get_or c 6 0 ∷ get_or c 7 0 ∷ n ∷ []) e ∙ sym (by_m_eight (get_or c 0 0) (get_or c 1 0) (get_or c 2 0) (get_or c 3 0) (get_or c 4 0) (get_or c 5 0) (get_or c 6 0) (get_or c 7 0)))
    e
