-- The shifts and masks of the table engine, as cells. Assumes nothing.
use Rattle.std.proofs.Common.{◌≡◌, ℕ, zero, suc, ◌+◌, ◌-◌, ◌*◌, ◌/◌, ◌%◌, ◌^◌, ◌<◌, ◌≤◌, cond, eqb, List, [], ◌∷◌, length, get_or, drop, sym, refl, ap, ◌∙◌, subst, ap₂, lt_of_lt_of_le, arith, length-drop, pow_mono, pow-add}
use Rattle.std.specs.List.{fold}
use lib.Arith.{digits_lt}
use lib.Bits.{bit_and, bit_or, and_mask, and_high, or_shifted}
use Rattle.std.proofs.lemmas.Nat.{shr-shr, shl_whole}
use Rattle.std.proofs.lemmas.List.{drop_more, get_or-drop}
use Rattle.photon.specs.Photon.{cell, half, square_of}
use Rattle.photon.specs.Table.{packed, column_of, unpacked, turned}
use Rattle.photon.specs.Cells.{Nibbles, byte_of}
use Rattle.photon.specs.Bounds.{half_small, cells_square_of}
use Rattle.photon.specs.Squares.{cell_square}
use Rattle.photon.proofs.TableColumns.{length_column_of, cell_column_of, cell_unpacked, small_column_of}

-- two neighbouring rows of two columns, as the index of an entry
pub index_is : (w : List ℕ) (j t : ℕ) → j < 8 → t < 4 → bit_or (bit_and (get_or w ((j + 2 * t + 1) % 8) 0 / 2 ^ (8 * t)) 240) (bit_and (get_or w ((j + 2 * t) % 8) 0 / 2 ^ (8 * t)) 15) ≡ turned (unpacked w) j t
index_is w j t hj ht =
    let a : ℕ = get_or w ((j + 2 * t) % 8) 0 in
    let b : ℕ = get_or w ((j + 2 * t + 1) % 8) 0 in
    let at : j + 2 * t + 1 ≡ j + (2 * t + 1) = omega arith in
    let high : 8 * t + 4 ≡ 4 * (2 * t + 1) = omega arith in
    let low : 8 * t ≡ 4 * (2 * t) = omega arith in
    let low_row : a / 2 ^ (8 * t) % 16 ≡ cell (unpacked w) (2 * t) ((j + 2 * t) % 8) =
    ap (λ k. a / 2 ^ k % 16) low ∙ sym (cell_unpacked w (2 * t) ((j + 2 * t) % 8) (omega arith) (omega arith)) in
    let high_row : b / 2 ^ (8 * t) / 16 % 16 ≡ cell (unpacked w) (2 * t + 1) ((j + (2 * t + 1)) % 8) =
    ap (λ n. n % 16) (shr-shr b (8 * t) 4) ∙ ap (λ k. b / 2 ^ k % 16) high ∙ ap (λ m. get_or w (m % 8) 0 / 2 ^ (4 * (2 * t + 1)) % 16) at
    ∙ sym (cell_unpacked w (2 * t + 1) ((j + (2 * t + 1)) % 8) (omega arith) (omega arith)) in
    ap₂ bit_or (and_high (b / 2 ^ (8 * t)) 4 4) (and_mask (a / 2 ^ (8 * t)) 4)
    ∙ or_shifted (b / 2 ^ (8 * t) / 16 % 16) 4 (a / 2 ^ (8 * t) % 16) (omega arith)
    ∙ omega (arith, low_row, high_row)

-- ---- loading

abbrev pub Fill : List ℕ → Type 0
Fill s = (i : ℕ) → get_or s i 0 < 256

parity : (x m : ℕ) → x < 256 → m < 2 → x / 2 ^ (4 * m) % 16 ≡ cond (eqb m 0) (x % 16) (x / 16)
parity x zero h hm = omega arith
parity x (suc zero) h hm = omega arith
parity x (suc (suc m)) h hm = absurd (omega arith)

pub half_is : (s : List ℕ) (i j : ℕ) → Fill s → bit_and (get_or s (4 * i + j / 2) 0 / 2 ^ (4 * (j % 2))) 15 ≡ half s (8 * i + j)
half_is s i j h =
    let q : 4 * i + j / 2 ≡ (8 * i + j) / 2 = omega arith in
    let r : j % 2 ≡ (8 * i + j) % 2 = omega arith in
    and_mask (get_or s (4 * i + j / 2) 0 / 2 ^ (4 * (j % 2))) 4
    ∙ ap₂ (λ k m. get_or s k 0 / 2 ^ (4 * m) % 16) q r
    ∙ parity (get_or s ((8 * i + j) / 2) 0) ((8 * i + j) % 2) (h ((8 * i + j) / 2)) (omega arith)

packed_below : (c : List ℕ) → Nibbles c → packed c < 2 ^ (4 * length c)
packed_below [] h = omega arith
packed_below (x ∷ c) h =
    let e : 4 * suc (length c) ≡ 4 * length c + 4 = omega arith in
    subst (λ n. packed c * 16 + x < n) (sym (ap (λ k. 2 ^ k) e ∙ pow-add 2 (4 * length c) 4))
    (digits_lt (packed_below c (λ i. h (suc i))) (h 0))

cell_square_of : (s : List ℕ) (i j : ℕ) → i < 8 → j < 8 → cell (square_of s) i j ≡ half s (8 * i + j)
unfolding square_of
cell_square_of s i j hi hj = cell_square (λ i j. half s (8 * i + j)) i j hi hj

-- the rows from i > 0 on fill 28 bits at most
below_28 : (c : List ℕ) (i : ℕ) → length c ≡ 8 → 0 < i → Nibbles c → packed (drop i c) < 2 ^ 28
below_28 c i long lo h =
    let le : 4 * length (drop i c) ≤ 28 = omega (arith, length-drop i c) in
    lt_of_lt_of_le (packed_below (drop i c) (λ k. subst (λ n. n < 16) (sym (get_or-drop i c k 0)) (h (i + k)))) (pow_mono le)

-- one more row, from the last one up
pub loaded_more : (s : List ℕ) (j i a b : ℕ) → Fill s → j < 8 → 0 < i → i ≤ 8 → a ≡ packed (drop i (column_of (square_of s) j)) → b ≡ bit_and (get_or s (4 * (i - 1) + j / 2) 0 / 2 ^ (4 * (j % 2))) 15 → bit_or (a * 16 % 2 ^ 32) b ≡ packed (drop (i - 1) (column_of (square_of s) j))
loaded_more s j i a b h hj lo hi ea eb =
    let col : List ℕ = column_of (square_of s) j in
    let long : length col ≡ 8 = length_column_of (square_of s) j in
    let up : i - 1 + 1 ≡ i = omega arith in
    let small : a < 2 ^ 28 = subst (λ n. n < 2 ^ 28) (sym ea) (below_28 col i long lo (small_column_of (square_of s) j (cells_square_of s h))) in
    let row : b ≡ half s (8 * (i - 1) + j) = eb ∙ half_is s (i - 1) j h in
    let there : half s (8 * (i - 1) + j) ≡ get_or col (i - 1) 0 =
    sym (cell_column_of (square_of s) j (i - 1) (omega arith) ∙ cell_square_of s (i - 1) j (omega arith) hj) in
    let rows : drop (i - 1) col ≡ get_or col (i - 1) 0 ∷ drop i col =
    drop_more col (i - 1) 0 (omega arith) ∙ ap (λ k. get_or col (i - 1) 0 ∷ drop k col) up in
    ap₂ bit_or (shl_whole a 28 4 32 small (omega arith)) row
    ∙ or_shifted a 4 (half s (8 * (i - 1) + j)) (half_small s (8 * (i - 1) + j) h)
    ∙ ap₂ (λ m n. m * 16 + n) ea there
    ∙ ap packed (sym rows)

-- the numbers below n, downwards
abbrev pub downwards : ℕ → List ℕ
downwards zero = []
downwards (suc n) = n ∷ downwards n

-- all eight rows, from the last one up
pub loaded : (s : List ℕ) (j i a : ℕ) → Fill s → j < 8 → i ≤ 8 → a ≡ packed (drop i (column_of (square_of s) j)) → fold (λ column i. bit_or (column * 16 % 2 ^ 32) (bit_and (get_or s (4 * i + j / 2) 0 / 2 ^ (4 * (j % 2))) 15)) a (downwards i) ≡ packed (column_of (square_of s) j)
loaded s j zero a h hj hi e = e
loaded s j (suc i) a h hj hi e =
    let below : suc i - 1 ≡ i = omega arith in
    let more = subst (λ k. bit_or (a * 16 % 2 ^ 32) (bit_and (get_or s (4 * k + j / 2) 0 / 2 ^ (4 * (j % 2))) 15) ≡ packed (drop k (column_of (square_of s) j))) below
    (loaded_more s j (suc i) a (bit_and (get_or s (4 * (suc i - 1) + j / 2) 0 / 2 ^ (4 * (j % 2))) 15) h hj (omega arith) hi e refl) in
    loaded s j i (bit_or (a * 16 % 2 ^ 32) (bit_and (get_or s (4 * i + j / 2) 0 / 2 ^ (4 * (j % 2))) 15)) h hj (omega arith) more

-- ---- storing

pub byte_is : (w : List ℕ) (k : ℕ) → k < 32 → bit_or (bit_and (get_or w (2 * (k % 4) + 1) 0 / 2 ^ (4 * (k / 4))) 15 * 16 % 2 ^ 32) (bit_and (get_or w (2 * (k % 4)) 0 / 2 ^ (4 * (k / 4))) 15) ≡ byte_of (unpacked w) k
byte_is w k h =
    let x : ℕ = get_or w (2 * (k % 4)) 0 / 2 ^ (4 * (k / 4)) in
    let y : ℕ = get_or w (2 * (k % 4) + 1) 0 / 2 ^ (4 * (k / 4)) in
    let row : k / 4 ≡ 2 * k / 8 = omega arith in
    let row' : k / 4 ≡ (2 * k + 1) / 8 = omega arith in
    let col : 2 * (k % 4) ≡ 2 * k % 8 = omega arith in
    let col' : 2 * (k % 4) + 1 ≡ (2 * k + 1) % 8 = omega arith in
    let low : x % 16 ≡ cell (unpacked w) (2 * k / 8) (2 * k % 8) =
    ap₂ (λ j i. get_or w j 0 / 2 ^ (4 * i) % 16) col row ∙ sym (cell_unpacked w (2 * k / 8) (2 * k % 8) (omega arith) (omega arith)) in
    let high : y % 16 ≡ cell (unpacked w) ((2 * k + 1) / 8) ((2 * k + 1) % 8) =
    ap₂ (λ j i. get_or w j 0 / 2 ^ (4 * i) % 16) col' row' ∙ sym (cell_unpacked w ((2 * k + 1) / 8) ((2 * k + 1) % 8) (omega arith) (omega arith)) in
    ap₂ (λ m n. bit_or (m * 16 % 2 ^ 32) n) (and_mask y 4) (and_mask x 4)
    ∙ ap (λ m. bit_or m (x % 16)) (shl_whole (y % 16) 4 4 32 (omega arith) (omega arith))
    ∙ or_shifted (y % 16) 4 (x % 16) (omega arith)
    ∙ omega (arith, low, high)
