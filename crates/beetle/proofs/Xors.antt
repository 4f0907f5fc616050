-- XOR over lists, and what a padded block does to a list. Assumes nothing.
use Rattle.std.proofs.Common.{◌≡◌, ℕ, zero, suc, ◌+◌, ◌-◌, ◌<◌, ◌≤◌, List, [], ◌∷◌, ◌++◌, length, get_or, take, drop, set, replicate, sym, refl, ap, ◌∙◌, ⊎_elim, add-one, append-nil, take_at, drop_at, arith, length-append}
use borrow.Rule.Slice.PartMut.{put_mid}
use Rattle.std.proofs.lemmas.List.{drop_all}
use lib.Bits.{bit_xor, xor_zero_l, xor_zero_r}
use lib.ListN.{length-replicate}
use Rattle.std.proofs.lemmas.Bool.{lt-ltb, le-ltb, cond-true, cond-false, cases_lt}
use Rattle.beetle.specs.Blocks.{xored, padded}

pub xored_nil : (xs : List ℕ) → xored xs [] ≡ xs
xored_nil [] = refl
xored_nil (x ∷ xs) = refl

pub length_xored : (xs ys : List ℕ) → length (xored xs ys) ≡ length xs
length_xored [] ys = refl
length_xored (x ∷ xs) [] = refl
length_xored (x ∷ xs) (y ∷ ys) = ap suc (length_xored xs ys)

-- one byte more of ys
xored_suc : (xs ys : List ℕ) (i : ℕ) → i < length xs → i < length ys → set (xored xs (take i ys)) i (bit_xor (get_or (xored xs (take i ys)) i 0) (get_or ys i 0)) ≡ xored xs (take (suc i) ys)
xored_suc [] ys i h k = absurd (omega arith)
xored_suc (x ∷ xs) [] i h k = absurd (omega arith)
xored_suc (x ∷ xs) (y ∷ ys) zero h k = ap (λ l. bit_xor x y ∷ l) (sym (xored_nil xs))
xored_suc (x ∷ xs) (y ∷ ys) (suc i) h k = ap (λ l. bit_xor x y ∷ l) (xored_suc xs ys i (omega arith) (omega arith))

pub xored_more : (xs ys : List ℕ) (i : ℕ) → i < length xs → i < length ys → set (xored xs (take i ys)) i (bit_xor (get_or (xored xs (take i ys)) i 0) (get_or ys i 0)) ≡ xored xs (take (i + 1) ys)
xored_more xs ys i h k = xored_suc xs ys i h k ∙ ap (λ n. xored xs (take n ys)) (sym (add-one i))

pub xored_zeros : (xs : List ℕ) (k : ℕ) → xored xs (replicate k 0) ≡ xs
xored_zeros [] k = refl
xored_zeros (x ∷ xs) zero = refl
xored_zeros (x ∷ xs) (suc k) = (λ i. xor_zero_r x i ∷ xored_zeros xs k i)

-- the byte 01 after a block, and the zeros after it
pub xored_pad : (xs ys : List ℕ) (k : ℕ) → length ys < length xs → set (xored xs ys) (length ys) (bit_xor (get_or (xored xs ys) (length ys) 0) 1) ≡ xored xs (ys ++ 1 ∷ replicate k 0)
xored_pad [] ys k h = absurd (omega arith)
xored_pad (x ∷ xs) [] k h = ap (λ l. bit_xor x 1 ∷ l) (sym (xored_zeros xs k))
xored_pad (x ∷ xs) (y ∷ ys) k h = ap (λ l. bit_xor x y ∷ l) (xored_pad xs ys k (omega arith))

pub padded_short : (n : ℕ) (D : List ℕ) → length D < n → padded n D ≡ D ++ 1 ∷ replicate (n - length D - 1) 0
unfolding padded
padded_short n D h = cond-true _ _ _ (lt-ltb (length D) n h)

pub padded_full : (n : ℕ) (D : List ℕ) → n ≤ length D → padded n D ≡ D
unfolding padded
padded_full n D h = cond-false _ _ _ (le-ltb (length D) n h)

pub xored_zero_state : (n : ℕ) (ys : List ℕ) → length ys ≤ n → xored (replicate n 0) ys ≡ ys ++ replicate (n - length ys) 0
xored_zero_state zero [] h = refl
xored_zero_state zero (y ∷ ys) h = absurd (omega arith)
xored_zero_state (suc n) [] h = ap (λ k. replicate k 0) (let e : suc n ≡ suc n - 0 = omega arith in e)
xored_zero_state (suc n) (y ∷ ys) h =
    let e : suc n - suc (length ys) ≡ n - length ys = omega arith in
    (λ i. xor_zero_l y i ∷ xored_zero_state n ys (omega arith) i) ∙ ap (λ k. y ∷ ys ++ replicate k 0) (sym e)

pub length_padded : (n : ℕ) (D : List ℕ) → length D ≤ n → length (padded n D) ≡ n
length_padded n D h =
    ⊎_elim
    (λ l. ap length (padded_short n D l) ∙ length-append D (1 ∷ replicate (n - length D - 1) 0) ∙ (let e = length-replicate {A = ℕ} (n - length D - 1) 0 in omega arith))
    (λ m. ap length (padded_full n D m) ∙ omega arith)
    (cases_lt (length D) n)

-- 16 bytes ys written after 16 others
pub halves : (xs ys zs : List ℕ) → length xs ≡ 16 → length zs ≡ 16 → put_mid 16 16 (xs ++ zs) ys ≡ xs ++ ys
halves xs ys zs e z =
    (λ i. take_at xs zs 16 e i ++ (ys ++ drop 16 (drop_at xs zs 16 e i)))
    ∙ ap (λ l. xs ++ (ys ++ l)) (drop_all 16 zs (omega arith))
    ∙ ap (λ l. xs ++ l) (append-nil ys)
