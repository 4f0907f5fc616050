-- The OR of XORs, by which two texts are compared with no early stop. Assumes nothing.
use Rattle.std.proofs.Common.{◌≡◌, ℕ, eqb, List, [], ◌∷◌, length, sym, refl, ap, ◌∙◌, arith}
use lib.Bits.{bit_or, bit_xor, or_add_and, and_le_l, and_le_r, xor_zero_l, xor_zero_r, xor_self, xor_assoc}
use Rattle.std.specs.List.{zip, fold}
use Rattle.std.specs.Str.{bytes_eq}
use Rattle.std.proofs.lemmas.Slice.Eq.{bytes_eq-Decides}
use Rattle.std.proofs.lemmas.Bool.Decides.{same_from_decides, Decides-eqb, Decides-like}

or_zero : (a b : ℕ) → bit_or a b ≡ 0 → (a ≡ 0) × (b ≡ 0)
or_zero a b e =
    let sum = or_add_and a b in
    let l = and_le_l a b in
    let m = and_le_r a b in
    (omega arith, omega arith)

pub xor_back : (a b : ℕ) → bit_xor a (bit_xor a b) ≡ b
xor_back a b = sym (xor_assoc a a b) ∙ ap (λ n. bit_xor n b) (xor_self a) ∙ xor_zero_l b

xor_zero : (a b : ℕ) → bit_xor a b ≡ 0 → a ≡ b
xor_zero a b e = sym (xor_zero_r a) ∙ ap (bit_xor a) (sym e) ∙ xor_back a b

abbrev pub differing : ℕ → List ℕ → List ℕ → ℕ
differing d xs ys = fold (λ a (p : ℕ × ℕ). bit_or a (bit_xor p.0 p.1)) d (zip xs ys)

pub same_if_none : (d : ℕ) (xs ys : List ℕ) → length xs ≡ length ys → differing d xs ys ≡ 0 → (d ≡ 0) × (xs ≡ ys)
same_if_none d [] [] same e = (e, refl)
same_if_none d [] (y ∷ ys) same e = absurd (omega arith)
same_if_none d (x ∷ xs) [] same e = absurd (omega arith)
same_if_none d (x ∷ xs) (y ∷ ys) same e =
    let rest = same_if_none (bit_or d (bit_xor x y)) xs ys (omega arith) e in
    let none = or_zero d (bit_xor x y) rest.0 in
    (none.0, (λ i. xor_zero x y none.1 i ∷ rest.1 i))

pub none_if_same : (d : ℕ) (xs : List ℕ) → d ≡ 0 → differing d xs xs ≡ 0
none_if_same d [] e = e
none_if_same d (x ∷ xs) e = none_if_same (bit_or d (bit_xor x x)) xs (λ i. bit_or (e i) (xor_self x i))

-- nothing differs exactly where the texts are the same
pub none_differs : (xs ys : List ℕ) → length xs ≡ length ys → eqb (differing 0 xs ys) 0 ≡ bytes_eq xs ys
none_differs xs ys same =
    same_from_decides _ _
    (Decides-like (eqb (differing 0 xs ys) 0)
    (λ e. (same_if_none 0 xs ys same e).1)
    (λ e. ap (differing 0 xs) (sym e) ∙ none_if_same 0 xs refl)
    (Decides-eqb (differing 0 xs ys) 0))
    (bytes_eq-Decides xs ys)
