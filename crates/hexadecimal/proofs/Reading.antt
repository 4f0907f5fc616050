-- What has been read of a hexadecimal text, and what is left. Assumes nothing.
use Rattle.std.proofs.Common.{◌≡◌, ℕ, zero, suc, ◌+◌, ◌*◌, ◌<◌, ◌≤◌, ◌/◌, ◌%◌, List, [], ◌∷◌, ◌++◌, length, get_or, drop, Some, None, Option, sym, refl, ap, ◌∙◌, append_assoc, append-nil, arith}
use Rattle.std.specs.Simd.{first_chunks}
use Rattle.std.proofs.lemmas.List.{drop_more, at_drop_all}
use Rattle.hexadecimal.specs.Hex.{byte_of, before, bytes_of}

-- what pairs of digits stand for
abbrev pub pairs_bytes : List (List ℕ) → Option (List ℕ)
pairs_bytes [] = Some []
pairs_bytes (pair ∷ pairs) = before (byte_of (get_or pair 0 0) (get_or pair 1 0)) (pairs_bytes pairs)

pub pairs_text : (k : ℕ) (bs : List ℕ) → length bs ≡ k * 2 → pairs_bytes (first_chunks 2 k bs) ≡ bytes_of bs
pairs_text zero [] h = refl
pairs_text zero (b ∷ bs) h = absurd (omega arith)
pairs_text (suc k) [] h = absurd (omega arith)
pairs_text (suc k) (a ∷ []) h = absurd (omega arith)
pairs_text (suc k) (a ∷ b ∷ bs) h = ap (before (byte_of a b)) (pairs_text k bs (omega arith))

-- and so do the pairs that a text is cut in
pub whole : (pairs : List (List ℕ)) (bytes text : List ℕ) → bytes ≡ text → pairs ≡ first_chunks 2 (length bytes / 2) bytes → length bytes % 2 ≡ 0 → pairs_bytes pairs ≡ bytes_of text
whole pairs bytes text p q h = ap pairs_bytes q ∙ pairs_text (length bytes / 2) bytes (omega arith) ∙ ap bytes_of p

-- a text of an odd length stands for nothing
pub odd_none : (bs : List ℕ) → length bs % 2 ≡ 1 → bytes_of bs ≡ None
odd_none [] h = absurd (omega arith)
odd_none (a ∷ []) h = refl
odd_none (a ∷ b ∷ bs) h = ap (before (byte_of a b)) (odd_none bs (omega arith)) ∙ nothing (byte_of a b)
  where
    nothing : (o : Option ℕ) → before o None ≡ None
    nothing None = refl
    nothing (Some b) = refl

abbrev pub after : List ℕ → Option (List ℕ) → Option (List ℕ)
after xs None = None
after xs (Some ys) = Some (xs ++ ys)

-- the bytes xs, before what the pairs from i on stand for, are what all the pairs stand for
abbrev pub Read : List (List ℕ) → List ℕ → ℕ → Type 0
Read pairs xs i = after xs (pairs_bytes (drop i pairs)) ≡ pairs_bytes pairs

module _ (pairs : List (List ℕ)) (xs : List ℕ) (i : ℕ) (none : List ℕ) (h : i < length pairs) (e : Read pairs xs i) where
  open_one : after xs (before (byte_of (get_or (get_or pairs i none) 0 0) (get_or (get_or pairs i none) 1 0)) (pairs_bytes (drop (i + 1) pairs))) ≡ pairs_bytes pairs
  open_one = ap (λ l. after xs (pairs_bytes l)) (sym (drop_more pairs i none h)) ∙ e

  pub read_more : (b : ℕ) → byte_of (get_or (get_or pairs i none) 0 0) (get_or (get_or pairs i none) 1 0) ≡ Some b → Read pairs (xs ++ b ∷ []) (i + 1)
  read_more b p = sym (after_one (pairs_bytes (drop (i + 1) pairs))) ∙ (λ j. after xs (before (sym p j) (pairs_bytes (drop (i + 1) pairs)))) ∙ open_one
    where
      after_one : (o : Option (List ℕ)) → after xs (before (Some b) o) ≡ after (xs ++ b ∷ []) o
      after_one None = refl
      after_one (Some ys) = ap Some (sym (append_assoc xs (b ∷ []) ys))

  pub read_nothing : byte_of (get_or (get_or pairs i none) 0 0) (get_or (get_or pairs i none) 1 0) ≡ None → pairs_bytes pairs ≡ None
  read_nothing p = sym open_one ∙ (λ j. after xs (before (p j) (pairs_bytes (drop (i + 1) pairs))))

pub read_all : (pairs : List (List ℕ)) (xs : List ℕ) (i : ℕ) → length pairs ≤ i → Read pairs xs i → pairs_bytes pairs ≡ Some xs
read_all pairs xs i h e = sym e ∙ at_drop_all (λ l. after xs (pairs_bytes l)) pairs i h ∙ ap Some (append-nil xs)
