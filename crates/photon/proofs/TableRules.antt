-- The rule of a list, tested once over the whole list and carried to each entry; and the rule of the table in a form that
-- is quick to compute. Assumes nothing.
use Rattle.std.proofs.Common.{◌≡◌, ℕ, zero, suc, ◌/◌, ◌%◌, T, eqb, List, map, length, get_or, sym, refl, ap, ◌∙◌, arith, eqb→eq, length-append, length-drop}
use Rattle.std.specs.List.{range_with_len}
use Rattle.std.proofs.lemmas.List.FromFn.{fill_by_all}
use Rattle.photon.specs.Photon.{by_m, by_ms}
use Rattle.photon.specs.Table.{packed, pair, entry_of}
use Rattle.photon.specs.Computed.{every, at}
use Rattle.photon.proofs.Moves.{moved, by_m_moved}
use Rattle.photon.specs.Squares.{counted_ext}

-- xs is f 0, f 1, .. where the test passes at each entry
pub by_rule : (f : ℕ → ℕ) (xs : List ℕ) (n : ℕ) → length xs ≡ n → T (every (λ k x. eqb x (f k)) 0 xs) → xs ≡ map f (range_with_len 0 n)
by_rule f xs n long test =
    fill_by_all f xs n 0 long (λ k h. eqb→eq (get_or xs k 0) (f k) (at (λ k x. eqb x (f k)) xs test k (omega arith)))

abbrev pub moves : ℕ → List ℕ → List ℕ
moves zero c = c
moves (suc n) c = moved (moves n c)

length_moves : (n : ℕ) (c : List ℕ) → length c ≡ 8 → length (moves n c) ≡ 8
length_moves zero c long = long
length_moves (suc n) c long = let e = length_moves n c long in simp (length-append, length-drop) (omega arith)

by_ms_moves : (n : ℕ) (c : List ℕ) → length c ≡ 8 → by_ms n c ≡ moves n c
by_ms_moves zero c long = refl
by_ms_moves (suc n) c long = ap by_m (by_ms_moves n c long) ∙ by_m_moved (moves n c) (length_moves n c long)

abbrev pub quick : ℕ → ℕ
quick k = packed (moves 8 (pair (k / 256) (k % 256)))

quick_is : (k : ℕ) → quick k ≡ entry_of k
unfolding pair entry_of
quick_is k = ap packed (sym (by_ms_moves 8 (pair (k / 256) (k % 256)) refl))

pub by_quick : (xs : List ℕ) (n : ℕ) → xs ≡ map quick (range_with_len 0 n) → xs ≡ map entry_of (range_with_len 0 n)
by_quick xs n e = e ∙ counted_ext quick entry_of n 0 (λ k h. quick_is k)
