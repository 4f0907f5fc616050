-- Bytes stay bytes. Assumes nothing.
use Rattle.std.proofs.Common.{ℕ, zero, suc, ◌-◌, ◌*◌, ◌/◌, ◌<◌, ◌≤◌, List, [], ◌∷◌, ◌++◌, length, get_or, take, drop, replicate, sym, refl, ◌∙◌, subst, ⊎_elim, arith, length-append, length-drop, length-set}
use lib.Bits.{xor_lt}
use Rattle.std.specs.List.{All, range_with_len, slice_index_or}
use Rattle.std.proofs.lemmas.List.{get_or_past}
use Rattle.std.proofs.lemmas.List.Elements.{All-get_or, All-from_get_or, All-append, All-cons, All-replicate, All-take, All-drop, All-set, All-map}
use Rattle.std.proofs.lemmas.Bool.{cases_lt, cond_both}
use Rattle.photon.specs.Bytes.{Bytes}
use Rattle.beetle.specs.Blocks.{xored, padded, added, ending, absorbed}
use Rattle.beetle.specs.Mode.{rotated, shuffled, masked, c0, c1, begun, ended, empty}
use Rattle.beetle.specs.Laws.{Small, Stays}
use Rattle.beetle.proofs.Xors.{length_xored}
use Rattle.beetle.proofs.Cuts.{absorbed_none, absorbed_more, ending_below}

abbrev byte : ℕ → Type 0
byte b = b < 256

-- between the two words for it: what is read past the end of a list is 0, a byte
all_bytes : (xs : List ℕ) → Small xs → All byte xs
all_bytes xs h = All-from_get_or byte xs 0 (λ i l. h i)

small : (xs : List ℕ) → All byte xs → Small xs
small xs h i =
    ⊎_elim (λ l. All-get_or byte xs i 0 l h) (λ g. subst byte (sym (get_or_past xs i 0 g)) (omega arith)) (cases_lt i (length xs))

pub small_nil : Small []
small_nil i = omega arith

pub small_xored : (xs ys : List ℕ) → Small xs → Small ys → Small (xored xs ys)
small_xored [] ys h k i = omega arith
small_xored (x ∷ xs) [] h k i = h i
small_xored (x ∷ xs) (y ∷ ys) h k zero = xor_lt 8 x y (h 0) (k 0)
small_xored (x ∷ xs) (y ∷ ys) h k (suc i) = small_xored xs ys (λ j. h (suc j)) (λ j. k (suc j)) i

pub small_append : (xs ys : List ℕ) → Small xs → Small ys → Small (xs ++ ys)
small_append xs ys h k = small (xs ++ ys) (All-append byte xs ys (all_bytes xs h) (all_bytes ys k))

pub small_zeros : (n : ℕ) → Small (replicate n 0)
small_zeros n = small (replicate n 0) (All-replicate byte n 0 (omega arith))

pub small_take : (n : ℕ) (xs : List ℕ) → Small xs → Small (take n xs)
small_take n xs h = small (take n xs) (All-take byte n xs (all_bytes xs h))

pub small_drop : (n : ℕ) (xs : List ℕ) → Small xs → Small (drop n xs)
small_drop n xs h = small (drop n xs) (All-drop byte n xs (all_bytes xs h))

pub small_padded : (n : ℕ) (D : List ℕ) → Small D → Small (padded n D)
unfolding padded
small_padded n D h =
    cond_both _ (D ++ 1 ∷ replicate (n - length D - 1) 0) D Small
    (λ _. let Z = replicate (n - length D - 1) 0 in
    small (D ++ 1 ∷ Z) (All-append byte D (1 ∷ Z) (all_bytes D h) (All-cons byte 1 Z (omega arith) (All-replicate byte (n - length D - 1) 0 (omega arith)))))
    (λ _. h)

-- the state takes a padded block or a constant
pub bytes_xored : (S D : List ℕ) → Bytes 32 S → Small D → Bytes 32 (xored S D)
bytes_xored S D h k = record { long = length_xored S D ∙ h.long; small = small_xored S D h.small k }

pub bytes_added : (c : ℕ) (S : List ℕ) → c < 8 → Bytes 32 S → Bytes 32 (added c S)
unfolding added
bytes_added c S s h = record {
  long = length-set S 31 _ ∙ h.long;
  small = small (added c S) (All-set byte S 31 _ (xor_lt 8 (get_or S 31 0) (32 * c) (h.small 31) (omega arith)) (all_bytes S h.small));
}

-- n bounds the length of the text
absorbed_upto : (P : List ℕ → List ℕ) (r n : ℕ) (S D : List ℕ) → Stays P → 0 < r → length D ≤ n → Bytes 32 S → Small D → Bytes 32 (absorbed P r S D)
absorbed_upto P r zero S D st p l h k = subst (Bytes 32) (sym (absorbed_none P r S D (omega arith))) h
absorbed_upto P r (suc n) S [] st p l h k = subst (Bytes 32) (sym (absorbed_none P r S [] refl)) h
absorbed_upto P r (suc n) S (x ∷ D) st p l h k =
    subst (Bytes 32) (sym (absorbed_more P r S (x ∷ D) p (omega arith)))
    (absorbed_upto P r n _ (drop r (x ∷ D)) st p (let e = length-drop r (x ∷ D) in omega arith)
    (bytes_xored (P S) (padded r (take r (x ∷ D))) (st S h) (small_padded r _ (small_take r (x ∷ D) k)))
    (small_drop r (x ∷ D) k))

pub bytes_absorbed : (P : List ℕ → List ℕ) (r : ℕ) (S D : List ℕ) → Stays P → 0 < r → Bytes 32 S → Small D → Bytes 32 (absorbed P r S D)
bytes_absorbed P r S D st p h k = absorbed_upto P r (length D) S D st p (omega arith) h k

-- the constants
pub ending_small : (r : ℕ) (D : List ℕ) (whole cut : ℕ) → whole < 8 → cut < 8 → ending r D whole cut < 8
ending_small r D whole cut h k = ending_below r D whole cut (ending r D whole cut) 8 refl h k

pub c0_small : (r : ℕ) (A M : List ℕ) → c0 r A M < 8
unfolding c0
c0_small r A M =
    cond_both (empty M) (ending r A 3 4) (ending r A 1 2) (λ c. c < 8)
    (λ _. ending_small r A 3 4 (omega arith) (omega arith)) (λ _. ending_small r A 1 2 (omega arith) (omega arith))

pub c1_small : (r : ℕ) (A M : List ℕ) → c1 r A M < 8
unfolding c1
c1_small r A M =
    cond_both (empty A) (ending r M 5 6) (ending r M 1 2) (λ c. c < 8)
    (λ _. ending_small r M 5 6 (omega arith) (omega arith)) (λ _. ending_small r M 1 2 (omega arith) (omega arith))

pub bytes_begun : (P : List ℕ → List ℕ) (r : ℕ) (K N A M : List ℕ) → Stays P → 0 < r → Bytes 16 K → Bytes 16 N → Small A → Bytes 32 (begun P r K N A M)
unfolding begun
bytes_begun P r K N A M st p k n a =
    let start : Bytes 32 (N ++ K) = record {
      long = length-append N K ∙ (let x = k.long in let y = n.long in omega arith);
      small = small_append N K n.small k.small;
    } in
    cond_both (empty A) _ _ (Bytes 32)
    (λ _. cond_both (empty M) _ _ (Bytes 32) (λ _. bytes_added 1 (N ++ K) (omega arith) start) (λ _. start))
    (λ _. bytes_added (c0 r A M) _ (c0_small r A M) (bytes_absorbed P r (N ++ K) A st p start a))

pub bytes_ended : (r : ℕ) (A M S : List ℕ) → Bytes 32 S → Bytes 32 (ended r A M S)
unfolding ended
bytes_ended r A M S h = cond_both (empty M) _ _ (Bytes 32) (λ _. h) (λ _. bytes_added (c1 r A M) S (c1_small r A M) h)

-- the shuffled state
small_rotated : (H : List ℕ) → Small H → Small (rotated H)
unfolding rotated
small_rotated H h =
    small (rotated H) (All-map byte _ (range_with_len 0 (length H)) (λ k d l. let b = h (slice_index_or (range_with_len 0 (length H)) k d) in omega arith))

pub small_masked : (r : ℕ) (S U : List ℕ) → Small S → Small U → Small (masked r S U)
unfolding masked shuffled
small_masked r S U h k =
    let front = small_take r S h in
    small_xored (take (length U) (shuffled r (take r S))) U
    (small_take (length U) _ (small_append _ _ (small_drop (r / 2) (take r S) front) (small_rotated _ (small_take (r / 2) (take r S) front)))) k
