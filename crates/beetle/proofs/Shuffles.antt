-- The shuffled state, byte by byte. Assumes nothing.
use Rattle.std.proofs.Common.{◌≡◌, ℕ, zero, suc, ◌+◌, ◌-◌, ◌*◌, ◌/◌, ◌%◌, ◌<◌, ◌≤◌, List, [], ◌∷◌, ◌++◌, map, length, get_or, take, drop, replicate, sym, refl, ap, ◌∙◌, ⊎_elim, arith, length-append, length-drop, length-take-le, get_or-drop, get_or-take, take-take, ext_get_or}
use lib.Bits.{bit_xor}
use lib.ListN.{length-replicate}
use Rattle.std.specs.List.{range_with_len}
use Rattle.std.proofs.lemmas.List.FromFn.{get_or-map-range_with_len, length-map-range_with_len, fill_by_all}
use Rattle.std.proofs.lemmas.List.{get_or_append_left, get_or-append_right, get_or_past, get_or-replicate}
use Rattle.std.proofs.lemmas.Bool.{cases_lt}
use Rattle.std.proofs.lemmas.Nat.{mod_below}
use Rattle.beetle.specs.Blocks.{xored}
use Rattle.beetle.specs.Mode.{rotated, shuffled, masked}
use Rattle.beetle.proofs.Xors.{length_xored}

-- byte k of the first h bytes of S turned right by one bit
abbrev pub turned : ℕ → List ℕ → ℕ → ℕ
turned h S k = get_or S k 0 / 2 + 128 * (get_or S ((k + 1) % h) 0 % 2)

pub length_rotated : (H : List ℕ) → length (rotated H) ≡ length H
unfolding rotated
length_rotated H = length-map-range_with_len _ 0 (length H)

pub get_or_rotated : (H : List ℕ) (k : ℕ) → k < length H → get_or (rotated H) k 0 ≡ turned (length H) H k
unfolding rotated
get_or_rotated H k h = get_or-map-range_with_len _ 0 (length H) k k 0 h (omega arith)

-- r is even and the state is long enough
module _ (r h : ℕ) (S : List ℕ) (half : r / 2 ≡ h) (even : h + h ≡ r) (within : r ≤ length S) where
  front : take h (take r S) ≡ take h S
  front = take-take h r S (omega arith)

  long : length (take h S) ≡ h
  long = length-take-le h S (omega arith)

  parts : shuffled r (take r S) ≡ drop h (take r S) ++ rotated (take h S)
  unfolding shuffled
  parts = (λ i. drop (half i) (take r S) ++ rotated (take (half i) (take r S))) ∙ ap (λ l. drop h (take r S) ++ rotated l) front

  back : length (drop h (take r S)) ≡ h
  back = length-drop h (take r S) ∙ (let e = length-take-le r S within in omega arith)

  pub length_shuffled : length (shuffled r (take r S)) ≡ r
  length_shuffled = ap length parts ∙ length-append (drop h (take r S)) (rotated (take h S)) ∙ (let e = length_rotated (take h S) in omega (arith, back, long))

  pub shuffled_low : (k : ℕ) → k < h → get_or (shuffled r (take r S)) k 0 ≡ get_or S (h + k) 0
  shuffled_low k l =
      ap (λ xs. get_or xs k 0) parts
      ∙ get_or_append_left (drop h (take r S)) _ 0 k (omega (arith, back))
      ∙ get_or-drop h (take r S) k 0
      ∙ get_or-take r S (h + k) 0 (omega arith)

  turned_take : (k : ℕ) → k < h → turned h (take h S) k ≡ turned h S k
  turned_take k l = (λ i. get_or-take h S k 0 l i / 2 + 128 * (get_or-take h S ((k + 1) % h) 0 (mod_below (k + 1) h (omega arith)) i % 2))

  pub shuffled_high : (k : ℕ) → k < h → get_or (shuffled r (take r S)) (h + k) 0 ≡ turned h S k
  shuffled_high k l =
      let at : h + k - h ≡ k = omega arith in
      ap (λ xs. get_or xs (h + k) 0) parts
      ∙ get_or-append_right (drop h (take r S)) (rotated (take h S)) h (h + k) 0 back (omega arith)
      ∙ ap (λ n. get_or (rotated (take h S)) n 0) at
      ∙ get_or_rotated (take h S) k (omega (arith, long))
      ∙ ap (λ n. turned n (take h S) k) long
      ∙ turned_take k l

-- the bytes of xs, and then 0 for each read past them
pub zeros_past : (xs : List ℕ) (n k : ℕ) → length xs + k ≡ n → map (λ i. get_or xs i 0) (range_with_len 0 n) ≡ xs ++ replicate k 0
zeros_past xs n k split =
    let z = length-replicate {A = ℕ} k 0 in
    sym (fill_by_all (λ i. get_or xs i 0) (xs ++ replicate k 0) n 0 (length-append xs (replicate k 0) ∙ omega arith)
    (λ i l. ⊎_elim
    (λ inside. get_or_append_left xs (replicate k 0) 0 i inside)
    (λ past. get_or-append_right xs (replicate k 0) (length xs) i 0 refl past ∙ get_or-replicate k (i - length xs) 0 0 (omega arith) ∙ sym (get_or_past xs i 0 past))
    (cases_lt i (length xs))))

-- XOR byte by byte
pub get_or_xored : (xs ys : List ℕ) (k : ℕ) → k < length xs → k < length ys → get_or (xored xs ys) k 0 ≡ bit_xor (get_or xs k 0) (get_or ys k 0)
get_or_xored [] ys k h l = absurd (omega arith)
get_or_xored (x ∷ xs) [] k h l = absurd (omega arith)
get_or_xored (x ∷ xs) (y ∷ ys) zero h l = refl
get_or_xored (x ∷ xs) (y ∷ ys) (suc k) h l = get_or_xored xs ys k (omega arith) (omega arith)

-- a block that is masked byte by byte with a key whose first r bytes are the shuffled state
pub masked_by : (r : ℕ) (S U K V : List ℕ) → take r K ≡ shuffled r (take r S) → length U ≤ r → r ≤ length K → length V ≡ length U → ((k : ℕ) → k < length U → get_or V k 0 ≡ bit_xor (get_or K k 0) (get_or U k 0)) → V ≡ masked r S U
unfolding masked
masked_by r S U K V key fits long same each =
    let mask : take (length U) (shuffled r (take r S)) ≡ take (length U) K = ap (take (length U)) (sym key) ∙ take-take (length U) r K fits in
    let n = length-take-le (length U) K (omega arith) in
    ext_get_or 0 V (xored (take (length U) K) U) (same ∙ sym (length_xored (take (length U) K) U ∙ n))
    (λ k l. each k (omega arith) ∙ sym (get_or_xored (take (length U) K) U k (omega arith) (omega arith) ∙ ap (λ b. bit_xor b (get_or U k 0)) (get_or-take (length U) K k 0 (omega arith))))
    ∙ ap (λ m. xored m U) (sym mask)
