-- The pairs that a table lists, after a change of the table.
-- Assumes nothing.
use Rattle.std.proofs.Common.{◌≡◌, ℕ, zero, suc, ◌+◌, ◌-◌, ◌<◌, ◌≤◌, true, false, ◌||◌, ltb, List, [], ◌∷◌, ◌++◌, map, length, get_or, take, drop, set, sym, refl, ap, ◌∙◌, add-one, arith}
use borrow.Rule.Slice.PartMut.{mid_of, post_of, put_mid}
use Rattle.std.proofs.lemmas.List.{append_assoc, map-append, length-map, length-append, length-take, length-take-le, length-drop, get_or-map, get_or-take, map-set, take_more, take_at, drop_at, set_at, take-take, take-map, drop-map, drop-take, drop-drop}
use Rattle.std.specs.List.{insert, remove}
use Rattle.std.proofs.Math.Seq.{take-set-lt}
use Rattle.std.proofs.lemmas.Bool.{ltb-true, ltb-false}
use Rattle.std.proofs.lemmas.List.Sorted.{IsNonDecreasingBy-from_default}
use Rattle.std.specs.List.{list_any}
use Rattle.std.specs.List.Sorted.{IsNonDecreasingBy}
use Rattle.register.specs.Cover.{apart_parts}
use Rattle.register.specs.Runs.{Pair, apart, covered, within}
use Rattle.register.specs.Spans.{pair_at, pair_of, pairs_of}
use Rattle.register.specs.declared.spans.Span.{Span}

abbrev nothing : Span
nothing = record { first = 0; len = 0 }

module _ {X : Type 0} where
  -- the last of m + 1 elements, put in front
  rotated : (m : ℕ) (zs : List X) (d : X) → m < length zs → drop m (take (m + 1) zs) ++ take m (take (m + 1) zs) ≡ get_or zs m d ∷ take m zs
  rotated m zs d h =
      let long = length-take-le m zs (omega arith) in
      ap (λ l. drop m l ++ take m l) (take_more zs m d h) ∙
      (λ i. drop_at (take m zs) (get_or zs m d ∷ []) m long i ++ take_at (take m zs) (get_or zs m d ∷ []) m long i)

  -- what a rotation to the right by one and a write leave
  inserted_table : (tb : List X) (i c : ℕ) (s : X) (ys : List X) → i ≤ c → c < length tb → ys ≡ drop (length (mid_of i (c + 1 - i) tb) - 1) (mid_of i (c + 1 - i) tb) ++ take (length (mid_of i (c + 1 - i) tb) - 1) (mid_of i (c + 1 - i) tb) → take (c + 1) (set (put_mid i (c + 1 - i) tb ys) i s) ≡ insert (take c tb) i s
  inserted_table tb i c s ys le lt e =
      let m : ℕ = c - i in
      let zs : List X = drop i tb in
      let post : List X = post_of i (c + 1 - i) tb in
      let k : c + 1 - i ≡ m + 1 = omega arith in
      let zlong : length zs ≡ length tb - i = length-drop i tb in
      let mlong : length (take (m + 1) zs) ≡ m + 1 = length-take-le (m + 1) zs (omega (arith, zlong)) in
      let front : length (take i tb) ≡ i = length-take-le i tb (omega arith) in
      let part : ys ≡ get_or zs m s ∷ take m zs =
      e ∙ ap (λ w. drop (length (take w zs) - 1) (take w zs) ++ take (length (take w zs) - 1) (take w zs)) k ∙
      (let one : length (take (m + 1) zs) - 1 ≡ m = omega arith in ap (λ w. drop w (take (m + 1) zs) ++ take w (take (m + 1) zs)) one) ∙
      rotated m zs s (omega (arith, zlong)) in
      let whole : length (take i tb ++ (s ∷ take m zs)) ≡ c + 1 = length-append (take i tb) (s ∷ take m zs) ∙ omega (arith, front, length-take-le m zs (omega (arith, zlong))) in
      ap (λ w. take (c + 1) (set (take i tb ++ (w ++ post)) i s)) part ∙
      ap (take (c + 1)) (set_at (take i tb) (get_or zs m s) (take m zs ++ post) s i front ∙ sym (append_assoc (take i tb) (s ∷ take m zs) post)) ∙
      take_at (take i tb ++ (s ∷ take m zs)) post (c + 1) whole ∙
      (let cc : i + m ≡ c = omega arith in
      λ j. sym (take-take i c tb le) j ++ s ∷ sym (ap (λ w. drop i (take w tb)) (sym cc) ∙ drop-take i m tb) j)

  -- what a rotation to the left by one leaves of the first c - 1
  removed_table : (tb : List X) (i c : ℕ) (ys : List X) → i < c → c ≤ length tb → ys ≡ drop 1 (mid_of i (c - i) tb) ++ take 1 (mid_of i (c - i) tb) → take (c - 1) (put_mid i (c - i) tb ys) ≡ remove (take c tb) i
  removed_table tb i c ys lt le e =
      let m : ℕ = c - i in
      let post : List X = post_of i m tb in
      let mid : List X = take m (drop i tb) in
      let cc : i + m ≡ c = omega arith in
      let is : mid ≡ drop i (take c tb) = sym (ap (λ w. drop i (take w tb)) (sym cc) ∙ drop-take i m tb) in
      let front : length (take i tb) ≡ i = length-take-le i tb (omega arith) in
      let mlong : length mid ≡ m = length-take-le m (drop i tb) (omega (arith, length-drop i tb)) in
      let whole : length (take i tb ++ drop 1 mid) ≡ c - 1 = length-append (take i tb) (drop 1 mid) ∙ omega (arith, front, length-drop 1 mid) in
      ap (λ w. take (c - 1) (take i tb ++ (w ++ post))) e ∙
      ap (take (c - 1)) (ap (λ w. take i tb ++ w) (append_assoc (drop 1 mid) (take 1 mid) post) ∙ sym (append_assoc (take i tb) (drop 1 mid) (take 1 mid ++ post))) ∙
      take_at (take i tb ++ drop 1 mid) (take 1 mid ++ post) (c - 1) whole ∙
      (λ j. sym (take-take i c tb (omega arith)) j ++ (ap (drop 1) is ∙ drop-drop 1 i (take c tb) ∙ ap (λ w. drop w (take c tb)) (add-one i)) j)

map_inserted : {X Y : Type 0} (f : X → Y) (xs : List X) (i : ℕ) (x : X) → map f (insert xs i x) ≡ insert (map f xs) i (f x)
map_inserted f xs i x = map-append f (take i xs) (x ∷ drop i xs) ∙ (λ j. sym (take-map f i xs) j ++ f x ∷ sym (drop-map f i xs) j)

map_removed : {X Y : Type 0} (f : X → Y) (xs : List X) (i : ℕ) → map f (remove xs i) ≡ remove (map f xs) i
map_removed f xs i = map-append f (take i xs) (drop (suc i) xs) ∙ (λ j. sym (take-map f i xs) j ++ sym (drop-map f (suc i) xs) j)

-- the first c of a table, as pairs
abbrev pub pairs : ℕ → List Span → List Pair
pairs c tb = pairs_of (take c tb)

-- a place in them is one in the table
pub pairs_inside : (tb : List Span) (c i : ℕ) → i < length (pairs c tb) → (i < c) × (i < length tb)
pairs_inside tb c i h = let l : length (pairs c tb) ≡ length (take c tb) = length-map (take c tb) pair_of in (omega (arith, length-take c tb), omega (arith, length-take c tb))

pub pairs_at : (tb : List Span) (c i : ℕ) → i < length (pairs c tb) → pair_at (pairs c tb) i ≡ pair_of (get_or tb i nothing)
pairs_at tb c i h =
    let l : length (pairs c tb) ≡ length (take c tb) = length-map (take c tb) pair_of in
    get_or-map pair_of (take c tb) i nothing (0, 0) (omega arith) ∙ ap pair_of (get_or-take c tb i nothing (pairs_inside tb c i h).0)

pub pairs_short : (tb : List Span) (c : ℕ) → length (pairs c tb) ≤ c
pairs_short tb c = omega (arith, length-map (take c tb) pair_of, length-take c tb)

-- the span at i, changed
pub pairs_set : (tb : List Span) (c i : ℕ) (s : Span) (f : Pair → Pair) → i < length (pairs c tb) → pair_of s ≡ f (pair_of (get_or tb i nothing)) → pairs c (set tb i s) ≡ set (pairs c tb) i (f (pair_at (pairs c tb) i))
pairs_set tb c i s f h e =
    ap pairs_of (take-set-lt c tb i s (pairs_inside tb c i h).0) ∙ map-set pair_of (take c tb) i s ∙ ap (set (pairs c tb) i) (e ∙ ap f (sym (pairs_at tb c i h)))

pub pairs_inserted : (tb : List Span) (i c : ℕ) (s : Span) (ys : List Span) → i ≤ c → c < length tb → ys ≡ drop (length (mid_of i (c + 1 - i) tb) - 1) (mid_of i (c + 1 - i) tb) ++ take (length (mid_of i (c + 1 - i) tb) - 1) (mid_of i (c + 1 - i) tb) → pairs (c + 1) (set (put_mid i (c + 1 - i) tb ys) i s) ≡ insert (pairs c tb) i (pair_of s)
pairs_inserted tb i c s ys le lt e = ap pairs_of (inserted_table tb i c s ys le lt e) ∙ map_inserted pair_of (take c tb) i s

pub pairs_removed : (tb : List Span) (i c : ℕ) (ys : List Span) → i < c → c ≤ length tb → ys ≡ drop 1 (mid_of i (c - i) tb) ++ take 1 (mid_of i (c - i) tb) → pairs (c - 1) (put_mid i (c - i) tb ys) ≡ remove (pairs c tb) i
pairs_removed tb i c ys lt le e = ap pairs_of (removed_table tb i c ys lt le e) ∙ map_removed pair_of (take c tb) i

-- a search through the spans
pub covered_any : (spans : List Span) (n : ℕ) → list_any (λ s. within (pair_of s) n) spans ≡ covered (pairs_of spans) n
covered_any [] n = refl
covered_any (s ∷ spans) n = ap (λ b. within (pair_of s) n || b) (covered_any spans n)

-- sorted by first number
first_low : (least : ℕ) (spans : List Span) (k : ℕ) → apart least (pairs_of spans) ≡ true → k < length spans → least ≤ (get_or spans k nothing).first
first_low least [] k h lt = absurd (omega arith)
first_low least (s ∷ spans) zero h lt = (apart_parts least (pair_of s) (pairs_of spans) h).low
first_low least (s ∷ spans) (suc k) h lt =
    let a = apart_parts least (pair_of s) (pairs_of spans) h in
    omega (arith, first_low (s.first + s.len + 1) spans k a.rest (omega arith), a.low)

rises : (least : ℕ) (spans : List Span) (i j : ℕ) → apart least (pairs_of spans) ≡ true → i ≤ j → j < length spans → (get_or spans i nothing).first ≤ (get_or spans j nothing).first
rises least [] i j h le lt = absurd (omega arith)
rises least (s ∷ spans) zero zero h le lt = omega arith
rises least (s ∷ spans) (suc i) zero h le lt = absurd (omega arith)
rises least (s ∷ spans) zero (suc j) h le lt =
    let a = apart_parts least (pair_of s) (pairs_of spans) h in
    omega (arith, first_low (s.first + s.len + 1) spans j a.rest (omega arith))
rises least (s ∷ spans) (suc i) (suc j) h le lt = rises (s.first + s.len + 1) spans i j (apart_parts least (pair_of s) (pairs_of spans) h).rest (omega arith) (omega arith)

pub sorted : (spans : List Span) → apart 0 (pairs_of spans) ≡ true → IsNonDecreasingBy (λ s. s.first) spans
sorted spans h = IsNonDecreasingBy-from_default (λ s. s.first) spans nothing (λ i j le lt. rises 0 spans i j h le lt)

-- what a test of a span's first number tells of its pair
pub pairs_earlier : (spans : List Span) (n k : ℕ) → k < length spans → ((d : Span) → ltb (get_or spans k d).first n ≡ true) → (pair_at (pairs_of spans) k).0 < n
pairs_earlier spans n k lt h = omega (arith, ap (λ p. p.0) (get_or-map pair_of spans k nothing (0, 0) lt), ltb-true _ _ (h nothing))

pub pairs_later : (spans : List Span) (n k : ℕ) → k < length spans → ((d : Span) → ltb (get_or spans k d).first n ≡ false) → n ≤ (pair_at (pairs_of spans) k).0
pairs_later spans n k lt h = omega (arith, ap (λ p. p.0) (get_or-map pair_of spans k nothing (0, 0) lt), ltb-false _ _ (h nothing))
