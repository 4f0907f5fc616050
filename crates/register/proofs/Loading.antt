-- Pairs that are apart, marked number by number: none is refused.
-- Assumes nothing.
use Rattle.std.proofs.Common.{◌≡◌, ℕ, zero, suc, ◌+◌, ◌<◌, ◌≤◌, Bool, true, false, ◌||◌, eqb, List, [], ◌∷◌, ◌++◌, length, Ok, sym, refl, ap, ◌∙◌, subst, arith}
use mathlib.Core.Path.{fun_ext}
use Rattle.std.proofs.lemmas.List.{append-nil, append_assoc, length-append}
use Rattle.std.proofs.lemmas.Bool.{or_from}
use Rattle.std.proofs.lemmas.Bool.Decides.{nat_tests}
use Rattle.std.specs.List.{flat_map, range_with_len}
use Rattle.register.specs.Marked.{numbers_of}
use Rattle.register.specs.Page.{with_pairs}
use Rattle.register.specs.Runs.{Meaning, Pair, run_count, with_number, within, covered, apart}
use Rattle.register.proofs.Changes.{past, apart_split, apart_join, covered_append, within_more}
use Rattle.register.specs.Cover.{Apart, apart_parts, apart_from, within_above, runs_covered}
use Rattle.register.proofs.Marking.{Marks, MarksAll, granted, marks_none, marks_one, marks_on}

covered_past : (least : ℕ) (xs : List Pair) (n : ℕ) → apart least xs ≡ true → past least xs ≤ n → covered xs n ≡ false
covered_past least [] n h le = refl
covered_past least (p ∷ xs) n h le =
    let a = apart_parts least p xs h in
    or_from _ _ (within_above p n (omega (arith, grows (p.0 + p.1 + 1) xs a.rest))) (covered_past (p.0 + p.1 + 1) xs n a.rest le)
  where
    grows : (m : ℕ) (ys : List Pair) → apart m ys ≡ true → m ≤ past m ys
    grows m [] h = omega arith
    grows m (q ∷ ys) h = let b = apart_parts m q ys h in omega (arith, grows (q.0 + q.1 + 1) ys b.rest, b.low)

within_none : (a k : ℕ) → within (a, 0) k ≡ false
within_none a k = grind (arith, nat_tests)

or_false : (b : Bool) → (b || false) ≡ b
or_false true = refl
or_false false = refl

regroup : (a b c : Bool) → (a || ((b || c) || false)) ≡ (b || (a || (c || false)))
regroup true true c = refl
regroup true false c = refl
regroup false true c = refl
regroup false false c = refl

-- the pairs xs are marked, and the pair p after them is to be
module _ (xs : List Pair) (p : Pair) (gaps : apart 0 (xs ++ (p ∷ [])) ≡ true) where
  -- xs, and the first j numbers of p
  abbrev begun : ℕ → List Pair
  begun j = xs ++ ((p.0, j) ∷ [])

  before : apart 0 xs ≡ true
  before = (apart_split 0 xs (p ∷ []) gaps).0

  here : Apart (past 0 xs) p []
  here = apart_parts (past 0 xs) p [] (apart_split 0 xs (p ∷ []) gaps).1

  pub begun_none : covered (begun 0) ≡ covered xs
  begun_none = fun_ext (λ k. covered_append xs ((p.0, 0) ∷ []) k ∙ ap (λ b. covered xs k || (b || false)) (within_none p.0 k) ∙ or_false (covered xs k))

  begun_apart : (j : ℕ) → j < p.1 → apart 0 (begun (j + 1)) ≡ true
  begun_apart j h =
      let q = here in
      apart_join 0 xs ((p.0, j + 1) ∷ []) before (apart_from (past 0 xs) (p.0, j + 1) [] (record { low = q.low; some = omega arith; high = omega (arith, q.high); rest = refl }))

  begun_more : (j n : ℕ) → p.0 + j ≡ n → covered (begun (j + 1)) ≡ with_number (covered (begun j)) n
  begun_more j n e = fun_ext (λ k.
      covered_append xs ((p.0, j + 1) ∷ []) k ∙
      ap (λ b. covered xs k || (b || false)) (within_more (p.0, j) n k e) ∙
      regroup (covered xs k) (eqb k n) (within (p.0, j) k) ∙
      ap (λ b. eqb k n || b) (sym (covered_append xs ((p.0, j) ∷ []) k)))

  begun_out : (j n : ℕ) → p.0 + j ≡ n → covered (begun j) n ≡ false
  begun_out j n e =
      let q = here in
      covered_append xs ((p.0, j) ∷ []) n ∙
      or_from _ _ (covered_past 0 xs n before (omega (arith, q.low))) (or_from _ _ (within_above (p.0, j) n (omega arith)) refl)

  -- one number more is granted
  pub begun_mark : (m : Meaning) (j n : ℕ) → m.used ≡ covered (begun j) → length xs < m.limit → p.0 + j ≡ n → j < p.1 → Marks m n (Ok tt) (with_pairs m (begun (j + 1)))
  begun_mark m j n is room e h =
      let used : with_number m.used n ≡ covered (begun (j + 1)) = ap (λ u. with_number u n) is ∙ sym (begun_more j n e) in
      let count : run_count (with_number m.used n) ≡ length xs + 1 = ap run_count used ∙ ap length (runs_covered (begun (j + 1)) (begun_apart j h)) ∙ length-append xs ((p.0, j + 1) ∷ []) in
      let g = granted m n (omega (arith, here.high)) (ap (λ u. u n) is ∙ begun_out j n e) (omega (arith, count)) in
      record { answer = g.answer; after = ap (λ u. record { used = u; limit = m.limit }) (sym used) ∙ g.after }

  rest_granted : (k j n : ℕ) (m : Meaning) → m.used ≡ covered (begun j) → length xs < m.limit → p.0 + j ≡ n → j + k ≡ p.1 → MarksAll m (range_with_len n k) (Ok tt) (with_pairs m (begun p.1))
  rest_granted zero j n m is room e f =
      let z : p.1 ≡ j = omega arith in
      subst (λ x. MarksAll m [] (Ok tt) x) (sym (ap (λ u. record { used = u; limit = m.limit }) (ap (λ i. covered (begun i)) z ∙ sym is))) (marks_none m)
  rest_granted (suc k) j n m is room e f =
      let m' : Meaning = with_pairs m (begun (j + 1)) in
      marks_on m m' (n ∷ []) (range_with_len (n + 1) k) (Ok tt) _ (marks_one m m' n (Ok tt) (begun_mark m j n is room e (omega arith))) (rest_granted k (j + 1) (n + 1) m' refl room (omega arith) (omega arith))

  pair_granted : (m : Meaning) → m.used ≡ covered xs → length xs < m.limit → MarksAll m (numbers_of p) (Ok tt) (with_pairs m (xs ++ (p ∷ [])))
  pair_granted m is room = rest_granted p.1 0 p.0 m (is ∙ sym begun_none) room (omega arith) (omega arith)

pub pairs_granted : (ps xs : List Pair) (m : Meaning) → m.used ≡ covered xs → apart 0 (xs ++ ps) ≡ true → length (xs ++ ps) ≤ m.limit → MarksAll m (flat_map numbers_of ps) (Ok tt) (with_pairs m (xs ++ ps))
pairs_granted [] xs m is gaps room =
    subst (λ x. MarksAll m [] (Ok tt) x) (sym (ap (λ u. record { used = u; limit = m.limit }) (ap covered (append-nil xs) ∙ sym is))) (marks_none m)
pairs_granted (p ∷ ps) xs m is gaps room =
    let ys : List Pair = xs ++ (p ∷ []) in
    let e : ys ++ ps ≡ xs ++ (p ∷ ps) = append_assoc xs (p ∷ []) ps in
    let all : apart 0 (ys ++ ps) ≡ true = ap (apart 0) e ∙ gaps in
    let long : length (xs ++ (p ∷ ps)) ≡ length xs + (length ps + 1) = length-append xs (p ∷ ps) ∙ omega arith in
    let m' : Meaning = with_pairs m ys in
    subst (λ l. MarksAll m (flat_map numbers_of (p ∷ ps)) (Ok tt) (with_pairs m l)) e
    (marks_on m m' (numbers_of p) (flat_map numbers_of ps) (Ok tt) _ (pair_granted xs p (apart_split 0 ys ps all).0 m is (omega arith)) (pairs_granted ps ys m' refl all (omega (arith, ap length e))))
