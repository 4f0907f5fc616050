-- Bytes and pairs: a page's pairs are the runs that were written, and its bytes come back from its pairs.
-- Assumes nothing.
use Rattle.std.proofs.Common.{◌≡◌, ℕ, zero, suc, ◌+◌, ◌-◌, ◌*◌, ◌/◌, ◌%◌, ◌<◌, ◌≤◌, true, false, cond, eqb, ltb, leb, List, [], ◌∷◌, ◌++◌, length, get_or, drop, map, is_some, is_ok, Some, None, Ok, Err, Option, Result, sym, refl, ap, ◌∙◌, subst, ⊎_elim, arith, length-drop}
use mathlib.Core.Path.{fun_ext}
use Rattle.refusal.specs.declared.Refusal.{Refusal}
use Rattle.std.proofs.lemmas.Nat.{mod-mul-add, div-mul-add}
use Rattle.std.proofs.lemmas.Bool.{cases_Bool, and_parts, and_from, le-leb, leb-true, eq-eqb, eqb-true, cond-true, cond-false, le-ltb}
use Rattle.std.specs.List.{flat_map}
use Rattle.std.specs.Simd.{first_chunks}
use Rattle.register.specs.Page.{word, pair_bytes, page, number_of, pair_in, pairs_in, page_count, page_pairs, whole_page, pair_fault, page_fault, Faultless, refused_at, fault_answer, load_answer, loaded, load_after, PagesTellSets, WrittenPagesLoad, BlankIsEmpty}
use Rattle.register.specs.Runs.{Meaning, Numbers, Pair, Small, runs, run_count, covered, fits, apart}
use Rattle.register.specs.Cover.{apart_parts, runs_covered, runs_apart, covered_runs, at_most_2048_runs}
use Rattle.register.proofs.Writing.{length_page}

number_back : (n : ℕ) → n < 65536 → number_of (n % 256) (n / 256 % 256) ≡ n
number_back n h = omega arith

word_back : (a b : ℕ) → a < 256 → b < 256 → word (number_of a b) ≡ a ∷ b ∷ []
word_back a b ha hb =
    let swap : number_of a b ≡ b * 256 + a = omega arith in
    let low : number_of a b % 256 ≡ a = ap (λ n. n % 256) swap ∙ mod-mul-add b 256 a ha in
    let high : number_of a b / 256 % 256 ≡ b = ap (λ n. n / 256 % 256) swap ∙ ap (λ n. n % 256) (div-mul-add b 256 a ha) ∙ omega arith in
    λ i. low i ∷ high i ∷ []

pairs_back : (least : ℕ) (ps : List Pair) → apart least ps ≡ true → pairs_in (flat_map pair_bytes ps) ≡ ps
pairs_back least [] h = refl
pairs_back least (p ∷ ps) h =
    let a = apart_parts least p ps h in
    let first : number_of (p.0 % 256) (p.0 / 256 % 256) ≡ p.0 = number_back p.0 (omega (arith, a.high)) in
    let len : number_of (p.1 % 256) (p.1 / 256 % 256) ≡ p.1 = number_back p.1 (omega (arith, a.high)) in
    λ i. (first i, len i) ∷ pairs_back (p.0 + p.1 + 1) ps a.rest i

bytes_back : (bs : List ℕ) (c : ℕ) → length bs ≡ 4 * c → ((k : ℕ) → get_or bs k 0 < 256) → flat_map pair_bytes (pairs_in bs) ≡ bs
bytes_back [] c e h = refl
bytes_back (x ∷ []) c e h = absurd (omega arith)
bytes_back (x ∷ y ∷ []) c e h = absurd (omega arith)
bytes_back (x ∷ y ∷ z ∷ []) c e h = absurd (omega arith)
bytes_back (x ∷ y ∷ z ∷ w ∷ bs) c e h =
    λ i. word_back x y (h 0) (h 1) i ++ (word_back z w (h 2) (h 3) i ++ bytes_back bs (c - 1) (omega arith) (λ k. h (suc (suc (suc (suc k))))) i)

pub pairs_count : (bs : List ℕ) (c : ℕ) → length bs ≡ 4 * c → length (pairs_in bs) ≡ c
pairs_count [] c e = omega arith
pairs_count (x ∷ []) c e = absurd (omega arith)
pairs_count (x ∷ y ∷ []) c e = absurd (omega arith)
pairs_count (x ∷ y ∷ z ∷ []) c e = absurd (omega arith)
pairs_count (x ∷ y ∷ z ∷ w ∷ bs) c e = omega (arith, pairs_count bs (c - 1) (omega arith))

-- the pairs of the pieces of four bytes
pieces_pairs : (k : ℕ) (bs : List ℕ) → length bs ≡ k * 4 → map pair_in (first_chunks 4 k bs) ≡ pairs_in bs
pieces_pairs zero [] e = refl
pieces_pairs zero (x ∷ bs) e = absurd (omega arith)
pieces_pairs (suc k) [] e = absurd (omega arith)
pieces_pairs (suc k) (x ∷ []) e = absurd (omega arith)
pieces_pairs (suc k) (x ∷ y ∷ []) e = absurd (omega arith)
pieces_pairs (suc k) (x ∷ y ∷ z ∷ []) e = absurd (omega arith)
pieces_pairs (suc k) (x ∷ y ∷ z ∷ w ∷ bs) e = ap (λ ps. pair_in (x ∷ y ∷ z ∷ w ∷ []) ∷ ps) (pieces_pairs k bs (omega arith))

-- and so the pairs of the pieces of a page, past its count
pub page_pieces : (pieces : List (List ℕ)) (rest bs : List ℕ) → rest ≡ drop 2 bs → pieces ≡ first_chunks 4 (length rest / 4) rest → length rest % 4 ≡ 0 → map pair_in pieces ≡ page_pairs bs
page_pieces pieces rest bs e f h = ap (map pair_in) f ∙ pieces_pairs (length rest / 4) rest (omega arith) ∙ ap pairs_in e

-- the runs of a set come back from its page
page_runs : (u : Numbers) → Small u → page_pairs (page u) ≡ runs u
page_runs u small = pairs_back 0 (runs u) (runs_apart u small)

pub pages_tell_sets : PagesTellSets
pages_tell_sets u v su sv = (
  λ e. sym (covered_runs u su) ∙ ap covered (sym (page_runs u su) ∙ ap page_pairs e ∙ page_runs v sv) ∙ covered_runs v sv,
  ap page,
)

-- no fault is found exactly in pairs that are apart
pub no_fault : (least place : ℕ) (ps : List Pair) → apart least ps ≡ true → pair_fault least place ps ≡ None
no_fault least place [] h = refl
no_fault least place (p ∷ ps) h =
    let a = and_parts (fits least p) _ h in
    cond-true (fits least p) _ _ a.0 ∙ no_fault (p.0 + p.1 + 1) (place + 4) ps a.1

pub fault_apart : (least place : ℕ) (ps : List Pair) → pair_fault least place ps ≡ None → apart least ps ≡ true
fault_apart least place [] e = refl
fault_apart least place (p ∷ ps) e =
    ⊎_elim
    (λ f. and_from _ _ f (fault_apart (p.0 + p.1 + 1) (place + 4) ps (sym (cond-true (fits least p) _ _ f) ∙ e)))
    (λ f. absurd (mathlib.Core.Bool.true≢false (ap is_some (sym (cond-false (fits least p) _ _ f) ∙ e))))
    (cases_Bool (fits least p))

pub whole_parts : (bs : List ℕ) → whole_page bs ≡ true → (2 ≤ length bs) × (length bs ≡ 2 + 4 * page_count bs)
whole_parts bs h = let a = and_parts (leb 2 (length bs)) _ h in (leb-true _ _ a.0, eqb-true _ _ a.1)

pub faultless : (bs : List ℕ) → page_fault bs ≡ None → Faultless bs
faultless bs e =
    ⊎_elim
    (λ w.
    let l = (whole_parts bs w).1 in
    record {
      long = l;
      gaps = fault_apart 0 2 (page_pairs bs) (sym (cond-true (whole_page bs) _ _ w) ∙ e);
      count = pairs_count (drop 2 bs) (page_count bs) (omega (arith, length-drop 2 bs));
    })
    (λ w. absurd (mathlib.Core.Bool.true≢false (ap is_some (sym (cond-false (whole_page bs) _ _ w) ∙ e))))
    (cases_Bool (whole_page bs))

-- a page with as many bytes as its count gives has the first fault of its pairs
pub whole_fault : (bs : List ℕ) → 2 ≤ length bs → length bs ≡ 2 + 4 * page_count bs → page_fault bs ≡ pair_fault 0 2 (page_pairs bs)
whole_fault bs le e = cond-true (whole_page bs) _ _ (and_from _ _ (le-leb 2 (length bs) le) (eq-eqb (length bs) (2 + 4 * page_count bs) e))

-- nothing is refused where there is no fault
pub no_refusal : (o : Option ℕ) → Ok tt ≡ refused_at o → o ≡ None
no_refusal None e = refl
no_refusal (Some place) e = cc

-- a faultless page is the page of its numbers
pub page_back : (bs : List ℕ) → Faultless bs → ((k : ℕ) → get_or bs k 0 < 256) → page (covered (page_pairs bs)) ≡ bs
page_back bs f h = ap (λ ps. word (length ps) ++ flat_map pair_bytes ps) (runs_covered (page_pairs bs) f.gaps) ∙ whole bs f h
  where
    whole : (bs : List ℕ) → Faultless bs → ((k : ℕ) → get_or bs k 0 < 256) → word (length (page_pairs bs)) ++ flat_map pair_bytes (page_pairs bs) ≡ bs
    whole [] f h = absurd (omega (arith, f.long))
    whole (x ∷ []) f h = absurd (omega (arith, f.long))
    whole (x ∷ y ∷ bs) f h = λ i. (ap word f.count ∙ word_back x y (h 0) (h 1)) i ++ bytes_back bs (number_of x y) (omega (arith, f.long)) (λ k. h (suc (suc k))) i

-- a written page has no fault
written_count : (u : Numbers) → Small u → page_count (page u) ≡ run_count u
written_count u small = number_back (run_count u) (omega (arith, at_most_2048_runs u small))

written_fault : (u : Numbers) → Small u → page_fault (page u) ≡ None
written_fault u small =
    let long = length_page u in
    let count = written_count u small in
    whole_fault (page u) (omega arith) (omega arith) ∙
    ap (pair_fault 0 2) (page_runs u small) ∙ no_fault 0 2 (runs u) (runs_apart u small)

-- the four answers of a loading
module _ (m : Meaning) (bs : List ℕ) where
  load_after_is : (r : Result (Unit {0}) Refusal) → load_answer m bs ≡ r → load_after m bs ≡ cond (is_ok r) (loaded m bs) m
  load_after_is r e = ap (λ x. cond (is_ok x) (loaded m bs) m) e

  pub record Loads (r : Result (Unit {0}) Refusal) (m' : Meaning) : Type 0 where
    pub answer : r ≡ load_answer m bs
    pub after : m' ≡ load_after m bs

  answered : (r : Result (Unit {0}) Refusal) → load_answer m bs ≡ r → Loads r (cond (is_ok r) (loaded m bs) m)
  answered r e = record { answer = sym e; after = sym (load_after_is r e) }

  blank : (r : Result (Unit {0}) Refusal) → run_count m.used ≡ 0 → fault_answer m bs (page_fault bs) ≡ r → load_answer m bs ≡ r
  blank r e f = cond-true (eqb (run_count m.used) 0) _ _ (eq-eqb _ 0 e) ∙ f

  pub bad_page : (r : Result (Unit {0}) Refusal) (e : Refusal) → run_count m.used ≡ 0 → r ≡ Err e → Err e ≡ refused_at (page_fault bs) → Loads r m
  bad_page r e none q f = subst (λ x. Loads x m) (sym q) (answered (Err e) (blank (Err e) none (go (page_fault bs) f)))
    where
      go : (o : Option ℕ) → Err e ≡ refused_at o → fault_answer m bs o ≡ Err e
      go None f = cc
      go (Some place) f = sym f

  pub load_granted : run_count m.used ≡ 0 → page_fault bs ≡ None → page_count bs ≤ m.limit → Loads (Ok tt) (loaded m bs)
  load_granted e f le = answered (Ok tt) (blank (Ok tt) e (ap (fault_answer m bs) f ∙ cond-false (ltb m.limit (page_count bs)) _ _ (le-ltb _ _ le)))

pub written_pages_load : WrittenPagesLoad
written_pages_load u small m none le =
    let l = load_granted m (page u) none (written_fault u small) (omega (arith, written_count u small)) in
    (sym l.answer, ap (λ n. n.used) (sym l.after) ∙ ap covered (page_runs u small) ∙ covered_runs u small)

pub blank_is_empty : BlankIsEmpty
blank_is_empty u small = (
  λ e n. ap (λ v. v n) (sym (covered_runs u small)) ∙ empty (runs u) e n,
  λ none. ap run_count (fun_ext none) ∙ ap length (runs_covered [] refl),
)
  where
    empty : (ps : List Pair) → length ps ≡ 0 → (n : ℕ) → covered ps n ≡ false
    empty [] e n = refl
    empty (p ∷ ps) e n = absurd (omega arith)
