-- The four answers of a mark, with what the register means afterwards.
-- Assumes nothing.
use Rattle.std.proofs.Common.{◌≡◌, ℕ, ◌<◌, ◌≤◌, Bool, true, false, cond, eqb, ltb, is_ok, Ok, Err, Result, List, [], ◌∷◌, ◌++◌, refl, sym, ap, ◌∙◌, ⊎_elim, arith}
use Rattle.refusal.specs.declared.Refusal.{Refusal}
use Rattle.refusal.specs.declared.Refusal.TheVariants.{TooManyRuns}
use Rattle.std.proofs.lemmas.Bool.{cond-true, cond-false, le-ltb, lt-leb, le-leb, or_cases, eqb-true}
use Rattle.register.specs.Marked.{allowed, mark_answer, marked, mark_after, marks_answer, marks_after}
use Rattle.register.specs.Runs.{Numbers, Meaning, Small, run_count, with_number}

pub with_small : (u : Numbers) (n : ℕ) → n < 4096 → Small u → Small (with_number u n)
with_small u n h small k e = ⊎_elim (λ q. let z = eqb-true k n q in omega arith) (small k) (or_cases (eqb k n) (u k) e)

-- an answer, with the meaning after it
pub record Marks (m : Meaning) (n : ℕ) (r : Result (Unit {0}) Refusal) (m' : Meaning) : Type 0 where
  pub answer : r ≡ mark_answer m n
  pub after : m' ≡ mark_after m n

module _ (m : Meaning) (n : ℕ) where
  answered : (r : Result (Unit {0}) Refusal) → mark_answer m n ≡ r → Marks m n r (cond (is_ok r) (marked m n) m)
  answered r e = record { answer = sym e; after = ap (λ x. cond (is_ok x) (marked m n) m) (sym e) }

  pub too_many : n < 4096 → m.used n ≡ false → m.limit < run_count (with_number m.used n) → Marks m n (Err TooManyRuns) m
  too_many h e c =
      answered (Err TooManyRuns) (cond-false (ltb 4095 n) _ _ (le-ltb 4095 n (omega arith)) ∙ cond-false (m.used n) _ _ e ∙ cond-false (allowed m n) _ _ (lt-leb _ _ c))

  pub granted : n < 4096 → m.used n ≡ false → run_count (with_number m.used n) ≤ m.limit → Marks m n (Ok tt) (marked m n)
  granted h e c =
      answered (Ok tt) (cond-false (ltb 4095 n) _ _ (le-ltb 4095 n (omega arith)) ∙ cond-false (m.used n) _ _ e ∙ cond-true (allowed m n) _ _ (le-leb _ _ c))

-- an answer of marking numbers one after another, with the meaning after it
pub record MarksAll (m : Meaning) (ns : List ℕ) (r : Result (Unit {0}) Refusal) (m' : Meaning) : Type 0 where
  pub answer : r ≡ marks_answer m ns
  pub after : m' ≡ marks_after m ns

pub marks_none : (m : Meaning) → MarksAll m [] (Ok tt) m
unfolding marks_answer marks_after
marks_none m = record { answer = refl; after = refl }

pub marks_one : (m m' : Meaning) (n : ℕ) (r : Result (Unit {0}) Refusal) → Marks m n r m' → MarksAll m (n ∷ []) r m'
unfolding marks_answer marks_after
marks_one m m' n r g = record { answer = g.answer ∙ sym (same (mark_answer m n)); after = g.after ∙ sym (kept (is_ok (mark_answer m n))) }
  where
    same : (a : Result (Unit {0}) Refusal) → cond (is_ok a) (Ok tt) a ≡ a
    same (Ok x) = refl
    same (Err e) = refl

    kept : (b : Bool) → cond b (cond b (marked m n) m) m ≡ cond b (marked m n) m
    kept true = refl
    kept false = refl

-- going on where neither refuses: asked of the one and then of the other, or of what the two answer together
stops : {X : Type 0} (F : Meaning → X) (b : Bool) (a p : Result (Unit {0}) Refusal) (m m' : Meaning) (x y : X) → is_ok a ≡ b → cond b (cond (is_ok p) (F m') x) y ≡ cond (is_ok (cond b p a)) (F (cond b m' m)) (cond b x y)
stops F true a p m m' x y e = refl
stops F false a p m m' x y e = sym (cond-false (is_ok a) _ _ e)

-- numbers and then others: the others are marked where none of the first is refused
answer_append : (m : Meaning) (xs ys : List ℕ) → marks_answer m (xs ++ ys) ≡ cond (is_ok (marks_answer m xs)) (marks_answer (marks_after m xs) ys) (marks_answer m xs)
unfolding marks_answer marks_after
answer_append m [] ys = refl
answer_append m (n ∷ xs) ys =
    ap (λ r. cond (is_ok (mark_answer m n)) r (mark_answer m n)) (answer_append (mark_after m n) xs ys) ∙
    stops (λ x. marks_answer x ys) (is_ok (mark_answer m n)) (mark_answer m n) (marks_answer (mark_after m n) xs) m (marks_after (mark_after m n) xs) (marks_answer (mark_after m n) xs) (mark_answer m n) refl

after_append : (m : Meaning) (xs ys : List ℕ) → marks_after m (xs ++ ys) ≡ cond (is_ok (marks_answer m xs)) (marks_after (marks_after m xs) ys) (marks_after m xs)
unfolding marks_answer marks_after
after_append m [] ys = refl
after_append m (n ∷ xs) ys =
    ap (λ x. cond (is_ok (mark_answer m n)) x m) (after_append (mark_after m n) xs ys) ∙
    stops (λ x. marks_after x ys) (is_ok (mark_answer m n)) (mark_answer m n) (marks_answer (mark_after m n) xs) m (marks_after (mark_after m n) xs) (marks_after (mark_after m n) xs) m refl

module _ (m m' : Meaning) (xs ys : List ℕ) where
  -- none of the first is refused
  pub marks_on : (r : Result (Unit {0}) Refusal) (m'' : Meaning) → MarksAll m xs (Ok tt) m' → MarksAll m' ys r m'' → MarksAll m (xs ++ ys) r m''
  marks_on r m'' g h =
      let ok : is_ok (marks_answer m xs) ≡ true = ap is_ok (sym g.answer) in
      record {
        answer = h.answer ∙ ap (λ x. marks_answer x ys) g.after ∙ sym (answer_append m xs ys ∙ cond-true (is_ok (marks_answer m xs)) _ _ ok);
        after = h.after ∙ ap (λ x. marks_after x ys) g.after ∙ sym (after_append m xs ys ∙ cond-true (is_ok (marks_answer m xs)) _ _ ok);
      }

  -- one of the first is
  pub marks_stop : (e : Refusal) → MarksAll m xs (Err e) m' → MarksAll m (xs ++ ys) (Err e) m'
  marks_stop e g =
      let no : is_ok (marks_answer m xs) ≡ false = ap is_ok (sym g.answer) in
      record {
        answer = g.answer ∙ sym (answer_append m xs ys ∙ cond-false (is_ok (marks_answer m xs)) _ _ no);
        after = g.after ∙ sym (after_append m xs ys ∙ cond-false (is_ok (marks_answer m xs)) _ _ no);
      }
