-- Going from run to run.
-- Assumes nothing.
use Rattle.std.proofs.Common.{◌≡◌, ℕ, zero, suc, ◌+◌, ◌-◌, ◌<◌, ◌≤◌, true, false, eqb, List, [], ◌∷◌, length, is_some, Some, None, Option, unwrap_or, sym, refl, ap, ◌∙◌, subst, inl, inr, ⊎_elim, arith}
use Rattle.std.proofs.lemmas.Bool.{cases_Bool, cases_lt, cases_eq, and_parts, or_cases, eqb-true, not-true}
use Rattle.register.specs.Runs.{Numbers, Pair, Small, IsRun, FirstRun, begins, stretch, runs_from, run_count, first_pair, next_run}
use Rattle.register.specs.Cover.{begins_inside, begins_yes, unused_past}
use Rattle.register.specs.Steps.{from_end, from_yes, from_no, skip_to, stretch_le, stretch_all, stretch_yes, stretch_stop}

-- p is the next run from n on, and the runs go on behind it
pub record Step (u : Numbers) (n : ℕ) (p : Pair) : Type 0 where
  pub low : n ≤ p.0
  pub some : 0 < p.1
  pub high : p.0 + p.1 ≤ 4096
  pub from : runs_from u n ≡ p ∷ runs_from u (p.0 + p.1)

module _ (u : Numbers) where
  step_at : (n : ℕ) → n < 4096 → begins u n ≡ true → Step u n (n, stretch u (4096 - n) n)
  step_at n h b =
      let l : ℕ = stretch u (4096 - n) n in
      let e = (and_parts (u n) _ b).0 in
      let f : suc (4096 - (n + 1)) ≡ 4096 - n = omega arith in
      let one : l ≡ suc (stretch u (4096 - (n + 1)) (n + 1)) = ap (λ k. stretch u k n) (sym f) ∙ stretch_yes u (4096 - (n + 1)) n e in
      let le : l ≤ 4096 - n = stretch_le u (4096 - n) n in
      let inside : (k : ℕ) → n ≤ k → k < n + l → u k ≡ true = λ k x y. let g : n + (k - n) ≡ k = omega arith in ap u (sym g) ∙ stretch_all u (4096 - n) n (k - n) (omega arith) in
      record {
        low = omega arith;
        some = omega (arith, one);
        high = omega arith;
        from = from_yes u n h b ∙ ap (λ ps. (n, l) ∷ ps) (skip_to u (n + 1) (n + l) (omega (arith, one)) (λ k x y. begins_inside u k (omega arith) (inside (k - 1) (omega arith) (omega arith))));
      }

  no_more : (n : ℕ) (p : Pair) → 4096 ≤ n → Some p ≡ next_run u n → ⊥
  no_more n p h e = mathlib.Core.Bool.true≢false (ap is_some (e ∙ ap first_pair (from_end u n h)))

  step_by : (fuel n : ℕ) (p : Pair) → 4096 ≤ n + fuel → Some p ≡ next_run u n → Step u n p
  step_by zero n p h e = absurd (no_more n p (omega arith) e)
  step_by (suc fuel) n p h e =
      let no : begins u n ≡ false → Step u n p = λ b.
      let f = from_no u n b in
      let r = step_by fuel (n + 1) p (omega arith) (e ∙ ap first_pair f) in
      record { low = omega (arith, r.low); some = r.some; high = r.high; from = f ∙ r.from } in
      let yes : begins u n ≡ true → Step u n p = λ b.
      ⊎_elim
      (λ lt. let is : (n, stretch u (4096 - n) n) ≡ p = sym (ap (λ o. unwrap_or o p) (e ∙ ap first_pair (from_yes u n lt b))) in subst (Step u n) is (step_at n lt b))
      (λ ge. absurd (no_more n p ge e))
      (cases_lt n 4096) in
      ⊎_elim yes no (cases_Bool (begins u n))

  pub next_step : (n : ℕ) (p : Pair) → Some p ≡ next_run u n → Step u n p
  next_step n p e = step_by 4096 n p (omega arith) e

-- whether there is a next run from 0 on tells whether there is one at all
runs_none : (ps : List Pair) → false ≡ is_some (first_pair ps) → length ps ≡ 0
runs_none [] h = refl
runs_none (p ∷ ps) h = absurd (mathlib.Core.Bool.false≢true h)

pub has_none : (u : Numbers) → false ≡ is_some (next_run u 0) → run_count u ≡ 0
has_none u = runs_none (runs_from u 0)

module _ (u : Numbers) (small : Small u) where
  -- a run begins where `begins` says
  run_begins : (q : Pair) → IsRun u q → begins u q.0 ≡ true
  run_begins q r =
      begins_yes u q.0 (r.inside q.0 (omega arith) (omega (arith, r.some)))
      (⊎_elim (λ h. inr (r.before h)) (λ h. inl (omega arith)) (cases_lt 0 q.0))

  run_low : (q : Pair) → IsRun u q → q.0 < 4096
  run_low q r = small q.0 (r.inside q.0 (omega arith) (omega (arith, r.some)))

  run_here : (n : ℕ) → n < 4096 → begins u n ≡ true → IsRun u (n, stretch u (4096 - n) n)
  run_here n h b =
      let l : ℕ = stretch u (4096 - n) n in
      let a = and_parts (u n) _ b in
      let s = step_at u n h b in
      let edge : 0 < n → u (n - 1) ≡ false = λ some. ⊎_elim (λ z. absurd (omega (arith, eqb-true n 0 z))) (λ z. not-true (u (n - 1)) z) (or_cases (eqb n 0) _ a.1) in
      record {
        some = s.some;
        inside = λ k x y. let g : n + (k - n) ≡ k = omega arith in ap u (sym g) ∙ stretch_all u (4096 - n) n (k - n) (omega arith);
        before = edge;
        after = ⊎_elim (λ lt. stretch_stop u (4096 - n) n lt) (λ ge. unused_past u small (n + l) (omega (arith, s.high))) (cases_lt l (4096 - n));
      }

  first_by : (fuel n : ℕ) → 4096 ≤ n + fuel → FirstRun u n (next_run u n)
  first_by zero n h = subst (FirstRun u n) (sym (ap first_pair (from_end u n (omega arith)))) (λ q r le. omega (arith, run_low q r))
  first_by (suc fuel) n h =
      let no : begins u n ≡ false → FirstRun u n (next_run u n) = λ b.
      subst (FirstRun u n) (sym (ap first_pair (from_no u n b))) (later (next_run u (n + 1)) n b (first_by fuel (n + 1) (omega arith))) in
      let yes : begins u n ≡ true → FirstRun u n (next_run u n) = λ b.
      ⊎_elim
      (λ lt. subst (FirstRun u n) (sym (ap first_pair (from_yes u n lt b))) (omega arith, run_here n lt b, λ q r le. le))
      (λ ge. subst (FirstRun u n) (sym (ap first_pair (from_end u n ge))) (λ q r le. omega (arith, run_low q r)))
      (cases_lt n 4096) in
      ⊎_elim yes no (cases_Bool (begins u n))
    where
      moved : (n : ℕ) → begins u n ≡ false → (q : Pair) → IsRun u q → n ≤ q.0 → n + 1 ≤ q.0
      moved n b q r le = ⊎_elim (λ e. absurd (mathlib.Core.Bool.true≢false (sym (run_begins q r) ∙ ap (begins u) (sym e) ∙ b))) (λ ne. omega arith) (cases_eq n q.0)

      later : (o : Option Pair) (n : ℕ) → begins u n ≡ false → FirstRun u (n + 1) o → FirstRun u n o
      later None n b f = λ q r le. f q r (moved n b q r le)
      later (Some p) n b f = (omega (arith, f.0), f.1, λ q r le. f.2 q r (moved n b q r le))

  pub first_run : (n : ℕ) (o : Option Pair) → o ≡ next_run u n → FirstRun u n o
  first_run n o e = subst (FirstRun u n) (sym e) (first_by 4096 n (omega arith))
