-- The runs from n on are the runs without those that begin before n.
-- Assumes nothing.
use Rattle.std.proofs.Common.{◌≡◌, ℕ, zero, suc, ◌+◌, ◌<◌, ◌≤◌, true, false, cond, ltb, List, [], ◌∷◌, length, get_or, drop, Some, None, sym, refl, ap, ◌∙◌, subst, ⊎_elim, add-zero, arith}
use Rattle.std.proofs.lemmas.List.{drop_more, drop_all}
use Rattle.std.proofs.lemmas.Bool.{cases_Bool, cases_lt, cond-true, cond-false, lt-ltb, le-ltb}
use Rattle.register.specs.Runs.{Numbers, Pair, begins, runs_from, runs, covered, apart, first_pair, next_run}
use Rattle.register.specs.Cover.{runs_covered}
use Rattle.register.specs.Steps.{from_end, from_yes, from_no}

-- the pairs without those, from the first on, that begin before n
abbrev dropped : ℕ → List Pair → List Pair
dropped n [] = []
dropped n (p ∷ ps) = cond (ltb p.0 n) (dropped n ps) (p ∷ ps)

module _ (u : Numbers) where
  keeps : (fuel n m : ℕ) → 4096 ≤ n + fuel → m ≤ n → dropped m (runs_from u n) ≡ runs_from u n
  keeps zero n m h le = let e = from_end u n (omega arith) in ap (dropped m) e ∙ sym e
  keeps (suc fuel) n m h le =
      let no : begins u n ≡ false → dropped m (runs_from u n) ≡ runs_from u n = λ b. let e = from_no u n b in ap (dropped m) e ∙ keeps fuel (n + 1) m (omega arith) (omega arith) ∙ sym e in
      let yes : begins u n ≡ true → dropped m (runs_from u n) ≡ runs_from u n = λ b.
      ⊎_elim (λ lt. let e = from_yes u n lt b in ap (dropped m) e ∙ cond-false (ltb n m) _ _ (le-ltb n m le) ∙ sym e) (λ ge. let e = from_end u n ge in ap (dropped m) e ∙ sym e) (cases_lt n 4096) in
      ⊎_elim yes no (cases_Bool (begins u n))

  runs_later : (d m : ℕ) → runs_from u (m + d) ≡ dropped (m + d) (runs_from u m)
  runs_later zero m = let e = add-zero m in ap (runs_from u) e ∙ sym (ap (λ k. dropped k (runs_from u m)) e ∙ keeps 4096 m m (omega arith) (omega arith))
  runs_later (suc d) m =
      let f : m + 1 + d ≡ m + suc d = omega arith in
      let on : runs_from u (m + suc d) ≡ dropped (m + suc d) (runs_from u (m + 1)) = subst (λ k. runs_from u k ≡ dropped k (runs_from u (m + 1))) f (runs_later d (m + 1)) in
      let no : begins u m ≡ false → runs_from u (m + suc d) ≡ dropped (m + suc d) (runs_from u m) = λ b. on ∙ ap (dropped (m + suc d)) (sym (from_no u m b)) in
      let yes : begins u m ≡ true → runs_from u (m + suc d) ≡ dropped (m + suc d) (runs_from u m) = λ b.
      ⊎_elim (λ lt. on ∙ sym (ap (dropped (m + suc d)) (from_yes u m lt b) ∙ cond-true (ltb m (m + suc d)) _ _ (lt-ltb m (m + suc d) (omega arith)))) (λ ge. on ∙ ap (dropped (m + suc d)) (from_end u (m + 1) (omega arith) ∙ sym (from_end u m ge))) (cases_lt m 4096) in
      ⊎_elim yes no (cases_Bool (begins u m))

dropped_is : (ps : List Pair) (i n : ℕ) → i ≤ length ps → ((k : ℕ) → k < i → (get_or ps k (0, 0)).0 < n) → (i < length ps → n ≤ (get_or ps i (0, 0)).0) → dropped n ps ≡ drop i ps
dropped_is [] zero n le earlier later = refl
dropped_is [] (suc i) n le earlier later = absurd (omega arith)
dropped_is (p ∷ ps) zero n le earlier later = cond-false (ltb p.0 n) _ _ (le-ltb p.0 n (later (omega arith)))
dropped_is (p ∷ ps) (suc i) n le earlier later =
    cond-true (ltb p.0 n) _ _ (lt-ltb p.0 n (earlier 0 (omega arith))) ∙
    dropped_is ps i n (omega arith) (λ k h. earlier (suc k) (omega arith)) (λ h. later (omega arith))

module _ (ps : List Pair) (n i : ℕ) (gaps : apart 0 ps ≡ true) (le : i ≤ length ps) (earlier : (k : ℕ) → k < i → (get_or ps k (0, 0)).0 < n) (later : i < length ps → n ≤ (get_or ps i (0, 0)).0) where
  from_place : runs_from (covered ps) n ≡ drop i ps
  from_place =
      let f : 0 + n ≡ n = omega arith in
      subst (λ k. runs_from (covered ps) k ≡ dropped k (runs (covered ps))) f (runs_later (covered ps) n 0) ∙
      ap (dropped n) (runs_covered ps gaps) ∙ dropped_is ps i n le earlier later

  -- the pair at i is the next run from n on
  pub next_some : i < length ps → Some (get_or ps i (0, 0)) ≡ next_run (covered ps) n
  next_some lt = sym (ap first_pair (from_place ∙ drop_more ps i (0, 0) lt))

  pub next_none : length ps ≤ i → None ≡ next_run (covered ps) n
  next_none ge = sym (ap first_pair (from_place ∙ drop_all i ps ge))
