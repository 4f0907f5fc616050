-- One step of `stretch` and of `runs_from`, and what follows by going on.
-- Assumes nothing.
use Rattle.std.specs.Prelude.{◌≡◌, ℕ, zero, suc, ◌+◌, ◌-◌, ◌<◌, ◌≤◌, true, false, [], ◌∷◌}
use Rattle.std.proofs.Common.{⊎_elim, sym, ◌∙◌, add-zero}
use Rattle.std.proofs.Math.Path.{refl, ap, subst}
use native.Mathlib.Omega.{arith}
use Rattle.std.proofs.lemmas.Bool.{cases_Bool, cases_lt, cond-true, cond-false}
use Rattle.register.specs.Runs.{Numbers, begins, stretch, begun, runs_from}

module _ (u : Numbers) where
  pub stretch_yes : (k n : ℕ) → u n ≡ true → stretch u (suc k) n ≡ suc (stretch u k (n + 1))
  unfolding stretch
  stretch_yes k n e = cond-true (u n) _ _ e

  pub stretch_no : (k n : ℕ) → u n ≡ false → stretch u k n ≡ 0
  unfolding stretch
  stretch_no zero n e = refl
  stretch_no (suc k) n e = cond-false (u n) _ _ e

  pub stretch_none : (n : ℕ) → stretch u 0 n ≡ 0
  unfolding stretch
  stretch_none n = refl

  begun_yes : (k n : ℕ) → begins u n ≡ true → begun u (suc k) n ≡ (n, stretch u (suc k) n) ∷ begun u k (n + 1)
  unfolding begun
  begun_yes k n e = cond-true (begins u n) _ _ e

  begun_no : (k n : ℕ) → begins u n ≡ false → begun u (suc k) n ≡ begun u k (n + 1)
  unfolding begun
  begun_no k n e = cond-false (begins u n) _ _ e

  begun_none : (n : ℕ) → begun u 0 n ≡ []
  unfolding begun
  begun_none n = refl

  pub from_end : (n : ℕ) → 4096 ≤ n → runs_from u n ≡ []
  unfolding runs_from
  from_end n h = let e : 4096 - n ≡ 0 = omega arith in ap (λ k. begun u k n) e ∙ begun_none n

  pub from_yes : (n : ℕ) → n < 4096 → begins u n ≡ true → runs_from u n ≡ (n, stretch u (4096 - n) n) ∷ runs_from u (n + 1)
  unfolding runs_from
  from_yes n h b =
      let e : suc (4096 - (n + 1)) ≡ 4096 - n = omega arith in
      subst (λ k. begun u k n ≡ (n, stretch u k n) ∷ begun u (4096 - (n + 1)) (n + 1)) e (begun_yes (4096 - (n + 1)) n b)

  below_no : (n : ℕ) → n < 4096 → begins u n ≡ false → runs_from u n ≡ runs_from u (n + 1)
  unfolding runs_from
  below_no n h b =
      let e : suc (4096 - (n + 1)) ≡ 4096 - n = omega arith in
      subst (λ k. begun u k n ≡ begun u (4096 - (n + 1)) (n + 1)) e (begun_no (4096 - (n + 1)) n b)

  pub from_no : (n : ℕ) → begins u n ≡ false → runs_from u n ≡ runs_from u (n + 1)
  from_no n b = ⊎_elim (λ h. below_no n h b) (λ h. from_end n h ∙ sym (from_end (n + 1) (omega arith))) (cases_lt n 4096)

  skip : (d n : ℕ) → ((k : ℕ) → n ≤ k → k < n + d → begins u k ≡ false) → runs_from u n ≡ runs_from u (n + d)
  skip zero n h = ap (runs_from u) (sym (add-zero n))
  skip (suc d) n h =
      let e : n + 1 + d ≡ n + suc d = omega arith in
      from_no n (h n (omega arith) (omega arith)) ∙ skip d (n + 1) (λ k a b. h k (omega arith) (omega arith)) ∙ ap (runs_from u) e

  -- no run begins between n and m
  pub skip_to : (n m : ℕ) → n ≤ m → ((k : ℕ) → n ≤ k → k < m → begins u k ≡ false) → runs_from u n ≡ runs_from u m
  skip_to n m le h =
      let e : n + (m - n) ≡ m = omega arith in
      skip (m - n) n (λ k a b. h k a (omega arith)) ∙ ap (runs_from u) e

  -- l used numbers from n on, and then one that is not
  pub stretch_is : (l k n : ℕ) → l ≤ k → ((j : ℕ) → j < l → u (n + j) ≡ true) → u (n + l) ≡ false → stretch u k n ≡ l
  stretch_is zero k n le all stop = stretch_no k n (ap u (sym (add-zero n)) ∙ stop)
  stretch_is (suc l) zero n le all stop = absurd (omega arith)
  stretch_is (suc l) (suc k) n le all stop =
      let e : n + suc l ≡ n + 1 + l = omega arith in
      stretch_yes k n (ap u (sym (add-zero n)) ∙ all 0 (omega arith)) ∙
      ap suc (stretch_is l k (n + 1) (omega arith) (λ j h. let f : n + 1 + j ≡ n + suc j = omega arith in ap u f ∙ all (suc j) (omega arith)) (ap u (sym e) ∙ stop))

  pub stretch_le : (k n : ℕ) → stretch u k n ≤ k
  stretch_le zero n = omega (arith, stretch_none n)
  stretch_le (suc k) n =
      ⊎_elim (λ e. omega (arith, stretch_yes k n e, stretch_le k (n + 1))) (λ e. omega (arith, stretch_no (suc k) n e)) (cases_Bool (u n))

  pub stretch_all : (k n j : ℕ) → j < stretch u k n → u (n + j) ≡ true
  stretch_all zero n j h = absurd (omega (arith, stretch_none n))
  stretch_all (suc k) n zero h =
      ⊎_elim (λ e. ap u (add-zero n) ∙ e) (λ e. absurd (omega (arith, stretch_no (suc k) n e))) (cases_Bool (u n))
  stretch_all (suc k) n (suc j) h =
      let f : n + suc j ≡ n + 1 + j = omega arith in
      ⊎_elim (λ e. ap u f ∙ stretch_all k (n + 1) j (omega (arith, stretch_yes k n e))) (λ e. absurd (omega (arith, stretch_no (suc k) n e))) (cases_Bool (u n))

  pub stretch_stop : (k n : ℕ) → stretch u k n < k → u (n + stretch u k n) ≡ false
  stretch_stop zero n h = absurd (omega arith)
  stretch_stop (suc k) n h =
      ⊎_elim
      (λ e. let s = stretch_yes k n e in let f : n + stretch u (suc k) n ≡ n + 1 + stretch u k (n + 1) = omega (arith, s) in ap u f ∙ stretch_stop k (n + 1) (omega (arith, s)))
      (λ e. let f : n + stretch u (suc k) n ≡ n = omega (arith, stretch_no (suc k) n e) in ap u f ∙ e)
      (cases_Bool (u n))

  -- a count that goes on to the end of the stretch
  pub stretch_more : (n : ℕ) → n < 4096 → u n ≡ true → n + stretch u (4096 - n) n ≡ n + 1 + stretch u (4096 - (n + 1)) (n + 1)
  stretch_more n h e =
      let f : 4096 - n ≡ suc (4096 - (n + 1)) = omega arith in
      omega (arith, ap (λ k. stretch u k n) f ∙ stretch_yes (4096 - (n + 1)) n e)

  pub stretch_over : (n : ℕ) → 4096 ≤ n → stretch u (4096 - n) n ≡ 0
  stretch_over n h = let f : 4096 - n ≡ 0 = omega arith in ap (λ k. stretch u k n) f ∙ stretch_none n
