-- What a search through the numbers from n on tells of the runs.
-- Assumes nothing.
use Rattle.std.proofs.Common.{◌≡◌, ℕ, ◌+◌, ◌-◌, ◌<◌, ◌≤◌, true, false, Some, None, Option, unwrap_or, sym, ap, ◌∙◌, ⊎_elim, arith}
use Rattle.std.proofs.lemmas.Bool.{cases_lt}
use Rattle.std.specs.Option.{MatchOption}
use Rattle.register.specs.Runs.{Numbers, Small, begins, stretch, first_pair, next_run}
use Rattle.register.specs.Steps.{from_end, from_yes, skip_to, stretch_is}
use Rattle.register.specs.Cover.{unused_past}

module _ (u : Numbers) where
  -- the first unused number from n on, or 4096, ends the stretch
  pub stretch_ends : Small u → (n : ℕ) (o : Option ℕ) → n ≤ 4096 → MatchOption o ((k : ℕ) → n ≤ k → k < 4096 → u k ≡ true) (λ i. (n ≤ i) × (i < 4096) × (u i ≡ false) × ((k : ℕ) → n ≤ k → k < i → u k ≡ true)) →
      (n ≤ unwrap_or o 4096) × (unwrap_or o 4096 - n ≡ stretch u (4096 - n) n)
  stretch_ends small n None le all = (le, sym (stretch_is u (4096 - n) (4096 - n) n (omega arith) (λ j h. all (n + j) (omega arith) (omega arith)) (let f : n + (4096 - n) ≡ 4096 = omega arith in ap u f ∙ unused_past u small 4096 (omega arith))))
  stretch_ends small n (Some i) le f = (f.0, sym (stretch_is u (i - n) (4096 - n) n (omega (arith, f.1)) (λ j h. f.3 (n + j) (omega arith) (omega arith)) (let g : n + (i - n) ≡ i = omega (arith, f.0) in ap u g ∙ f.2)))

  -- no run begins from n on
  pub none_begins : (n : ℕ) → ((k : ℕ) → n ≤ k → k < 4096 → begins u k ≡ false) → None ≡ next_run u n
  none_begins n none =
      sym (ap first_pair (⊎_elim (λ lt. skip_to u n 4096 (omega arith) none ∙ from_end u 4096 (omega arith)) (from_end u n) (cases_lt n 4096)))

  -- the first begins at i
  pub one_begins : (n i : ℕ) → n ≤ i → i < 4096 → begins u i ≡ true → ((k : ℕ) → n ≤ k → k < i → begins u k ≡ false) → Some (i, stretch u (4096 - i) i) ≡ next_run u n
  one_begins n i le lt here none = sym (ap first_pair (skip_to u n i le none ∙ from_yes u i lt here))
