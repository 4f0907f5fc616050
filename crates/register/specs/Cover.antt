-- Pairs that are apart are the runs of the numbers that they cover, and the runs of a set cover the set.
-- Assumes nothing.
use Rattle.std.specs.Prelude.{◌≡◌, ℕ, zero, suc, ◌+◌, ◌-◌, ◌*◌, ◌<◌, ◌≤◌, true, false, ◌||◌, ◌⊎◌, List, [], ◌∷◌, length, nat_le, nat_lt, refl}
use Rattle.std.proofs.Common.{inl, inr, ⊎_elim, sym, ap, subst, ◌∙◌, arith}
use Rattle.std.proofs.Math.Path.{fun_ext}
use Rattle.std.proofs.lemmas.Bool.{cases_Bool, cases_lt, and_parts, and_from, and_left, and_right, or_from, or_left, or_right, or_cases, not_from_true, not_from_false, leb-true, ltb-true, le-leb, lt-leb, lt-ltb, le-ltb, eq-eqb, ne_eqb, both_ways}
use Rattle.register.specs.Runs.{Numbers, Pair, Small, begins, stretch, runs_from, runs, run_count, within, covered, fits, apart}
use Rattle.register.specs.Steps.{from_end, from_yes, from_no, skip_to, stretch_is, stretch_le, stretch_all, stretch_stop, stretch_yes}

pub record Fits (least : ℕ) (p : Pair) : Type 0 where
  pub low : least ≤ p.0
  pub some : 0 < p.1
  pub high : p.0 + p.1 ≤ 4096

pub fits_parts : (least : ℕ) (p : Pair) → fits least p ≡ true → Fits least p
fits_parts least p h =
    let a = and_parts (nat_le least p.0) _ h in
    let b = and_parts (nat_lt 0 p.1) _ a.1 in
    record { low = leb-true _ _ a.0; some = ltb-true _ _ b.0; high = leb-true _ _ b.1 }

pub fits_from : (least : ℕ) (p : Pair) → Fits least p → fits least p ≡ true
fits_from least p h = and_from _ _ (le-leb _ _ h.low) (and_from _ _ (lt-ltb _ _ h.some) (le-leb _ _ h.high))

-- what `apart` says of a first pair
pub record Apart (least : ℕ) (p : Pair) (ps : List Pair) : Type 0 where
  pub low : least ≤ p.0
  pub some : 0 < p.1
  pub high : p.0 + p.1 ≤ 4096
  pub rest : apart (p.0 + p.1 + 1) ps ≡ true

pub apart_parts : (least : ℕ) (p : Pair) (ps : List Pair) → apart least (p ∷ ps) ≡ true → Apart least p ps
apart_parts least p ps h =
    let a = and_parts (fits least p) _ h in
    let f = fits_parts least p a.0 in
    record { low = f.low; some = f.some; high = f.high; rest = a.1 }

pub apart_from : (least : ℕ) (p : Pair) (ps : List Pair) → Apart least p ps → apart least (p ∷ ps) ≡ true
apart_from least p ps h = and_from _ _ (fits_from least p (record { low = h.low; some = h.some; high = h.high })) h.rest

pub apart_lower : (m least : ℕ) (ps : List Pair) → m ≤ least → apart least ps ≡ true → apart m ps ≡ true
apart_lower m least [] le h = refl
apart_lower m least (p ∷ ps) le h =
    let a = apart_parts least p ps h in
    apart_from m p ps (record { low = omega arith; some = a.some; high = a.high; rest = a.rest })

pub within_yes : (p : Pair) (n : ℕ) → p.0 ≤ n → n < p.0 + p.1 → within p n ≡ true
within_yes p n a b = and_from _ _ (le-leb _ _ a) (lt-ltb _ _ b)

pub within_below : (p : Pair) (n : ℕ) → n < p.0 → within p n ≡ false
within_below p n h = and_left _ _ (lt-leb _ _ h)

pub within_above : (p : Pair) (n : ℕ) → p.0 + p.1 ≤ n → within p n ≡ false
within_above p n h = and_right _ _ (le-ltb _ _ h)

pub within_parts : (p : Pair) (n : ℕ) → within p n ≡ true → (p.0 ≤ n) × (n < p.0 + p.1)
within_parts p n h = let a = and_parts (nat_le p.0 n) _ h in (leb-true _ _ a.0, ltb-true _ _ a.1)

pub covered_low : (least : ℕ) (ps : List Pair) → apart least ps ≡ true → (n : ℕ) → n < least → covered ps n ≡ false
covered_low least [] h n lt = refl
covered_low least (p ∷ ps) h n lt =
    let a = apart_parts least p ps h in
    or_from _ _ (within_below p n (omega arith)) (covered_low (p.0 + p.1 + 1) ps a.rest n (omega arith))

pub covered_small : (least : ℕ) (ps : List Pair) → apart least ps ≡ true → Small (covered ps)
covered_small least [] h n e = absurd (both_ways false refl e)
covered_small least (p ∷ ps) h n e =
    let a = apart_parts least p ps h in
    ⊎_elim (λ w. let v = within_parts p n w in omega arith) (covered_small (p.0 + p.1 + 1) ps a.rest n) (or_cases (within p n) _ e)

-- what the first pair adds
pub covered_first : (p : Pair) (ps : List Pair) (n : ℕ) → p.0 ≤ n → n < p.0 + p.1 → covered (p ∷ ps) n ≡ true
covered_first p ps n a b = or_left _ _ (within_yes p n a b)

pub covered_later : (p : Pair) (ps : List Pair) (n : ℕ) → p.0 + p.1 ≤ n → covered (p ∷ ps) n ≡ covered ps n
covered_later p ps n h = ap (λ b. b || covered ps n) (within_above p n h)

abbrev pub Edge : Numbers → ℕ → Type 0
Edge u n = (n ≡ 0) ⊎ (u (n - 1) ≡ false)

module _ (u : Numbers) where
  pub begins_unused : (n : ℕ) → u n ≡ false → begins u n ≡ false
  begins_unused n e = and_left _ _ e

  pub begins_inside : (n : ℕ) → 0 < n → u (n - 1) ≡ true → begins u n ≡ false
  begins_inside n h e = and_right (u n) _ (or_from _ _ (ne_eqb n 0 (λ z. omega arith)) (not_from_true _ e))

  pub begins_yes : (n : ℕ) → u n ≡ true → Edge u n → begins u n ≡ true
  begins_yes n e (inl z) = and_from _ _ e (or_left _ _ (eq-eqb n 0 z))
  begins_yes n e (inr f) = and_from _ _ e (or_right _ _ (not_from_false _ f))

  -- pairs that are apart, and cover what u has from n on
  pub runs_are : (ps : List Pair) (n least : ℕ) → n ≤ least → apart least ps ≡ true → ((k : ℕ) → n ≤ k → u k ≡ covered ps k) → Edge u n → runs_from u n ≡ ps
  runs_are [] n least le a same edge =
      skip_to u n (n + 4096) (omega arith) (λ k x y. begins_unused k (same k x)) ∙ from_end u (n + 4096) (omega arith)
  runs_are (p ∷ ps) n least le a same edge =
      let q = apart_parts least p ps a in
      let before : (k : ℕ) → k < p.0 → covered (p ∷ ps) k ≡ false = λ k lt. or_from _ _ (within_below p k lt) (covered_low (p.0 + p.1 + 1) ps q.rest k (omega arith)) in
      let end : u (p.0 + p.1) ≡ false = same (p.0 + p.1) (omega arith) ∙ covered_later p ps (p.0 + p.1) (omega arith) ∙ covered_low (p.0 + p.1 + 1) ps q.rest (p.0 + p.1) (omega arith) in
      let inside : (k : ℕ) → p.0 ≤ k → k < p.0 + p.1 → u k ≡ true = λ k x y. same k (omega arith) ∙ covered_first p ps k x y in
      let here : Edge u p.0 = ⊎_elim (λ lt. inr (same (p.0 - 1) (omega arith) ∙ before (p.0 - 1) (omega arith))) (λ ge. let e : n ≡ p.0 = omega arith in subst (Edge u) e edge) (cases_lt n p.0) in
      let long : stretch u (4096 - p.0) p.0 ≡ p.1 = stretch_is u p.1 (4096 - p.0) p.0 (omega arith) (λ j h. inside (p.0 + j) (omega arith) (omega arith)) end in
      let past : u (p.0 + p.1 + 1 - 1) ≡ false = let e : p.0 + p.1 + 1 - 1 ≡ p.0 + p.1 = omega arith in ap u e ∙ end in
      let on : runs_from u (p.0 + 1) ≡ ps =
      skip_to u (p.0 + 1) (p.0 + p.1 + 1) (omega arith) (λ k x y. begins_inside k (omega arith) (inside (k - 1) (omega arith) (omega arith))) ∙
      runs_are ps (p.0 + p.1 + 1) (p.0 + p.1 + 1) (omega arith) q.rest (λ k x. same k (omega arith) ∙ covered_later p ps k (omega arith)) (inr past) in
      skip_to u n p.0 (omega arith) (λ k x y. begins_unused k (same k x ∙ before k y)) ∙
      from_yes u p.0 (omega arith) (begins_yes p.0 (inside p.0 (omega arith) (omega arith)) here) ∙
      (λ i. (p.0, long i) ∷ on i)

-- pairs that are apart are the runs of their numbers
pub runs_covered : (ps : List Pair) → apart 0 ps ≡ true → runs (covered ps) ≡ ps
runs_covered ps h = runs_are (covered ps) ps 0 0 (omega arith) h (λ k x. refl) (inl refl)

-- the runs from n on are apart, and cover what u has from n on
pub record Listed (u : Numbers) (n : ℕ) : Type 0 where
  pub gaps : apart n (runs_from u n) ≡ true
  pub same : (k : ℕ) → n ≤ k → covered (runs_from u n) k ≡ u k

module _ (u : Numbers) (small : Small u) where
  pub unused_past : (k : ℕ) → 4096 ≤ k → u k ≡ false
  unused_past k h = ⊎_elim (λ e. absurd (omega (arith, small k e))) (λ e. e) (cases_Bool (u k))

  listed_end : (n : ℕ) → 4096 ≤ n → Listed u n
  listed_end n h =
      let e = from_end u n h in
      record {
        gaps = ap (apart n) e;
        same = λ k x. ap (λ ps. covered ps k) e ∙ sym (unused_past k (omega arith));
      }

  -- the run that begins at n, with what follows it
  record Run (n l : ℕ) : Type 0 where
    some : 0 < l
    high : n + l ≤ 4096
    inside : (k : ℕ) → n ≤ k → k < n + l → u k ≡ true
    stop : u (n + l) ≡ false
    from : runs_from u n ≡ (n, l) ∷ runs_from u (n + l + 1)

  run_at : (n : ℕ) → n < 4096 → u n ≡ true → Edge u n → Run n (stretch u (4096 - n) n)
  run_at n h e edge =
      let l : ℕ = stretch u (4096 - n) n in
      let f : suc (4096 - (n + 1)) ≡ 4096 - n = omega arith in
      let one : l ≡ suc (stretch u (4096 - (n + 1)) (n + 1)) = ap (λ k. stretch u k n) (sym f) ∙ stretch_yes u (4096 - (n + 1)) n e in
      let le : l ≤ 4096 - n = stretch_le u (4096 - n) n in
      let inn : (k : ℕ) → n ≤ k → k < n + l → u k ≡ true = λ k x y. let g : n + (k - n) ≡ k = omega arith in ap u (sym g) ∙ stretch_all u (4096 - n) n (k - n) (omega arith) in
      record {
        some = omega (arith, one);
        high = omega arith;
        inside = inn;
        stop = ⊎_elim (λ lt. stretch_stop u (4096 - n) n lt) (λ ge. unused_past (n + l) (omega arith)) (cases_lt l (4096 - n));
        from =
            from_yes u n h (begins_yes u n e edge) ∙
            ap (λ ps. (n, l) ∷ ps)
            (skip_to u (n + 1) (n + l + 1) (omega (arith, one)) (λ k x y. begins_inside u k (omega arith) (inn (k - 1) (omega arith) (omega arith))));
      }

  listed : (fuel n : ℕ) → 4096 ≤ n + fuel → Edge u n → Listed u n
  listed zero n h edge = listed_end n (omega arith)
  listed (suc fuel) n h edge =
      let next : u n ≡ false → Listed u (n + 1) = λ e. let g : n + 1 - 1 ≡ n = omega arith in listed fuel (n + 1) (omega arith) (inr (ap u g ∙ e)) in
      let unused : u n ≡ false → Listed u n = λ e.
      let r = next e in
      let f = from_no u n (begins_unused u n e) in
      record {
        gaps = ap (apart n) f ∙ apart_lower n (n + 1) (runs_from u (n + 1)) (omega arith) r.gaps;
        same = λ k x. ap (λ ps. covered ps k) f ∙ ⊎_elim (λ lt. r.same k (omega arith)) (λ ge. let g : k ≡ n = omega arith in covered_low (n + 1) (runs_from u (n + 1)) r.gaps k (omega arith) ∙ sym (ap u g ∙ e)) (cases_lt n k);
      } in
      let used : u n ≡ true → n < 4096 → Listed u n = λ e lt.
      let l : ℕ = stretch u (4096 - n) n in
      let r = run_at n lt e edge in
      let g : n + l + 1 - 1 ≡ n + l = omega arith in
      let on = listed fuel (n + l + 1) (omega (arith, r.some)) (inr (ap u g ∙ r.stop)) in
      record {
        gaps = ap (apart n) r.from ∙ apart_from n (n, l) (runs_from u (n + l + 1)) (record { low = omega arith; some = r.some; high = r.high; rest = on.gaps });
        same = λ k x. ap (λ ps. covered ps k) r.from ∙
            ⊎_elim (λ lt. covered_first (n, l) (runs_from u (n + l + 1)) k x lt ∙ sym (r.inside k x lt))
            (λ ge. covered_later (n, l) (runs_from u (n + l + 1)) k ge ∙
            ⊎_elim (λ lt. on.same k (omega arith)) (λ le. let z : k ≡ n + l = omega arith in covered_low (n + l + 1) (runs_from u (n + l + 1)) on.gaps k (omega arith) ∙ sym (ap u z ∙ r.stop)) (cases_lt (n + l) k))
            (cases_lt k (n + l));
      } in
      ⊎_elim (λ lt. ⊎_elim (λ e. used e lt) unused (cases_Bool (u n))) (listed_end n) (cases_lt n 4096)

  pub listed_all : Listed u 0
  listed_all = listed 4096 0 (omega arith) (inl refl)

  pub runs_apart : apart 0 (runs u) ≡ true
  runs_apart = listed_all.gaps

  -- the runs of a set cover the set
  pub covered_runs : covered (runs u) ≡ u
  covered_runs = fun_ext (λ k. listed_all.same k (omega arith))

pub apart_count : (least : ℕ) (ps : List Pair) → least ≤ 4097 → apart least ps ≡ true → 2 * length ps + least ≤ 4097
apart_count least [] le h = omega arith
apart_count least (p ∷ ps) le h =
    let a = apart_parts least p ps h in
    omega (arith, apart_count (p.0 + p.1 + 1) ps (omega arith) a.rest)

pub at_most_2048_runs : (u : Numbers) → Small u → run_count u ≤ 2048
at_most_2048_runs u small = omega (arith, apart_count 0 (runs u) (omega arith) (runs_apart u small))
