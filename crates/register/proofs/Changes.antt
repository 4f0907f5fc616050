-- One number more, in pairs that are apart.
-- Assumes nothing.
use Rattle.std.proofs.Common.{◌≡◌, ℕ, zero, suc, ◌+◌, ◌-◌, ◌<◌, ◌≤◌, Bool, true, false, ◌&&◌, ◌||◌, eqb, List, [], ◌∷◌, ◌++◌, length, get_or, take, drop, set, sym, refl, ap, ◌∙◌, subst, ⊎_elim, add-zero, add-one, arith, take-append-drop}
use Rattle.std.proofs.lemmas.List.{drop_more, set_split, get_or-drop, length-drop, length-take-le, drop_at, append_assoc, drop-drop, take_at, take-append-le, drop-append-le}
use Rattle.std.proofs.lemmas.Bool.{and_parts, and_from, or_parts, cases_eq, cases_lt}
use Rattle.std.proofs.Math.Bool.{and_assoc, or_assoc, or_comm}
use Rattle.std.proofs.lemmas.Bool.Decides.{nat_tests}
use Rattle.std.specs.List.{insert, remove}
use Rattle.register.specs.Runs.{Pair, with_number, within, covered, fits, apart}
use Rattle.register.specs.Cover.{apart_parts, apart_from, within_yes}

-- where the next pair may begin, after the pairs
abbrev pub past : ℕ → List Pair → ℕ
past least [] = least
past least (p ∷ ps) = past (p.0 + p.1 + 1) ps

pub or_between : (a b c : Bool) → (a || (b || c)) ≡ (b || (a || c))
or_between a b c = sym (or_assoc a b c) ∙ ap (λ x. x || c) (or_comm a b) ∙ or_assoc b a c

apart_append : (least : ℕ) (xs ys : List Pair) → apart least (xs ++ ys) ≡ (apart least xs && apart (past least xs) ys)
apart_append least [] ys = refl
apart_append least (p ∷ xs) ys = ap (λ b. fits least p && b) (apart_append (p.0 + p.1 + 1) xs ys) ∙ sym (and_assoc (fits least p) _ _)

pub covered_append : (xs ys : List Pair) (k : ℕ) → covered (xs ++ ys) k ≡ (covered xs k || covered ys k)
covered_append [] ys k = refl
covered_append (p ∷ xs) ys k = ap (λ b. within p k || b) (covered_append xs ys k) ∙ sym (or_assoc (within p k) _ _)

-- qs are apart, and cover what ps cover and n
pub record Adds (least : ℕ) (ps : List Pair) (n : ℕ) (qs : List Pair) : Type 0 where
  pub gaps : apart least qs ≡ true
  pub same : (k : ℕ) → covered qs k ≡ with_number (covered ps) n k

pub apart_split : (least : ℕ) (xs ys : List Pair) → apart least (xs ++ ys) ≡ true → (apart least xs ≡ true) × (apart (past least xs) ys ≡ true)
apart_split least xs ys h = and_parts (apart least xs) _ (sym (apart_append least xs ys) ∙ h)

pub apart_join : (least : ℕ) (xs ys : List Pair) → apart least xs ≡ true → apart (past least xs) ys ≡ true → apart least (xs ++ ys) ≡ true
apart_join least xs ys a b = apart_append least xs ys ∙ and_from _ _ a b

-- a change behind the pairs xs
behind : (xs ys zs : List Pair) (n : ℕ) → apart 0 (xs ++ ys) ≡ true → (apart (past 0 xs) ys ≡ true → Adds (past 0 xs) ys n zs) → Adds 0 (xs ++ ys) n (xs ++ zs)
behind xs ys zs n h f =
    let a = apart_split 0 xs ys h in
    let r = f a.1 in
    record {
      gaps = apart_join 0 xs zs a.0 r.gaps;
      same = λ k.
          covered_append xs zs k ∙ ap (λ b. covered xs k || b) (r.same k) ∙ or_between (covered xs k) (eqb k n) (covered ys k) ∙
          ap (λ b. eqb k n || b) (sym (covered_append xs ys k));
    }

-- the pairs begin later than `apart` says
pub apart_raise : (m least : ℕ) (ps : List Pair) → apart m ps ≡ true → (0 < length ps → least ≤ (get_or ps 0 (0, 0)).0) → apart least ps ≡ true
apart_raise m least [] h low = refl
apart_raise m least (p ∷ ps) h low =
    let a = apart_parts m p ps h in
    apart_from least p ps (record { low = low (omega arith); some = a.some; high = a.high; rest = a.rest })

pub within_more : (p : Pair) (n k : ℕ) → p.0 + p.1 ≡ n → within (p.0, p.1 + 1) k ≡ (eqb k n || within p k)
within_more p n k e = grind (arith, nat_tests)

within_earlier : (p : Pair) (n k : ℕ) → p.0 ≡ n + 1 → within (p.0 - 1, p.1 + 1) k ≡ (eqb k n || within p k)
within_earlier p n k e = grind (arith, nat_tests)

within_joined : (p q : Pair) (n k : ℕ) → p.0 + p.1 ≡ n → q.0 ≡ n + 1 → within (p.0, p.1 + (q.1 + 1)) k ≡ (eqb k n || (within p k || within q k))
within_joined p q n k e f = grind (arith, nat_tests)

within_lone : (n k : ℕ) → within (n, 1) k ≡ eqb k n
within_lone n k = grind (arith, nat_tests)

left_mid : (least : ℕ) (p : Pair) (ys : List Pair) (n : ℕ) → p.0 + p.1 ≡ n → n < 4096 → apart (n + 2) ys ≡ true → apart least (p ∷ ys) ≡ true → Adds least (p ∷ ys) n ((p.0, p.1 + 1) ∷ ys)
left_mid least p ys n e lt on h =
    let a = apart_parts least p ys h in
    let f : n + 2 ≡ p.0 + (p.1 + 1) + 1 = omega arith in
    record {
      gaps = apart_from least (p.0, p.1 + 1) ys (record { low = a.low; some = omega arith; high = omega arith; rest = subst (λ m. apart m ys ≡ true) f on });
      same = λ k. ap (λ b. b || covered ys k) (within_more p n k e) ∙ or_assoc (eqb k n) (within p k) (covered ys k);
    }

right_mid : (least : ℕ) (p : Pair) (ys : List Pair) (n : ℕ) → p.0 ≡ n + 1 → least ≤ n → apart least (p ∷ ys) ≡ true → Adds least (p ∷ ys) n ((p.0 - 1, p.1 + 1) ∷ ys)
right_mid least p ys n e le h =
    let a = apart_parts least p ys h in
    let f : p.0 + p.1 + 1 ≡ p.0 - 1 + (p.1 + 1) + 1 = omega arith in
    record {
      gaps = apart_from least (p.0 - 1, p.1 + 1) ys (record { low = omega arith; some = omega arith; high = omega (arith, a.high); rest = subst (λ m. apart m ys ≡ true) f a.rest });
      same = λ k. ap (λ b. b || covered ys k) (within_earlier p n k e) ∙ or_assoc (eqb k n) (within p k) (covered ys k);
    }

join_mid : (least : ℕ) (p q : Pair) (ys : List Pair) (n : ℕ) → p.0 + p.1 ≡ n → q.0 ≡ n + 1 → apart least (p ∷ q ∷ ys) ≡ true → Adds least (p ∷ q ∷ ys) n ((p.0, p.1 + (q.1 + 1)) ∷ ys)
join_mid least p q ys n e f h =
    let a = apart_parts least p (q ∷ ys) h in
    let b = apart_parts (p.0 + p.1 + 1) q ys a.rest in
    let g : q.0 + q.1 + 1 ≡ p.0 + (p.1 + (q.1 + 1)) + 1 = omega arith in
    record {
      gaps = apart_from least (p.0, p.1 + (q.1 + 1)) ys (record { low = a.low; some = omega arith; high = omega (arith, b.high); rest = subst (λ m. apart m ys ≡ true) g b.rest });
      same = λ k.
          ap (λ b. b || covered ys k) (within_joined p q n k e f) ∙ or_assoc (eqb k n) (within p k || within q k) (covered ys k) ∙
          ap (λ b. eqb k n || b) (or_assoc (within p k) (within q k) (covered ys k));
    }

lone_mid : (least : ℕ) (ys : List Pair) (n : ℕ) → least ≤ n → n < 4096 → apart (n + 2) ys ≡ true → Adds least ys n ((n, 1) ∷ ys)
lone_mid least ys n le lt on =
    let f : n + 2 ≡ n + 1 + 1 = omega arith in
    record {
      gaps = apart_from least (n, 1) ys (record { low = le; some = omega arith; high = omega arith; rest = subst (λ m. apart m ys ≡ true) f on });
      same = λ k. ap (λ b. b || covered ys k) (within_lone n k);
    }

pub apart_at : (least : ℕ) (ps : List Pair) (k : ℕ) → apart least ps ≡ true → k < length ps → (0 < (get_or ps k (0, 0)).1) × ((get_or ps k (0, 0)).0 + (get_or ps k (0, 0)).1 ≤ 4096)
apart_at least [] k h lt = absurd (omega arith)
apart_at least (p ∷ ps) zero h lt = let a = apart_parts least p ps h in (a.some, a.high)
apart_at least (p ∷ ps) (suc k) h lt = apart_at (p.0 + p.1 + 1) ps k (apart_parts least p ps h).rest (omega arith)

uncovered_at : (ps : List Pair) (k n : ℕ) → covered ps n ≡ false → k < length ps → within (get_or ps k (0, 0)) n ≡ false
uncovered_at [] k n h lt = absurd (omega arith)
uncovered_at (p ∷ ps) zero n h lt = (or_parts (within p n) _ h).0
uncovered_at (p ∷ ps) (suc k) n h lt = uncovered_at ps k n (or_parts (within p n) _ h).1 (omega arith)

ends_by : (p : Pair) (n : ℕ) → within p n ≡ false → p.0 ≤ n → p.0 + p.1 ≤ n
ends_by p n h le =
    ⊎_elim (λ lt. absurd (mathlib.Core.Bool.true≢false (sym (within_yes p n le lt) ∙ h))) (λ ge. ge) (cases_lt n (p.0 + p.1))

past_last : (least : ℕ) (ps : List Pair) (j : ℕ) → j < length ps → past least (take (suc j) ps) ≡ (get_or ps j (0, 0)).0 + (get_or ps j (0, 0)).1 + 1
past_last least [] j lt = absurd (omega arith)
past_last least (p ∷ ps) zero lt = refl
past_last least (p ∷ ps) (suc j) lt = past_last (p.0 + p.1 + 1) ps j (omega arith)

-- pairs that are apart, a number n that they do not cover, and the place i where n belongs
pub record Place (ps : List Pair) (n i : ℕ) : Type 0 where
  pub gaps : apart 0 ps ≡ true
  pub small : n < 4096
  pub bound : i ≤ length ps
  pub prev : 0 < i → (get_or ps (i - 1) (0, 0)).0 + (get_or ps (i - 1) (0, 0)).1 ≤ n
  pub next : i < length ps → n + 1 ≤ (get_or ps i (0, 0)).0

pub place : (ps : List Pair) (n i : ℕ) → apart 0 ps ≡ true → n < 4096 → covered ps n ≡ false → i ≤ length ps → ((k : ℕ) → k < i → (get_or ps k (0, 0)).0 < n) → (i < length ps → n ≤ (get_or ps i (0, 0)).0) → Place ps n i
place ps n i h lt out le earlier later = record {
  gaps = h;
  small = lt;
  bound = le;
  prev = λ some. ends_by (get_or ps (i - 1) (0, 0)) n (uncovered_at ps (i - 1) n out (omega arith)) (omega (arith, earlier (i - 1) (omega arith)));
  next = λ more.
      let a = apart_at 0 ps i h more in
      ⊎_elim (λ e. absurd (omega (arith, a, ends_by (get_or ps i (0, 0)) n (uncovered_at ps i n out more) (omega (arith, e))))) (λ ne. omega (arith, later more)) (cases_eq (get_or ps i (0, 0)).0 n);
}

split_at : (ps : List Pair) (i : ℕ) → i < length ps → ps ≡ take i ps ++ (get_or ps i (0, 0) ∷ drop (i + 1) ps)
split_at ps i lt = sym (take-append-drop i ps) ∙ ap (λ l. take i ps ++ l) (drop_more ps i (0, 0) lt)

set_at : (ps : List Pair) (i : ℕ) (p : Pair) → i < length ps → set ps i p ≡ take i ps ++ (p ∷ drop (i + 1) ps)
set_at ps i p lt = set_split ps i p lt ∙ ap (λ m. take i ps ++ (p ∷ drop m ps)) (sym (add-one i))

head_drop : (ps : List Pair) (i : ℕ) → get_or (drop i ps) 0 (0, 0) ≡ get_or ps i (0, 0)
head_drop ps i = get_or-drop i ps 0 (0, 0) ∙ ap (λ k. get_or ps k (0, 0)) (add-zero i)

-- what begins at i or later begins at `least` or later
raised : (ps : List Pair) (i m least : ℕ) → apart m (drop i ps) ≡ true → (i < length ps → least ≤ (get_or ps i (0, 0)).0) → apart least (drop i ps) ≡ true
raised ps i m least h low =
    apart_raise m least (drop i ps) h (λ some. subst (λ p. least ≤ p.0) (sym (head_drop ps i)) (low (omega (arith, length-drop i ps))))

moved : (ps qs xs ys : List Pair) (n : ℕ) → ps ≡ xs → qs ≡ ys → Adds 0 xs n ys → Adds 0 ps n qs
moved ps qs xs ys n e f a = subst (λ l. Adds 0 l n qs) (sym e) (subst (Adds 0 xs n) (sym f) a)

module _ (ps : List Pair) (n i : ℕ) (at : Place ps n i) where
  -- the place before i ends before n, with a gap
  past_below : (0 < i → ((get_or ps (i - 1) (0, 0)).0 + (get_or ps (i - 1) (0, 0)).1 ≡ n → ⊥)) → past 0 (take i ps) ≤ n
  past_below gap = ⊎_elim
      (λ some.
      let e : suc (i - 1) ≡ i = omega arith in
      let b = at.bound in
      let z : past 0 (take i ps) ≡ (get_or ps (i - 1) (0, 0)).0 + (get_or ps (i - 1) (0, 0)).1 + 1 = ap (λ k. past 0 (take k ps)) (sym e) ∙ past_last 0 ps (i - 1) (omega arith) in
      let ne = gap some in
      omega (arith, z, at.prev some))
      (λ none. let e : i ≡ 0 = omega arith in subst (λ k. past 0 (take k ps) ≤ n) (sym e) (omega arith))
      (cases_lt 0 i)

  -- a number that touches only the pair before it
  pub adds_left : 0 < i → (get_or ps (i - 1) (0, 0)).0 + (get_or ps (i - 1) (0, 0)).1 ≡ n → (i < length ps → ((get_or ps i (0, 0)).0 ≡ n + 1 → ⊥)) → Adds 0 ps n (set ps (i - 1) ((get_or ps (i - 1) (0, 0)).0, (get_or ps (i - 1) (0, 0)).1 + 1))
  adds_left some e apt =
      let j : ℕ = i - 1 in
      let b = at.bound in
      let lt : j < length ps = omega arith in
      let f : j + 1 ≡ i = omega arith in
      let p : Pair = get_or ps j (0, 0) in
      let a = apart_split 0 (take j ps) (p ∷ drop (j + 1) ps) (subst (λ l. apart 0 l ≡ true) (split_at ps j lt) at.gaps) in
      let q = apart_parts (past 0 (take j ps)) p (drop (j + 1) ps) a.1 in
      let on : apart (n + 2) (drop (j + 1) ps) ≡ true = raised ps (j + 1) (p.0 + p.1 + 1) (n + 2) q.rest (λ more. let g : i < length ps = omega arith in let ne = apt g in let nx = at.next g in omega (arith, ap (λ k. (get_or ps k (0, 0)).0) f)) in
      moved ps (set ps j (p.0, p.1 + 1)) _ _ n (split_at ps j lt) (set_at ps j (p.0, p.1 + 1) lt)
      (behind (take j ps) (p ∷ drop (j + 1) ps) ((p.0, p.1 + 1) ∷ drop (j + 1) ps) n (subst (λ l. apart 0 l ≡ true) (split_at ps j lt) at.gaps) (left_mid (past 0 (take j ps)) p (drop (j + 1) ps) n e at.small on))

  -- a number that touches only the pair after it
  pub adds_right : (0 < i → ((get_or ps (i - 1) (0, 0)).0 + (get_or ps (i - 1) (0, 0)).1 ≡ n → ⊥)) → i < length ps → (get_or ps i (0, 0)).0 ≡ n + 1 → Adds 0 ps n (set ps i ((get_or ps i (0, 0)).0 - 1, (get_or ps i (0, 0)).1 + 1))
  adds_right gap lt e =
      let p : Pair = get_or ps i (0, 0) in
      moved ps (set ps i (p.0 - 1, p.1 + 1)) _ _ n (split_at ps i lt) (set_at ps i (p.0 - 1, p.1 + 1) lt)
      (behind (take i ps) (p ∷ drop (i + 1) ps) ((p.0 - 1, p.1 + 1) ∷ drop (i + 1) ps) n (subst (λ l. apart 0 l ≡ true) (split_at ps i lt) at.gaps) (right_mid (past 0 (take i ps)) p (drop (i + 1) ps) n e (past_below gap)))

  -- a number that touches none
  pub adds_lone : (0 < i → ((get_or ps (i - 1) (0, 0)).0 + (get_or ps (i - 1) (0, 0)).1 ≡ n → ⊥)) → (i < length ps → ((get_or ps i (0, 0)).0 ≡ n + 1 → ⊥)) → Adds 0 ps n (insert ps i (n, 1))
  adds_lone gap apt =
      let whole = sym (take-append-drop i ps) in
      moved ps (insert ps i (n, 1)) _ _ n whole refl
      (behind (take i ps) (drop i ps) ((n, 1) ∷ drop i ps) n (subst (λ l. apart 0 l ≡ true) whole at.gaps) (λ h. lone_mid (past 0 (take i ps)) (drop i ps) n (past_below gap) at.small (raised ps i (past 0 (take i ps)) (n + 2) h (λ more. let ne = apt more in let nx = at.next more in omega arith))))

  -- a number that touches two
  pub adds_between : 0 < i → (get_or ps (i - 1) (0, 0)).0 + (get_or ps (i - 1) (0, 0)).1 ≡ n → i < length ps → (get_or ps i (0, 0)).0 ≡ n + 1 → Adds 0 ps n (remove (set ps (i - 1) ((get_or ps (i - 1) (0, 0)).0, (get_or ps (i - 1) (0, 0)).1 + ((get_or ps (i - 1 + 1) (0, 0)).1 + 1))) (i - 1 + 1))
  adds_between some e lt g =
      let j : ℕ = i - 1 in
      let f : j + 1 ≡ i = omega arith in
      let jt : j < length ps = omega arith in
      let p : Pair = get_or ps j (0, 0) in
      let q : Pair = get_or ps (j + 1) (0, 0) in
      let p' : Pair = (p.0, p.1 + (q.1 + 1)) in
      let xs : List Pair = take j ps in
      let ys : List Pair = drop (j + 1 + 1) ps in
      let tail : drop (j + 1) ps ≡ q ∷ ys = drop_more ps (j + 1) (0, 0) (omega arith) in
      let whole : ps ≡ xs ++ (p ∷ q ∷ ys) = split_at ps j jt ∙ ap (λ l. xs ++ (p ∷ l)) tail in
      let put : set ps j p' ≡ xs ++ (p' ∷ q ∷ ys) = set_at ps j p' jt ∙ ap (λ l. xs ++ (p' ∷ l)) tail in
      let front : length xs ≡ j = length-take-le j ps (omega arith) in
      moved ps (remove (set ps j p') (j + 1)) (xs ++ (p ∷ q ∷ ys)) (xs ++ (p' ∷ ys)) n whole (ap (λ l. remove l (j + 1)) put ∙ cut xs p' q ys j front)
      (behind xs (p ∷ q ∷ ys) (p' ∷ ys) n (subst (λ l. apart 0 l ≡ true) whole at.gaps) (join_mid (past 0 xs) p q ys n e (ap (λ k. (get_or ps k (0, 0)).0) f ∙ g)))
    where
      cut : (xs : List Pair) (p q : Pair) (ys : List Pair) (j : ℕ) → length xs ≡ j → remove (xs ++ (p ∷ q ∷ ys)) (j + 1) ≡ xs ++ (p ∷ ys)
      cut xs p q ys j e =
          let one : length (xs ++ (p ∷ [])) ≡ j + 1 = Rattle.std.proofs.lemmas.List.length-append xs (p ∷ []) ∙ omega arith in
          let two : length (xs ++ (p ∷ q ∷ [])) ≡ suc (j + 1) = Rattle.std.proofs.lemmas.List.length-append xs (p ∷ q ∷ []) ∙ omega arith in
          (λ k. (ap (take (j + 1)) (sym (append_assoc xs (p ∷ []) (q ∷ ys))) ∙ take_at (xs ++ (p ∷ [])) (q ∷ ys) (j + 1) one) k ++ (ap (drop (suc (j + 1))) (sym (append_assoc xs (p ∷ q ∷ []) ys)) ∙ drop_at (xs ++ (p ∷ q ∷ [])) ys (suc (j + 1)) two) k) ∙
          append_assoc xs (p ∷ []) ys
