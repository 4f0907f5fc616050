-- What a mark does to a register of spans, by whether the number touches one.
-- Assumes nothing.
use Rattle.std.proofs.Common.{◌≡◌, ℕ, ◌+◌, ◌-◌, ◌<◌, ◌≤◌, true, false, ◌&&◌, eqb, ltb, List, length, set, Ok, Err, sym, ap, ◌∙◌, subst, arith}
use mathlib.Core.Path.{fun_ext}
use Rattle.refusal.specs.declared.Refusal.TheVariants.{TooManyRuns}
use Rattle.std.proofs.lemmas.List.Edits.{length-insert}
use Rattle.std.proofs.lemmas.Bool.{and_parts, and_from, ltb-true, lt-ltb, eqb-true, eq-eqb, false≢true}
use Rattle.std.specs.List.{insert, remove}
use Rattle.register.specs.Runs.{Meaning, Pair, run_count, with_number, covered, apart}
use Rattle.register.specs.Marked.{mark_answer, mark_after}
use Rattle.register.specs.Spans.{advanced, lengthened, listed, pair_at, span_meaning, touches_at, touches_before}
use Rattle.register.specs.declared.spans.Spans.{Spans}
use Rattle.register.proofs.Changes.{Adds, Place, apart_at, adds_left, adds_right, adds_lone, adds_between}
use Rattle.register.specs.Cover.{runs_covered}
use Rattle.register.proofs.Marking.{Marks, granted, too_many}
use Rattle.register.proofs.Tables.{pairs_short}

both_yes : (i c a b : ℕ) → true ≡ (ltb i c && eqb a b) → (i < c) × (a ≡ b)
both_yes i c a b h = let p = and_parts (ltb i c) (eqb a b) (sym h) in (ltb-true i c p.0, eqb-true a b p.1)

both_no : (i c a b : ℕ) → false ≡ (ltb i c && eqb a b) → i < c → a ≡ b → ⊥
both_no i c a b h lt e = false≢true (h ∙ and_from _ _ (lt-ltb i c lt) (eq-eqb a b e))

-- a register that keeps 64 runs, with the numbers of the pairs used
abbrev keeps : List Pair → Meaning
keeps ps = record { used = covered ps; limit = 64 }

module _ (ps qs : List Pair) (n : ℕ) (adds : Adds 0 ps n qs) (small : n < 4096) (out : covered ps n ≡ false) where
  with_n : covered qs ≡ with_number (covered ps) n
  with_n = fun_ext adds.same

  count : run_count (with_number (covered ps) n) ≡ length qs
  count = ap run_count (sym with_n) ∙ ap length (runs_covered qs adds.gaps)

  pub granted_by : length qs ≤ 64 → Marks (keeps ps) n (Ok tt) (keeps qs)
  granted_by le =
      let m = granted (keeps ps) n small out (omega (arith, count)) in
      record { answer = m.answer; after = ap (λ u. record { used = u; limit = 64 }) with_n ∙ m.after }

  pub refused_by : 64 < length qs → Marks (keeps ps) n (Err TooManyRuns) (keeps ps)
  refused_by lt = too_many (keeps ps) n small out (omega (arith, count))

-- the pairs after a number joins two, lengthens the one before it, lets the one after it begin earlier, or stands alone
abbrev pub joined_at : List Pair → ℕ → List Pair
joined_at ps i = remove (set ps (i - 1) (lengthened (pair_at ps (i - 1)) ((pair_at ps (i - 1 + 1)).1 + 1))) (i - 1 + 1)

abbrev pub longer_at : List Pair → ℕ → List Pair
longer_at ps i = set ps (i - 1) (lengthened (pair_at ps (i - 1)) 1)

abbrev pub earlier_at : List Pair → ℕ → List Pair
earlier_at ps i = set ps i (advanced (pair_at ps i))

-- the spans s list the pairs ps and n: they are in order, and the mark of n is granted
pub record Taken (ps : List Pair) (n : ℕ) (s : Spans) : Type 0 where
  pub ordered : apart 0 (listed s) ≡ true
  pub answer : Ok tt ≡ mark_answer (keeps ps) n
  pub after : span_meaning s ≡ mark_after (keeps ps) n

module _ (ps : List Pair) (n i : ℕ) (at : Place ps n i) (out : covered ps n ≡ false) where
  taken : (qs : List Pair) → Adds 0 ps n qs → (s : Spans) → listed s ≡ qs → s.count ≤ 64 → Taken ps n s
  taken qs adds s is few =
      let m = granted_by ps qs n adds at.small out (omega (arith, ap length is, pairs_short s.table s.count)) in
      record {
        ordered = subst (λ l. apart 0 l ≡ true) (sym is) adds.gaps;
        answer = m.answer;
        after = ap keeps is ∙ m.after;
      }

  at_yes : true ≡ touches_at ps i n → (i < length ps) × ((pair_at ps i).0 ≡ n + 1)
  at_yes h = both_yes i (length ps) (pair_at ps i).0 (n + 1) h

  at_no : false ≡ touches_at ps i n → i < length ps → (pair_at ps i).0 ≡ n + 1 → ⊥
  at_no h = both_no i (length ps) (pair_at ps i).0 (n + 1) h

  before_yes : true ≡ touches_before ps i n → (0 < i) × ((pair_at ps (i - 1)).0 + (pair_at ps (i - 1)).1 ≡ n)
  before_yes h = both_yes 0 i _ n h

  before_no : false ≡ touches_before ps i n → 0 < i → (pair_at ps (i - 1)).0 + (pair_at ps (i - 1)).1 ≡ n → ⊥
  before_no h = both_no 0 i _ n h

  -- it touches both
  pub joined : true ≡ touches_before ps i n → true ≡ touches_at ps i n → (s : Spans) → listed s ≡ joined_at ps i → s.count ≤ 64 → Taken ps n s
  joined h k = taken (joined_at ps i) (adds_between ps n i at (before_yes h).0 (before_yes h).1 (at_yes k).0 (at_yes k).1)

  pub joined_short : true ≡ touches_before ps i n → true ≡ touches_at ps i n → (pair_at ps (i - 1)).1 + ((pair_at ps (i - 1 + 1)).1 + 1) < 65536
  joined_short h k =
      let t = before_yes h in
      let s = at_yes k in
      let a = apart_at 0 ps (i - 1) at.gaps (omega arith) in
      let b = apart_at 0 ps (i - 1 + 1) at.gaps (omega arith) in
      omega arith

  -- it touches the one before
  pub longer : true ≡ touches_before ps i n → false ≡ touches_at ps i n → (s : Spans) → listed s ≡ longer_at ps i → s.count ≤ 64 → Taken ps n s
  longer h k = taken (longer_at ps i) (adds_left ps n i at (before_yes h).0 (before_yes h).1 (at_no k))

  -- it touches the one after
  pub earlier : false ≡ touches_before ps i n → true ≡ touches_at ps i n → (s : Spans) → listed s ≡ earlier_at ps i → s.count ≤ 64 → Taken ps n s
  earlier h k = taken (earlier_at ps i) (adds_right ps n i at (before_no h) (at_yes k).0 (at_yes k).1)

  pub earlier_short : true ≡ touches_at ps i n → (pair_at ps i).1 + 1 < 65536
  earlier_short k =
      let s = at_yes k in
      let a = apart_at 0 ps i at.gaps s.0 in
      omega arith

  -- it touches none
  pub alone : false ≡ touches_before ps i n → false ≡ touches_at ps i n → (s : Spans) → listed s ≡ insert ps i (n, 1) → s.count ≤ 64 → Taken ps n s
  alone h k = taken (insert ps i (n, 1)) (adds_lone ps n i at (before_no h) (at_no k))

  pub full : false ≡ touches_before ps i n → false ≡ touches_at ps i n → length ps ≡ 64 → Marks (keeps ps) n (Err TooManyRuns) (keeps ps)
  full h k size = refused_by ps _ n (adds_lone ps n i at (before_no h) (at_no k)) at.small out (omega (arith, length-insert ps i (n, 1) at.bound))
