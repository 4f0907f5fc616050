-- The verdict by lists of lines. Assumes nothing.
use Rattle.std.proofs.Common.{◌≡◌, ℕ, zero, suc, ◌+◌, ◌<◌, ◌≤◌, true, leb, List, [], ◌∷◌, ◌++◌, length, get_or, Some, None, Ok, Err, Option, Result, sym, refl, ap, ◌∙◌, subst, subst₂, append_assoc, append-nil, zero-add, arith, MatchResult}
use Rattle.std.specs.List.{flat_map, AllByRecursion}
use Rattle.std.proofs.ByRecursion.{All-push}
use Rattle.std.proofs.lemmas.List.{get_or-append-add, flat_map_more, length-append}
use Rattle.std.proofs.lemmas.Bool.{le-leb, lt-leb, leb-true, leb-false, cond-true, cond-false, cond_both}
use Rattle.refusal.specs.declared.Refusal.{Refusal}
use Rattle.refusal.specs.declared.Refusal.TheVariants.{WrongPhase, OverTotal}
use Rattle.recipe.specs.declared.trough.Phase.{Phase}
use Rattle.recipe.specs.declared.trough.Phase.TheVariants.{Empty, Filled, Mixed}
use Rattle.recipe.specs.declared.verdict.Lawful.{Lawful}
use Rattle.recipe.specs.Laws.{followed, Follows, Begins, MayRun, Fault, no_line, wrong_line, wrong_end, too_much, Judged}
use Rattle.recipe.specs.Lines.{Entry, in_range, bytes_of, read_line, Stands}
use Rattle.recipe.specs.Trough.{step_of}
use Rattle.recipe.specs.Verdict.{next, held, entries, total, end_fault, fault, weighed, verdict}
use Rattle.std.proofs.lemmas.Option.{none-some, same_Some}
use Rattle.recipe.proofs.Back.{read_length, read_back, sound}
use Rattle.recipe.proofs.Walk.{some_bytes, held_next, held_bad, ruled, not_empty, stepped}

-- the bytes of lines can be read in one way only
one_way : (es fs : List Entry) → AllByRecursion (λ e. in_range e ≡ true) es → AllByRecursion (λ e. in_range e ≡ true) fs → flat_map bytes_of es ≡ flat_map bytes_of fs → es ≡ fs
one_way [] [] h k p = refl
one_way [] (f ∷ fs) h k p = absurd (none-some (f, flat_map bytes_of fs) (ap read_line p ∙ read_back f (flat_map bytes_of fs) k.0))
one_way (e ∷ es) [] h k p = absurd (none-some (e, flat_map bytes_of es) (ap read_line (sym p) ∙ read_back e (flat_map bytes_of es) h.0))
one_way (e ∷ es) (f ∷ fs) h k p =
    let q = same_Some (e, flat_map bytes_of es) (f, flat_map bytes_of fs) (sym (read_back e (flat_map bytes_of es) h.0) ∙ ap read_line p ∙ read_back f (flat_map bytes_of fs) k.0) in
    let more = one_way es fs h.1 k.1 (ap (λ x. x.1) q) in
    λ i. (q i).0 ∷ more i

abbrev followed_by : List Entry → Option Phase → Option Phase
followed_by es r = elim r [ None ↦ None | Some after ↦ followed after es ]

-- lines that the trough can follow lead the judge past them
abbrev Along : List Entry → Phase → Phase → ℕ → List ℕ → Type 0
Along es from to place rest =
    (fault from place (held (flat_map bytes_of es ++ rest)) ≡ fault to (place + length (flat_map bytes_of es)) (held rest))
    × (entries (held (flat_map bytes_of es ++ rest)) ≡ es ++ entries (held rest))

along_one : (e : Entry) (es : List Entry) (from to : Phase) (place : ℕ) (rest : List ℕ) → in_range e ≡ true → ((after : Phase) (k : ℕ) → followed after es ≡ Some to → Along es after to k rest) → (r : Option Phase) → step_of from e ≡ r → followed_by es r ≡ Some to → Along (e ∷ es) from to place rest
along_one e es from to place rest h ih None q p = absurd (none-some to p)
along_one e es from to place rest h ih (Some after) q p =
    let tail = flat_map bytes_of es ++ rest in
    let size = length (bytes_of e) in
    let first : held (flat_map bytes_of (e ∷ es) ++ rest) ≡ next e (held tail) =
    ap held (append_assoc (bytes_of e) (flat_map bytes_of es) rest) ∙ held_next (bytes_of e ++ tail) (e, tail) (read_back e tail h) in
    let more = ih after (place + size) p in
    let on : place + size + length (flat_map bytes_of es) ≡ place + length (bytes_of e ++ flat_map bytes_of es) = omega (arith, length-append (bytes_of e) (flat_map bytes_of es)) in (
      ap (fault from place) first ∙ ap (stepped place size (held tail)) q ∙ more.0 ∙ ap (λ k. fault to k (held rest)) on,
      ap entries first ∙ ap (λ l. e ∷ l) more.1,
    )

along : (es : List Entry) (from to : Phase) (place : ℕ) (rest : List ℕ) → AllByRecursion (λ e. in_range e ≡ true) es → followed from es ≡ Some to → Along es from to place rest
along [] from to place rest h p =
    let same = same_Some from to p in
    let on : place ≡ place + 0 = omega arith in
    (λ i. fault (same i) (on i) (held rest), refl)
along (e ∷ es) from to place rest h p =
    along_one e es from to place rest h.0 (λ after k q. along es after to k rest h.1 q) (step_of from e) refl p

-- the same from the start of a recipe
module _ (bs : List ℕ) (es : List Entry) (phase : Phase) (rest : List ℕ) (b : Begins bs es rest) (f : Follows es phase) where
  here : fault Empty 0 (held bs) ≡ fault phase (length (flat_map bytes_of es)) (held rest)
  here =
      ap (λ l. fault Empty 0 (held l)) b.bytes ∙ (along es Empty phase 0 rest b.ranges f).0
      ∙ ap (λ k. fault phase k (held rest)) (zero-add (length (flat_map bytes_of es)))

  these : entries (held bs) ≡ es ++ entries (held rest)
  these = ap (λ l. entries (held l)) b.bytes ∙ (along es Empty phase 0 rest b.ranges f).1

  refused_here : (r : Refusal) → fault phase (length (flat_map bytes_of es)) (held rest) ≡ Some r → verdict bs ≡ Err r
  refused_here r p = ap (λ o. ruled o (weighed (entries (held bs)))) (here ∙ p)

weighed_whole : (bs : List ℕ) (es : List Entry) → Begins bs es [] → Follows es Empty → verdict bs ≡ weighed es
weighed_whole bs es b f = ap (λ o. ruled o (weighed (entries (held bs)))) (here bs es Empty [] b f) ∙ ap weighed (these bs es Empty [] b f ∙ append-nil es)

granted : (bs : List ℕ) (es : List Entry) → MayRun bs es → verdict bs ≡ Ok (record { lines = length es; grams = total es })
granted bs es m = weighed_whole bs es m.reads m.empties ∙ cond-true _ _ _ (le-leb (total es) 12_000_000 m.light)

-- bytes
abbrev Bytes : List ℕ → Type 0
Bytes bs = (i : ℕ) → get_or bs i 0 < 256

rest_bytes : (bs front rest : List ℕ) → Bytes bs → bs ≡ front ++ rest → Bytes rest
rest_bytes bs front rest b p i =
    subst (λ x. x < 256) (ap (λ l. get_or l (length front + i) 0) p ∙ get_or-append-add front rest i 0) (b (length front + i))

none_read : (rest : List ℕ) → Bytes rest → ((e : Entry) (after : List ℕ) → Stands e after rest → ⊥) → (r : Option (Entry × List ℕ)) → read_line rest ≡ r → read_line rest ≡ None
none_read rest b n None p = p
none_read rest b n (Some x) p = absurd (n x.0 x.1 (sound rest x b p))

stands_read : (e : Entry) (after rest : List ℕ) → Stands e after rest → read_line rest ≡ Some (e, after)
stands_read e after rest h = ap read_line h.1 ∙ read_back e after h.0

refused : (bs : List ℕ) → Bytes bs → (f : Refusal) → Fault bs f → verdict bs ≡ Err f
refused bs k f (no_line es phase rest b p h n) =
    refused_here bs es phase rest b p _ (ap (fault phase (length (flat_map bytes_of es))) (held_bad rest h (none_read rest (rest_bytes bs (flat_map bytes_of es) rest k b.bytes) n (read_line rest) refl)))
refused bs k f (wrong_line es phase rest b p e after h q) =
    let place = length (flat_map bytes_of es) in
    refused_here bs es phase rest b p _ (ap (fault phase place) (held_next rest (e, after) (stands_read e after rest h)) ∙ ap (stepped place (length (bytes_of e)) (held after)) q)
refused bs k f (wrong_end es phase b p n) =
    refused_here bs es phase [] b p _ (ap (λ l. end_fault (length l) phase) (sym (append-nil (flat_map bytes_of es)) ∙ sym b.bytes) ∙ not_empty (length bs) phase n)
refused bs k f (too_much es b p h) = weighed_whole bs es b p ∙ cond-false _ _ _ (lt-leb (total es) 12_000_000 h)

-- one more line
begins_more : (bs : List ℕ) (es : List Entry) (e : Entry) (after rest : List ℕ) → Begins bs es rest → Stands e after rest → Begins bs (es ++ e ∷ []) after
begins_more bs es e after rest b h = record {
  ranges = All-push (λ x. in_range x ≡ true) es e b.ranges h.0;
  bytes = b.bytes ∙ ap (λ l. flat_map bytes_of es ++ l) h.1 ∙ sym (append_assoc (flat_map bytes_of es) (bytes_of e) after) ∙ ap (λ l. l ++ after) (flat_map_more bytes_of [] es e);
}

more_by : (e : Entry) (es : List Entry) (to then : Phase) → ((after : Phase) → followed after es ≡ Some to → followed after (es ++ e ∷ []) ≡ Some then) → (r : Option Phase) → followed_by es r ≡ Some to → followed_by (es ++ e ∷ []) r ≡ Some then
more_by e es to then ih None p = absurd (none-some to p)
more_by e es to then ih (Some after) p = ih after p

follows_more : (es : List Entry) (e : Entry) (from to then : Phase) → followed from es ≡ Some to → step_of to e ≡ Some then → followed from (es ++ e ∷ []) ≡ Some then
follows_more [] e from to then p q = ap (followed_by []) (ap (λ x. step_of x e) (same_Some from to p) ∙ q)
follows_more (x ∷ es) e from to then p q = more_by e es to then (λ after h. follows_more es e after to then h q) (step_of from x) p

-- from wherever the judge stands, it comes to the end or to a fault
abbrev Settled : List ℕ → List Entry → Option Refusal → Type 0
Settled bs es r = elim r [ None ↦ Begins bs es [] × Follows es Empty | Some f ↦ Fault bs f ]

at_end : (bs : List ℕ) (es : List Entry) (phase : Phase) → Begins bs es [] → Follows es phase → Settled bs (es ++ []) (end_fault (length (flat_map bytes_of es)) phase)
at_end bs es Empty b f = subst (λ l. Begins bs l [] × Follows l Empty) (sym (append-nil es)) (b, f)
at_end bs es Filled b f = subst (λ l. Fault bs (WrongPhase (length l))) (b.bytes ∙ append-nil (flat_map bytes_of es)) (wrong_end es Filled b f (λ p. let z : ◌≡◌ {A = ℕ} 0 1 = cc in omega arith))
at_end bs es Mixed b f = subst (λ l. Fault bs (WrongPhase (length l))) (b.bytes ∙ append-nil (flat_map bytes_of es)) (wrong_end es Mixed b f (λ p. let z : ◌≡◌ {A = ℕ} 0 1 = cc in omega arith))

module _ (bs : List ℕ) (k : Bytes bs) where
  Goal : List Entry → Phase → List ℕ → Type 0
  Goal es phase rest = Settled bs (es ++ entries (held rest)) (fault phase (length (flat_map bytes_of es)) (held rest))

  at_step : (es : List Entry) (phase : Phase) (rest : List ℕ) (e : Entry) (after : List ℕ) → Begins bs es rest → Follows es phase → read_line rest ≡ Some (e, after) → Stands e after rest
      → ((to : Phase) → Begins bs (es ++ e ∷ []) after → Follows (es ++ e ∷ []) to → Goal (es ++ e ∷ []) to after) → (r : Option Phase) → step_of phase e ≡ r → Goal es phase rest
  unfolding Goal
  at_step es phase rest e after b f p h ih None q =
      let place = length (flat_map bytes_of es) in
      subst (λ o. Settled bs (es ++ entries (held rest)) o) (sym (ap (fault phase place) (held_next rest (e, after) p) ∙ ap (stepped place (length (bytes_of e)) (held after)) q))
      (wrong_line es phase rest b f e after h q)
  at_step es phase rest e after b f p h ih (Some to) q =
      let place = length (flat_map bytes_of es) in
      let size = length (bytes_of e) in
      let first = held_next rest (e, after) p in
      let on : place + size ≡ length (flat_map bytes_of (es ++ e ∷ [])) = sym (length-append (flat_map bytes_of es) (bytes_of e)) ∙ ap length (flat_map_more bytes_of [] es e) in
      subst₂ (Settled bs)
      (append_assoc es (e ∷ []) (entries (held after)) ∙ ap (λ l. es ++ entries l) (sym first))
      (sym (ap (fault phase place) first ∙ ap (stepped place size (held after)) q ∙ ap (λ j. fault to j (held after)) on))
      (ih to (begins_more bs es e after rest b h) (follows_more es e Empty phase to f q))

  at_line : (es : List Entry) (phase : Phase) (rest : List ℕ) → 0 < length rest → Begins bs es rest → Follows es phase
      → ((e : Entry) (after : List ℕ) → length after < length rest → (to : Phase) → Begins bs (es ++ e ∷ []) after → Follows (es ++ e ∷ []) to → Goal (es ++ e ∷ []) to after)
      → (r : Option (Entry × List ℕ)) → read_line rest ≡ r → Goal es phase rest
  unfolding Goal
  at_line es phase rest l b f ih None p =
      subst (λ o. Settled bs (es ++ entries (held rest)) o) (sym (ap (fault phase (length (flat_map bytes_of es))) (held_bad rest l p)))
      (no_line es phase rest b f l (λ e after h. none-some (e, after) (sym p ∙ stands_read e after rest h)))
  at_line es phase rest l b f ih (Some x) p =
      let long = read_length rest x p in
      let some = some_bytes x.0 in
      at_step es phase rest x.0 x.1 b f p (sound rest x (rest_bytes bs (flat_map bytes_of es) rest k b.bytes) p) (ih x.0 x.1 (omega arith)) (step_of phase x.0) refl

  settle : (n : ℕ) (es : List Entry) (phase : Phase) (rest : List ℕ) → length rest ≤ n → Begins bs es rest → Follows es phase → Goal es phase rest
  unfolding Goal
  settle n es phase [] h b f = at_end bs es phase b f
  settle zero es phase (c ∷ rest) h b f = absurd (omega arith)
  settle (suc n) es phase (c ∷ rest) h b f =
      at_line es phase (c ∷ rest) (omega arith) b f (λ e after l to. settle n (es ++ e ∷ []) to after (omega arith)) (read_line (c ∷ rest)) refl

-- the verdict of what was settled
ruling : (bs : List ℕ) (es : List Entry) (r : Option Refusal) → Settled bs es r → MatchResult (ruled r (weighed es)) (λ l. (fs : List Entry) × MayRun bs fs) (Fault bs)
ruling bs es None h =
    cond_both (leb (total es) 12_000_000) (Ok (record { lines = length es; grams = total es })) (Err OverTotal)
    (λ r. MatchResult r (λ l. (fs : List Entry) × MayRun bs fs) (Fault bs))
    (λ t. (es, record { reads = h.0; empties = h.1; light = leb-true (total es) 12_000_000 t }))
    (λ f. too_much es h.0 h.1 (leb-false (total es) 12_000_000 f))
ruling bs es (Some f) h = h

pub judged : (bs : List ℕ) (r : Result Lawful Refusal) → ((i : ℕ) → get_or bs i 0 < 256) → r ≡ verdict bs → Judged bs r
unfolding Goal
judged bs r k v = record {
  one_reading = λ es fs b c. one_way es fs b.ranges c.ranges (sym (append-nil (flat_map bytes_of es)) ∙ sym b.bytes ∙ c.bytes ∙ append-nil (flat_map bytes_of fs));
  grants = λ es m. v ∙ granted bs es m;
  refuses = λ f h. v ∙ refused bs k f h;
  tells = subst (λ o. MatchResult o (λ l. (fs : List Entry) × MayRun bs fs) (Fault bs)) (sym v)
      (ruling bs (entries (held bs)) (fault Empty 0 (held bs)) (settle bs k (length bs) [] Empty bs (omega arith) (record { ranges = tt; bytes = refl }) refl));
}
