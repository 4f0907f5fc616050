use Rattle.std.proofs.Common.{◌≡◌, ◌+◌, Ok, Err, List, [], ◌∷◌, get_or, drop, map, ◌∙◌, subst, arith, rules}
use Rattle.std.proofs.lemmas.List.{at_drop_more, drop_all}
use Rattle.register.specs.Cover.{apart_lower, apart_parts}
use Rattle.register.specs.Marked.{numbers_of}
use Rattle.register.specs.Page.{pair_in}
use Rattle.register.specs.Runs.{Pair}
use Rattle.register.proofs.Marking.{MarksAll, marks_none, marks_on, marks_stop}
use Rattle.register.proofs.page.mark_pairs.Given as given
use Rattle.register.proofs.page.mark_pairs.Goals as goal
use Rattle.register.proofs.page.mark_pairs.Goals.{In-loop-pair}

-- the pair at the index, and those after it
abbrev one : (g : given.Over) → In-loop-pair g → Pair
one g c = pair_in (get_or c.args.pairs.now c.loop-pair.pair-index [])

abbrev later : (g : given.Over) → In-loop-pair g → List Pair
later g c = map pair_in (drop (c.loop-pair.pair-index + 1) c.args.pairs.now)

here : (g : given.Over) (c : In-loop-pair g) → map pair_in (drop c.loop-pair.pair-index c.args.pairs.now) ≡ one g c ∷ later g c
here g c = at_drop_more (map pair_in) c.args.pairs.now c.loop-pair.pair-index [] c.loop-pair-test.true

pub returns-in_err-mark_span : goal.returns-in_err-mark_span
returns-in_err-mark_span g c =
    let at = (goal.at.returns-in_err-mark_span g c).In-loop-pair in
    let refused : c.from_residual.result ≡ Err c.in_err-mark_span.field-0.0 = search rules in
    let first = subst (λ p. MarksAll (g.R.Register.meaning c.loop-pair.register) (numbers_of p) (Err c.in_err-mark_span.field-0.0) (g.R.Register.meaning c.mark_span.new.register)) c.from.ensures (record { answer = c.in_err-mark_span.ensures.answer; after = c.mark_span.ensures.after }) in
    let t = c.loop-pair.invariant.rest _ _ (rw (here g at) (marks_stop _ _ (numbers_of (one g at)) _ c.in_err-mark_span.field-0.0 first)) in
    record { answer = refused ∙ t.answer; after = t.after }

pub loop-pair-preserved : goal.loop-pair-preserved
loop-pair-preserved g c =
    let at = (goal.at.loop-pair-preserved g c).In-loop-pair in
    let p = one g at in
    let first = subst (λ p. MarksAll (g.R.Register.meaning c.loop-pair.register) (numbers_of p) (Ok tt) (g.R.Register.meaning c.mark_span.new.register)) c.from.ensures (record { answer = c.in_ok-mark_span.ensures.answer; after = c.mark_span.ensures.after }) in
    record {
      gaps = apart_lower 0 (p.0 + p.1 + 1) (later g at) (omega arith) (apart_parts 0 p (later g at) (rw (here g at) at c.loop-pair.invariant.gaps)).rest;
      rest = λ r m h. c.loop-pair.invariant.rest r m (rw (here g at) (marks_on _ _ (numbers_of p) _ r m first h));
    }

pub returns : goal.returns
returns g c =
    let t = c.loop-pair.invariant.rest _ _ (rw (drop_all c.loop-pair.pair-index c.args.pairs.now c.loop-pair-test.false) (marks_none _)) in
    record { answer = t.answer; after = t.after }
