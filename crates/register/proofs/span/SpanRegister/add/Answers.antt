use Rattle.std.proofs.Common.{arith}
use Rattle.std.proofs.lemmas.List.{length-map}
use Rattle.register.specs.Spans.{listed, pair_of, pairs_of}
use Rattle.register.proofs.Changes.{Place, place}
use Rattle.register.proofs.Touching.{Taken, joined, joined_short, longer, earlier, earlier_short, alone, full}
use Rattle.register.proofs.span.SpanRegister.add.Goals as goal
use Rattle.register.proofs.span.SpanRegister.add.Goals.{After-touches_at, After-join, After-lengthen, After-advance, After-insert}

-- the place where the number belongs
spot : (c : After-touches_at) → Place (pairs_of c.as_slice-spans.result.now) c.args.n c.before-i.result
spot c =
    let is = c.as_slice-spans.ensures.spans in
    let found = c.before-i.ensures in
    let size = length-map c.as_slice-spans.result.now pair_of in
    place _ c.args.n c.before-i.result (rw is c.args.self.now.ordered) c.requires.small (rw is c.requires.new) (omega arith) found.earlier (λ h. found.later (omega arith))

pub join-requires-clause-short : goal.join-requires-clause-short
join-requires-clause-short c =
    rw c.as_slice-spans.ensures.spans at (joined_short _ _ _ (spot (goal.at.join-requires-clause-short c).After-touches_at) (rw c.as_slice-spans.ensures.spans c.requires.new) c.in-true-true.ensures c.in-true-true.ensures')

-- what each change of the spans does
joins : (c : After-join) → Place (pairs_of c.as_slice-spans.result.now) c.args.n c.before-i.result → Taken (listed c.args.self.now.spans) c.args.n c.join.new.self
joins c at =
    let few = c.args.self.now.few in
    let is = c.as_slice-spans.ensures.spans in
    let count = c.join.ensures.count in
    rw is at (joined _ _ _ at (rw is c.requires.new) c.in-true-true.ensures c.in-true-true.ensures' c.join.new.self (rw is c.join.ensures.spans) (omega arith))

lengthens : (c : After-lengthen) → Place (pairs_of c.as_slice-spans.result.now) c.args.n c.before-i.result → Taken (listed c.args.self.now.spans) c.args.n c.lengthen.new.self
lengthens c at =
    let few = c.args.self.now.few in
    let is = c.as_slice-spans.ensures.spans in
    let count = c.lengthen.ensures.count in
    rw is at (longer _ _ _ at (rw is c.requires.new) c.in-true-false.ensures c.in-true-false.ensures' c.lengthen.new.self (rw is c.lengthen.ensures.spans) (omega arith))

advances : (c : After-advance) → Place (pairs_of c.as_slice-spans.result.now) c.args.n c.before-i.result → Taken (listed c.args.self.now.spans) c.args.n c.advance.new.self
advances c at =
    let few = c.args.self.now.few in
    let is = c.as_slice-spans.ensures.spans in
    let count = c.advance.ensures.count in
    rw is at (earlier _ _ _ at (rw is c.requires.new) c.in-false-true.ensures c.in-false-true.ensures' c.advance.new.self (rw is c.advance.ensures.spans) (omega arith))

inserts : (c : After-insert) → Place (pairs_of c.as_slice-spans.result.now) c.args.n c.before-i.result → Taken (listed c.args.self.now.spans) c.args.n c.insert.new.self
inserts c at =
    let is = c.as_slice-spans.ensures.spans in
    let few = c.args.self.now.few in
    let size = c.as_slice-spans.ensures.count in
    let room = c.if-spans-eq-SPANS.false in
    let count = c.insert.ensures.count in
    rw is at (alone _ _ _ at (rw is c.requires.new) c.in-false-false.ensures c.in-false-false.ensures' c.insert.new.self (rw is c.insert.ensures.spans) (omega arith))

pub invariant_of-self-clause-ordered : goal.invariant_of-self-clause-ordered
invariant_of-self-clause-ordered c = (joins (goal.at.invariant_of-self-clause-ordered c).After-join (spot (goal.at.invariant_of-self-clause-ordered c).After-touches_at)).ordered

pub returns-in-true-true : goal.returns-in-true-true
returns-in-true-true c = let t = joins (goal.at.returns-in-true-true c).After-join (spot (goal.at.returns-in-true-true c).After-touches_at) in record { answer = t.answer; after = t.after }

pub invariant_of-self-in-true-false-clause-ordered : goal.invariant_of-self-in-true-false-clause-ordered
invariant_of-self-in-true-false-clause-ordered c = (lengthens (goal.at.invariant_of-self-in-true-false-clause-ordered c).After-lengthen (spot (goal.at.invariant_of-self-in-true-false-clause-ordered c).After-touches_at)).ordered

pub returns-in-true-false : goal.returns-in-true-false
returns-in-true-false c = let t = lengthens (goal.at.returns-in-true-false c).After-lengthen (spot (goal.at.returns-in-true-false c).After-touches_at) in record { answer = t.answer; after = t.after }

pub advance-requires-clause-short : goal.advance-requires-clause-short
advance-requires-clause-short c =
    rw c.as_slice-spans.ensures.spans at (earlier_short _ _ _ (spot (goal.at.advance-requires-clause-short c).After-touches_at) (rw c.as_slice-spans.ensures.spans c.requires.new) c.in-false-true.ensures')

pub invariant_of-self-in-false-true-clause-ordered : goal.invariant_of-self-in-false-true-clause-ordered
invariant_of-self-in-false-true-clause-ordered c = (advances (goal.at.invariant_of-self-in-false-true-clause-ordered c).After-advance (spot (goal.at.invariant_of-self-in-false-true-clause-ordered c).After-touches_at)).ordered

pub returns-in-false-true : goal.returns-in-false-true
returns-in-false-true c = let t = advances (goal.at.returns-in-false-true c).After-advance (spot (goal.at.returns-in-false-true c).After-touches_at) in record { answer = t.answer; after = t.after }

pub returns-then-spans-eq-SPANS : goal.returns-then-spans-eq-SPANS
returns-then-spans-eq-SPANS c =
    let is = c.as_slice-spans.ensures.spans in
    let size = length-map c.as_slice-spans.result.now pair_of in
    let t = rw is at (full _ _ _ (spot (goal.at.returns-then-spans-eq-SPANS c).After-touches_at) (rw is c.requires.new) c.in-false-false.ensures c.in-false-false.ensures' (omega arith)) in
    record { answer = t.answer; after = t.after }

pub invariant_of-self-in-false-false-clause-ordered : goal.invariant_of-self-in-false-false-clause-ordered
invariant_of-self-in-false-false-clause-ordered c = (inserts (goal.at.invariant_of-self-in-false-false-clause-ordered c).After-insert (spot (goal.at.invariant_of-self-in-false-false-clause-ordered c).After-touches_at)).ordered

pub returns-else-spans-eq-SPANS : goal.returns-else-spans-eq-SPANS
returns-else-spans-eq-SPANS c = let t = inserts (goal.at.returns-else-spans-eq-SPANS c).After-insert (spot (goal.at.returns-else-spans-eq-SPANS c).After-touches_at) in record { answer = t.answer; after = t.after }
