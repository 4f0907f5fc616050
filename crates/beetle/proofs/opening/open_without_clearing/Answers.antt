use Rattle.std.proofs.Common.{◌≡◌, ◌-◌, ◌<◌, ◌++◌, length, take, drop, Some, None, Err, sym, ap, ◌∙◌, arith, rules, length-drop, length-take}
use Rattle.std.specs.Str.{bytes_eq}
use Rattle.beetle.specs.Outcomes.{Outcome}
use Rattle.beetle.specs.Opening.{ciphertext, tag_in, opening, tag_of}
use Rattle.beetle.proofs.Ends.{open_refused, open_judged, opened_cut, opened_same, opened_differs, zeros_after}
use Rattle.beetle.proofs.opening.open_without_clearing.Given as given
use Rattle.beetle.proofs.opening.open_without_clearing.Goals as goal
use Rattle.beetle.proofs.opening.open_without_clearing.Goals.{After-same_tag}

pub returns-in_err-check_sizes-clause-answer : goal.returns-in_err-check_sizes-clause-answer
returns-in_err-check_sizes-clause-answer g c =
    let gives = open_refused (g.E.Engine.permutes c.args.engine.now) g.R.Rate.BYTES c.args.input.now.key.now c.args.input.now.nonce.now c.args.input.now.ad.now c.args.input.now.text.now c.args.out.now
    _ _ _ c.max.ensures c.saturating_sub-n.ensures (sym c.in_err-check_sizes.ensures.answer) in
    let is : c.from_residual.result ≡ Err c.in_err-check_sizes.field-0.0 = search rules in
    is ∙ sym (ap (λ (o : Outcome). o.answer) gives)

pub returns-in_default-clause-answer : goal.returns-in_default-clause-answer
returns-in_default-clause-answer g c =
    let P = g.E.Engine.permutes c.args.engine.now in
    let r = g.R.Rate.BYTES in
    let short : length c.args.input.now.text.now < 16 = search rules in
    sym (ap (λ (o : Outcome). o.answer) (open_judged P r c.args.input.now.key.now c.args.input.now.nonce.now c.args.input.now.ad.now c.args.input.now.text.now c.args.out.now None
    _ _ c.max.ensures c.saturating_sub-n.ensures (sym c.in_ok-check_sizes.ensures.answer)
    (opened_cut P r c.args.input.now.key.now c.args.input.now.nonce.now c.args.input.now.ad.now c.args.input.now.text.now short)))

-- what the tags' comparison says
tested : (g : given.Over) (c : After-same_tag g)
    → c.same_tag.result ≡ bytes_eq (tag_in c.args.input.now.text.now) (tag_of (g.E.Engine.permutes c.args.engine.now) g.R.Rate.BYTES c.args.input.now.key.now c.args.input.now.nonce.now c.args.input.now.ad.now (ciphertext c.args.input.now.text.now))
unfolding tag_of opening
tested g c =
    let made = tag_of (g.E.Engine.permutes c.args.engine.now) g.R.Rate.BYTES c.args.input.now.key.now c.args.input.now.nonce.now c.args.input.now.ad.now in
    c.same_tag.ensures
    ∙ (λ i. bytes_eq (c.in-Some.ensures.cases.1 i) (c.pass-specified.ensures.tag i))
    ∙ ap (λ v. bytes_eq (tag_in c.args.input.now.text.now) (made v)) c.in-Some.ensures.cases.0

pub returns-then-not-same_tag-clause-answer : goal.returns-then-not-same_tag-clause-answer
returns-then-not-same_tag-clause-answer g c =
    let P = g.E.Engine.permutes c.args.engine.now in
    let r = g.R.Rate.BYTES in
    let long = c.in-Some.ensures.cases.2 in
    let differs = sym (tested g (goal.at.returns-then-not-same_tag-clause-answer g c).After-same_tag) ∙ c.if-not-same_tag.true in
    sym (ap (λ (o : Outcome). o.answer) (open_judged P r c.args.input.now.key.now c.args.input.now.nonce.now c.args.input.now.ad.now c.args.input.now.text.now c.args.out.now None
    _ _ c.max.ensures c.saturating_sub-n.ensures (sym c.in_ok-check_sizes.ensures.answer)
    (opened_differs P r c.args.input.now.key.now c.args.input.now.nonce.now c.args.input.now.ad.now c.args.input.now.text.now (omega arith) differs)))

pub returns : goal.returns
unfolding opening
returns g c =
    let P = g.E.Engine.permutes c.args.engine.now in
    let r = g.R.Rate.BYTES in
    let K = c.args.input.now.key.now in
    let N = c.args.input.now.nonce.now in
    let A = c.args.input.now.ad.now in
    let C = c.args.input.now.text.now in
    let B = c.args.out.now in
    let n = c.saturating_sub-n.result in
    let is = c.saturating_sub-n.ensures in
    let long = c.in-Some.ensures.cases.2 in
    let kept = c.pass-specified.auto.out in
    let M = (opening P r K N A (ciphertext C)).text in
    let same = sym (tested g (goal.at.returns g c).After-same_tag) ∙ c.if-not-same_tag.false in
    let e = open_judged P r K N A C B (Some M) _ _ c.max.ensures is (sym c.in_ok-check_sizes.ensures.answer) (opened_same P r K N A C (omega arith) same) in
    let at : length c.in-Some.ciphertext.now ≡ n = omega arith in
    let text : c.pass-specified.new.out ≡ M ++ drop n B =
    c.pass-specified.ensures.text ∙ (λ i. (opening P r K N A (c.in-Some.ensures.cases.0 i)).text ++ drop (at i) B) in
    let room = c.in_ok-check_sizes.ensures.fits in
    let part : length (take (length c.pass-specified.new.out - n) (drop n c.pass-specified.new.out)) ≡ length B - n = simp (length-take, length-drop) (omega arith) in
    record {
      answer = sym (ap (λ (o : Outcome). o.answer) e);
      granted = zeros_after M B _ _ n _ _ text kept (omega arith) (c.fill.ensures.after (λ y z. z)) part (omega arith)
          ∙ sym (ap (λ (o : Outcome). o.buffer) e);
    }
