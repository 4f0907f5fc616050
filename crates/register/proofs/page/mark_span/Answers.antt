use Rattle.std.proofs.Common.{◌≡◌, ◌+◌, ◌-◌, suc, Ok, Err, [], ◌∷◌, ◌∙◌, arith, rules}
use Rattle.std.specs.List.{range_with_len}
use Rattle.register.proofs.Marking.{marks_none, marks_one, marks_on, marks_stop}
use Rattle.register.proofs.page.mark_span.Goals as goal

pub returns-in_err-mark : goal.returns-in_err-mark
returns-in_err-mark g c =
    let refused : c.from_residual.result ≡ Err c.in_err-mark.field-0.0 = search rules in
    let more : c.args.span.first + c.args.span.len - c.loop-n.n ≡ suc (c.args.span.first + c.args.span.len - (c.loop-n.n + 1)) = omega (arith, c.loop-n-test.true) in
    let t = c.loop-n.invariant _ _ (rw more (marks_stop _ _ (c.loop-n.n ∷ []) (range_with_len (c.loop-n.n + 1) (c.args.span.first + c.args.span.len - (c.loop-n.n + 1))) c.in_err-mark.field-0.0 (marks_one (g.R.Register.meaning c.loop-n.register) (g.R.Register.meaning c.mark.new.self) c.loop-n.n (Err c.in_err-mark.field-0.0) (record { answer = c.in_err-mark.ensures.answer; after = c.mark.ensures.after })))) in
    record { answer = refused ∙ t.answer; after = t.after }

pub loop-n-preserved : goal.loop-n-preserved
loop-n-preserved g c = λ r m h.
    let more : c.args.span.first + c.args.span.len - c.loop-n.n ≡ suc (c.args.span.first + c.args.span.len - (c.loop-n.n + 1)) = omega (arith, c.loop-n-test.true) in
    c.loop-n.invariant r m (rw more (marks_on _ _ (c.loop-n.n ∷ []) (range_with_len (c.loop-n.n + 1) (c.args.span.first + c.args.span.len - (c.loop-n.n + 1))) r m (marks_one (g.R.Register.meaning c.loop-n.register) (g.R.Register.meaning c.mark.new.self) c.loop-n.n (Ok tt) (record { answer = c.in_ok-mark.ensures.answer; after = c.mark.ensures.after })) h))

pub returns : goal.returns
returns g c =
    let last : c.args.span.first + c.args.span.len - c.loop-n.n ≡ 0 = omega (arith, c.loop-n-test.false) in
    let t = c.loop-n.invariant _ _ (rw last (marks_none _)) in
    record { answer = t.answer; after = t.after }
