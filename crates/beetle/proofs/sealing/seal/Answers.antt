use Rattle.std.proofs.Common.{◌≡◌, ◌+◌, ◌-◌, ◌++◌, length, drop, Err, sym, ap, ◌∙◌, arith, rules}
use Rattle.beetle.specs.Outcomes.{Outcome}
use Rattle.beetle.specs.Sealing.{sealing, sealed}
use Rattle.beetle.proofs.Ends.{seal_refused, seal_granted, tag_after}
use Rattle.beetle.proofs.sealing.seal.Goals as goal

pub returns-in_err-check_sizes : goal.returns-in_err-check_sizes
returns-in_err-check_sizes g c =
    let gives = seal_refused (g.E.Engine.permutes c.args.engine.now) g.R.Rate.BYTES c.args.key.now c.args.nonce.now c.args.ad.now c.args.text.now c.args.out.now
    _ _ c.max.ensures (sym c.in_err-check_sizes.ensures.answer) in
    let is : c.from_residual.result ≡ Err c.in_err-check_sizes.field-0.0 = search rules in
    record {
      answer = is ∙ sym (ap (λ (o : Outcome). o.answer) gives);
      buffer = sym (ap (λ (o : Outcome). o.buffer) gives);
    }

pub returns : goal.returns
unfolding sealed sealing
returns g c =
    let M = c.args.text.now in
    let B = c.args.out.now in
    let n = length M in
    let C = (sealing (g.E.Engine.permutes c.args.engine.now) g.R.Rate.BYTES c.args.key.now c.args.nonce.now c.args.ad.now M).text in
    let gives = seal_granted (g.E.Engine.permutes c.args.engine.now) g.R.Rate.BYTES c.args.key.now c.args.nonce.now c.args.ad.now M B
    _ c.max.ensures (sym c.in_ok-check_sizes.ensures.answer) in
    let fits = c.in_ok-check_sizes.ensures.fits in
    record {
      answer = sym (ap (λ (o : Outcome). o.answer) gives);
      buffer =
          tag_after C B _ _ n (n + 16 - n) c.pass-tag.ensures.text c.pass-tag.auto.out (omega arith) (omega arith)
          ∙ ap (λ t. (C ++ t) ++ drop (n + 16) B) (c.copy_from_slice.ensures.after ∙ c.pass-tag.ensures.tag)
          ∙ sym (ap (λ (o : Outcome). o.buffer) gives);
    }
