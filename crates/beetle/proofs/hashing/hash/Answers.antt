use Rattle.std.proofs.Common.{◌≡◌, ◌++◌, drop, Err, sym, ap, ◌∙◌, rules, length-take-le}
use Rattle.beetle.specs.Outcomes.{Outcome}
use Rattle.beetle.specs.Hashing.{digest, squeezed}
use Rattle.beetle.proofs.Digests.{digest_bytes}
use Rattle.beetle.proofs.Ends.{hash_refused, hash_granted}
use Rattle.beetle.proofs.hashing.hash.Goals as goal

pub returns-in_err-check_sizes : goal.returns-in_err-check_sizes
returns-in_err-check_sizes g c =
    let gives = hash_refused (g.E.Engine.permutes c.args.engine.now) c.args.text.now c.args.out.now _ (sym c.in_err-check_sizes.ensures.answer) in
    let is : c.from_residual.result ≡ Err c.in_err-check_sizes.field-0.0 = search rules in
    record {
      answer = is ∙ sym (ap (λ (o : Outcome). o.answer) gives);
      buffer = sym (ap (λ (o : Outcome). o.buffer) gives);
      whole = digest_bytes;
    }

pub copy_from_slice-requires : goal.copy_from_slice-requires
copy_from_slice-requires g c = length-take-le 32 c.args.out.now c.in_ok-check_sizes.ensures.fits ∙ sym c.squeeze-digest.ensures.len

pub returns : goal.returns
unfolding digest
returns g c =
    let gives = hash_granted (g.E.Engine.permutes c.args.engine.now) c.args.text.now c.args.out.now (sym c.in_ok-check_sizes.ensures.answer) in
    let B = c.args.out.now in
    record {
      answer = sym (ap (λ (o : Outcome). o.answer) gives);
      buffer =
          (λ i. c.copy_from_slice.ensures.after i ++ drop 32 B)
          ∙ (λ i. c.squeeze-digest.ensures.value i ++ drop 32 B)
          ∙ (λ i. squeezed (g.E.Engine.permutes (c.take_in.ensures.engine i)) (c.take_in.ensures.state i) ++ drop 32 B)
          ∙ sym (ap (λ (o : Outcome). o.buffer) gives);
      whole = digest_bytes;
    }
