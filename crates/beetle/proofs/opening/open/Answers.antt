use Rattle.std.proofs.Common.{replicate, sym, ap, ◌∙◌}
use Rattle.std.specs.Result.{is_err}
use Rattle.beetle.proofs.Ends.{zeros_if_refused}
use Rattle.beetle.proofs.Undoing.{laws}
use Rattle.beetle.proofs.opening.open.Goals as goal

pub returns-then-is_err-clause-buffer : goal.returns-then-is_err-clause-buffer
returns-then-is_err-clause-buffer g c =
    c.fill.ensures.after (λ y z. z)
    ∙ ap (λ n. replicate n 0) c.open_without_clearing-answer.auto.out
    ∙ sym (zeros_if_refused (g.E.Engine.permutes c.args.engine.now) g.R.Rate.BYTES c.args.key.now c.args.nonce.now c.args.ad.now c.args.text.now c.args.out.now
    (ap is_err (sym c.open_without_clearing-answer.ensures.answer) ∙ sym c.if-is_err.ensures.value))

pub returns-then-is_err-clause-laws : goal.returns-then-is_err-clause-laws
returns-then-is_err-clause-laws g c = laws

pub returns-else-is_err-clause-laws : goal.returns-else-is_err-clause-laws
returns-else-is_err-clause-laws g c = laws
