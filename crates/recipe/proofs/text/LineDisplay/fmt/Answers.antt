use Rattle.std.proofs.Common.{sym, ap, subst}
use Rattle.std.specs.Fmt.{DisplaysOnOk}
use Rattle.recipe.specs.Lines.{says}
use Rattle.recipe.proofs.Show.{unprinted}
use Rattle.recipe.proofs.text.LineDisplay.fmt.Goals as goal

pub returns-in-Err-clause-writes : goal.returns-in-Err-clause-writes
returns-in-Err-clause-writes g c =
    subst (λ o. DisplaysOnOk g.W.Write.write_str_gives c.args.f.now c.write-in-Err.result o c.write-in-Err.new.self)
    (sym (unprinted c.args.self.now c.in-Remark.bytes.now (ap says c.in-Remark.is) c.in-Err.ensures.cases.0)) tt
