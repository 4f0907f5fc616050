use Rattle.register.specs.Spans.{lengthened}
use Rattle.register.proofs.Tables.{pairs_set}
use Rattle.register.proofs.spans.Spans.lengthen.Goals as goal

pub returns-clause-spans : goal.returns-clause-spans
returns-clause-spans c = pairs_set c.args.self.now.table c.args.self.now.count c.args.i c.grow.new.self (λ p. lengthened p c.args.by) c.requires.inside c.grow.ensures
