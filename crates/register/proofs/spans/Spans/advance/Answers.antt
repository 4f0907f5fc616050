use Rattle.register.specs.Spans.{advanced}
use Rattle.register.proofs.Tables.{pairs_set}
use Rattle.register.proofs.spans.Spans.advance.Goals as goal

pub returns-clause-spans : goal.returns-clause-spans
returns-clause-spans c = pairs_set c.args.self.now.table c.args.self.now.count c.args.i c.advance.new.self advanced c.requires.inside c.advance.ensures
