use Rattle.std.proofs.Common.{◌≡◌, length, arith, rules}
use Rattle.register.proofs.Tables.{pairs_inserted}
use Rattle.register.proofs.spans.Spans.insert.Goals as goal

pub returns-clause-spans : goal.returns-clause-spans
returns-clause-spans c =
    let tb = c.args.self.now.table in
    let long : length tb ≡ 64 = search rules in
    pairs_inserted tb c.args.i c.args.self.now.count c.args.span c.rotate_right.new.self c.requires.inside (omega arith) c.rotate_right.ensures.after
