use Rattle.std.proofs.Common.{sym, ◌∙◌}
use Rattle.std.proofs.lemmas.Bool.{le-ltb}
use Rattle.register.specs.Cover.{covered_small, unused_past}
use Rattle.register.specs.Spans.{listed}
use Rattle.register.proofs.span.SpanRegister.holds.Goals as goal

-- no span holds a number above 4,095
pub returns-else-n-lt-NUMBERS : goal.returns-else-n-lt-NUMBERS
returns-else-n-lt-NUMBERS c =
    let r = c.args.self.now in
    le-ltb _ _ c.if-n-lt-NUMBERS.false ∙ sym (unused_past _ (covered_small 0 (listed r.spans) r.ordered) c.args.n c.if-n-lt-NUMBERS.false)
