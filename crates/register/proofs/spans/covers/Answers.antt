use Rattle.std.proofs.Common.{◌∙◌, rules, tests}
use Rattle.std.proofs.lemmas.Iterator.{YieldsList-from_slice}
use Rattle.std.proofs.lemmas.Iterator.Search.{any_from_yields_List}
use Rattle.register.specs.Runs.{within}
use Rattle.register.specs.Spans.{pair_of}
use Rattle.register.proofs.Tables.{covered_any}
use Rattle.register.proofs.spans.covers.Goals as goal

pub returns : goal.returns
returns c =
    any_from_yields_List (λ s. within (pair_of s) c.args.n) _ _ _ c.any.ensures.ran (YieldsList-from_slice c.args.spans.now (cc)) (λ x b q k. search (rules, tests)) ∙
    covered_any c.args.spans.now c.args.n
