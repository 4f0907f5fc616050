-- Each register is lawful.
-- Assumes nothing.
use Rattle.std.specs.Prelude.{ℕ, List, true}
use Rattle.std.proofs.Common.{◌≡◌, lit≤}
use Rattle.std.proofs.lemmas.Bool.{and_parts, ltb-true}
use Rattle.register.specs.Chart.{charted, chart_meaning}
use Rattle.register.specs.Cover.{covered_small}
use Rattle.register.specs.Runs.{Lawful, Small, apart}
use Rattle.register.specs.Spans.{listed, span_meaning}
use Rattle.register.specs.declared.spans.Spans.{Spans}

pub charted_small : (words : List ℕ) → Small (charted words)
charted_small words n used = ltb-true n 4096 (and_parts _ _ used).0

pub chart_lawful : (words : List ℕ) → Lawful (chart_meaning words)
chart_lawful words = record { small = charted_small words; roomy = lit≤ tt }

pub span_lawful : (s : Spans) → apart 0 (listed s) ≡ true → Lawful (span_meaning s)
span_lawful s ordered = record { small = covered_small 0 (listed s) ordered; roomy = lit≤ tt }
