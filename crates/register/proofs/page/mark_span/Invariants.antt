use Rattle.std.proofs.Common.{◌-◌, Result}
use Rattle.std.specs.List.{range_with_len}
use Rattle.refusal.specs.declared.Refusal.{Refusal}
use Rattle.register.specs.Runs.{Meaning}
use Rattle.register.proofs.Marking.{MarksAll}
use Rattle.register.proofs.page.mark_span.Given as goal

-- marking the rest of the numbers does the rest
abbrev pub invariant-loop-n : goal.invariant-loop-n
invariant-loop-n g l =
    (r : Result (Unit {0}) Refusal) (m : Meaning) → MarksAll (g.R.Register.meaning l.register) (range_with_len l.n (l.n-end - l.n)) r m → MarksAll (g.R.Register.meaning l.initial.register) (range_with_len l.fn.span.first l.fn.span.len) r m
