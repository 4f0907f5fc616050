use Rattle.std.proofs.Common.{◌≡◌, true, Result, drop, map}
use Rattle.refusal.specs.declared.Refusal.{Refusal}
use Rattle.std.specs.List.{flat_map}
use Rattle.register.specs.Marked.{numbers_of}
use Rattle.register.specs.Page.{pair_in}
use Rattle.register.specs.Runs.{Meaning, apart}
use Rattle.register.proofs.Marking.{MarksAll}
use Rattle.register.proofs.page.mark_pairs.Given as goal

-- marking the rest of the pairs does the rest
abbrev pub invariant-loop-pair : goal.invariant-loop-pair
invariant-loop-pair g l = record {
  gaps : apart 0 (map pair_in (drop l.pair-index l.pairs)) ≡ true;
  rest : (r : Result (Unit {0}) Refusal) (m : Meaning) → MarksAll (g.R.Register.meaning l.register) (flat_map numbers_of (map pair_in (drop l.pair-index l.pairs))) r m → MarksAll (g.R.Register.meaning l.initial.register) (flat_map numbers_of (map pair_in l.pairs)) r m;
}
