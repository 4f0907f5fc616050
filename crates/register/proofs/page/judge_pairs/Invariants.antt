use Rattle.std.proofs.Common.{◌≡◌, ◌+◌, ◌*◌, drop, map}
use Rattle.register.specs.Page.{pair_fault, pair_in}
use Rattle.register.proofs.page.judge_pairs.Given as goal

abbrev pub invariant-loop-i : goal.invariant-loop-i
invariant-loop-i l = pair_fault l.least (2 + 4 * l.i) (map pair_in (drop l.i l.pairs)) ≡ pair_fault 0 2 (map pair_in l.pairs)
