use Rattle.std.proofs.Common.{◌≡◌, ◌+◌, ◌-◌, ◌≤◌, length}
use Rattle.register.specs.Runs.{runs_from, run_count}
use Rattle.register.proofs.page.count_runs.Given as goal

abbrev pub invariant-loop-first : goal.invariant-loop-first
invariant-loop-first g l =
    let u = (g.R.Register.meaning l.register).used in
    record { within : l.from ≤ 4096; counted : l.count + length (runs_from u l.from) ≡ run_count u }

abbrev pub decreases-loop-first : goal.decreases-loop-first
decreases-loop-first g l = 4096 - l.from
