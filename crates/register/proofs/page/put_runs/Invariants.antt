use Rattle.std.proofs.Common.{◌-◌}
use Rattle.register.proofs.Writing.{Wrote}
use Rattle.register.proofs.page.put_runs.Given as goal

abbrev pub invariant-loop-first : goal.invariant-loop-first
invariant-loop-first g l = Wrote (g.R.Register.meaning l.register).used l.from l.place l.out

abbrev pub decreases-loop-first : goal.decreases-loop-first
decreases-loop-first g l = 4096 - l.from
