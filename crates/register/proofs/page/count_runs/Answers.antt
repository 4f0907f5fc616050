use Rattle.std.proofs.Common.{length, ap, arith}
use Rattle.register.specs.Cover.{at_most_2048_runs}
use Rattle.register.proofs.Walk.{Step, next_step}
use Rattle.register.proofs.page.count_runs.Given as given
use Rattle.register.proofs.page.count_runs.Goals as goal
use Rattle.register.proofs.page.count_runs.Goals.{In-Some}

step : (g : given.Over) (c : In-Some g) → Step (g.R.Register.meaning c.args.register.now).used c.loop-first.from (c.in-Some.first, c.in-Some.len)
step g c = next_step (g.R.Register.meaning c.args.register.now).used c.loop-first.from (c.in-Some.first, c.in-Some.len) c.in-Some.ensures.value

pub overflow_add-count : goal.overflow_add-count
overflow_add-count g c =
    let s = step g (goal.at.overflow_add-count g c).In-Some in
    let few = at_most_2048_runs (g.R.Register.meaning c.args.register.now).used (g.met.R.Register.lawful c.args.register.now).small in
    record { fits = omega (arith, ap length s.from, c.loop-first.invariant.counted) }

pub loop-first-preserved : goal.loop-first-preserved
loop-first-preserved g c =
    let s = step g (goal.at.loop-first-preserved g c).In-Some in
    record { within = s.high; counted = omega (arith, ap length s.from, c.loop-first.invariant.counted) }
