use Rattle.std.proofs.Common.{◌∙◌}
use Rattle.register.specs.Page.{pair_bytes}
use Rattle.register.proofs.Walk.{next_step}
use Rattle.register.proofs.Writing.{put_at, wrote_more}
use Rattle.register.proofs.page.put_runs.Goals as goal

pub loop-first-preserved : goal.loop-first-preserved
loop-first-preserved g c =
    let u = (g.R.Register.meaning c.args.register.now).used in
    let s = next_step u c.loop-first.from (c.in-Some.first, c.in-Some.len) c.in-Some.ensures.value in
    wrote_more u c.loop-first.from c.loop-first.place c.loop-first.out _ (c.in-Some.first, c.in-Some.len) s c.loop-first.invariant (put_at c.loop-first.out c.copy_from_slice.new.self (pair_bytes (c.in-Some.first, c.in-Some.len)) c.loop-first.place 4 (c.copy_from_slice.ensures.after ∙ c.from.ensures))
