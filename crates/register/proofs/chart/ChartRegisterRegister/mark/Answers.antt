use Rattle.std.proofs.Common.{◌≡◌, length, sym, ap, ◌∙◌, rules}
use Rattle.register.specs.Chart.{chart_meaning, charted}
use Rattle.register.specs.Runs.{Meaning, Numbers}
use Rattle.register.proofs.Bitmap.{charted_set}
use Rattle.register.specs.Cover.{at_most_2048_runs}
use Rattle.register.specs.LawfulRegisters.{charted_small}
use Rattle.register.proofs.Marking.{granted, with_small}
use Rattle.register.proofs.chart.ChartRegisterRegister.mark.Goals as goal

abbrev with_used : Numbers → Meaning
with_used u = record { used = u; limit = 2048 }

pub returns : goal.returns
returns c =
    let ws = c.args.self.now.words in
    let n = c.args.n in
    let new = c.in_ok-check_new.ensures.small in
    let long : length ws ≡ 64 = search rules in
    let m = granted (chart_meaning ws) n new (sym c.holds.ensures ∙ c.in_ok-check_new.ensures.new) (at_most_2048_runs _ (with_small (charted ws) n new (charted_small ws))) in
    record { answer = m.answer; after = rw c.from.ensures (ap with_used (charted_set ws n new long) ∙ m.after) }
