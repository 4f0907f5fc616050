use Rattle.register.proofs.Bitmap.{holds_at}
use Rattle.register.proofs.chart.ChartRegister.holds.Goals as goal

-- The check finds this alone. It stands so that wrong code is refused at its goal, and not where a search ends.
pub returns-then-n-lt-NUMBERS : goal.returns-then-n-lt-NUMBERS
returns-then-n-lt-NUMBERS c = rw c.from.ensures (holds_at c.args.self.now.words c.args.n c.if-n-lt-NUMBERS.true)
