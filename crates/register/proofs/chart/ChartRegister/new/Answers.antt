use Rattle.std.proofs.Common.{ap}
use Rattle.register.specs.Runs.{Meaning, Numbers}
use Rattle.register.proofs.Bitmap.{blank_chart}
use Rattle.register.specs.Cover.{at_most_2048_runs}
use Rattle.register.proofs.chart.ChartRegister.new.Goals as goal

with_used : Numbers → Meaning
with_used u = record { used = u; limit = 2048 }

pub returns : goal.returns
unfolding with_used
returns c = record { blank = ap with_used blank_chart; enough = at_most_2048_runs }
