use Rattle.std.proofs.Common.{◌≡◌}
use Rattle.photon.specs.Photon.{by_ms}
use Rattle.photon.proofs.cell.mix_column.Given as goal

abbrev pub invariant-loop : goal.invariant-loop
invariant-loop l = l.mixed ≡ by_ms l.counter l.fn.column
