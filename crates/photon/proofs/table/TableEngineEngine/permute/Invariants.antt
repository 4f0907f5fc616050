use Rattle.std.proofs.Common.{◌≡◌}
use Rattle.photon.specs.Photon.{rounds, square_of}
use Rattle.photon.specs.Table.{columns_of}
use Rattle.photon.proofs.table.TableEngineEngine.permute.Given as goal

abbrev pub invariant-loop-constant : goal.invariant-loop-constant
invariant-loop-constant l = l.columns.0 ≡ columns_of (rounds l.constant-index (square_of l.state))
