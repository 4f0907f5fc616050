use Rattle.std.proofs.Common.{◌≡◌}
use Rattle.photon.specs.Photon.{rounds, square_of}
use Rattle.photon.proofs.cell.CellEngineEngine.permute.Given as goal

abbrev pub invariant-loop-constant : goal.invariant-loop-constant
invariant-loop-constant l = l.square.rows ≡ rounds l.constant-index (square_of l.state)
