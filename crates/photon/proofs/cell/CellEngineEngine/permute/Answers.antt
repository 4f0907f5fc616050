use Rattle.std.proofs.Common.{◌≡◌, ap, ◌∙◌, arith}
use Rattle.photon.specs.Photon.{rounds, square_of, bytes_of, photon256}
use Rattle.photon.proofs.cell.CellEngineEngine.permute.Goals as goal

pub returns : goal.returns
unfolding photon256
returns c =
    let done : c.loop-constant.constant-index ≡ 12 = omega arith in
    c.into.ensures ∙ ap bytes_of (c.loop-constant.invariant ∙ ap (λ n. rounds n (square_of c.args.state.now)) done)
