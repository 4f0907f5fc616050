use Rattle.std.proofs.Common.{rules, ◌+◌, ◌*◌}
use Rattle.std.proofs.lemmas.List.{get_or_read}
use Rattle.photon.specs.Photon.{half, square_of}
use Rattle.photon.proofs.cell.SquareFromRefArrayU832.from.Goals as goal

pub returns : goal.returns
unfolding square_of
returns c = c.from_cells.ensures (λ i j. half c.args.state.now (8 * i + j)) (λ i j x row column told. search (rules, get_or_read))
