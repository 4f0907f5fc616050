use Rattle.std.proofs.Common.{rules}
use Rattle.std.proofs.lemmas.List.{get_or_read}
use Rattle.photon.specs.Photon.{cell, transposed}
use Rattle.photon.proofs.cell.Square.transposed.Goals as goal

pub returns : goal.returns
unfolding transposed
returns c = c.from_cells.ensures (λ i j. cell c.args.self.rows j i) (λ i j x row column told. search (rules, get_or_read))
