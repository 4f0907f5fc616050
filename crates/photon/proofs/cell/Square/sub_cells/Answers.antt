use Rattle.std.proofs.Common.{rules, slice_index}
use Rattle.std.proofs.lemmas.List.{get_or_read}
use Rattle.photon.specs.Photon.{cell, s_box, sub_cells}
use Rattle.photon.proofs.cell.Square.sub_cells.Goals as goal

pub returns : goal.returns
unfolding sub_cells
returns c = c.from_cells.ensures (λ i j. slice_index s_box (cell c.args.self.rows i j)) (λ i j x row column told. search (rules, get_or_read))
