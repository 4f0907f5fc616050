use Rattle.std.proofs.Common.{rules, ◌+◌, ◌%◌}
use Rattle.std.proofs.lemmas.List.{get_or_read}
use Rattle.photon.specs.Photon.{cell, shift_rows}
use Rattle.photon.proofs.cell.Square.shift_rows.Goals as goal

pub returns : goal.returns
unfolding shift_rows
returns c = c.from_cells.ensures (λ i j. cell c.args.self.rows i ((j + i) % 8)) (λ i j x row column told. search (rules, get_or_read))
