use Rattle.std.proofs.Common.{rules, cond, slice_index, nat_eq}
use lib.Bits.{bit_xor}
use Rattle.std.proofs.lemmas.List.{get_or_read}
use Rattle.photon.specs.Photon.{cell, round_constants, row_constants, add_constant}
use Rattle.photon.proofs.cell.Square.add_constant.Goals as goal

pub returns : goal.returns
unfolding add_constant
returns c =
    λ k e. c.from_cells.ensures
    (λ i j. cond (nat_eq j 0) (bit_xor (bit_xor (cell c.args.self.rows i 0) (slice_index round_constants k)) (slice_index row_constants i)) (cell c.args.self.rows i j))
    (λ i j x row column told. search (rules, get_or_read, e))
