use Rattle.std.proofs.Common.{rules, ◌∙◌}
use lib.Bits.{bit_xor}
use Rattle.std.proofs.lemmas.Iterator.{YieldsList-from_slice, YieldsList-from_zip}
use Rattle.std.proofs.lemmas.Iterator.Consumers.{fold_from_yields_List}
use Rattle.photon.specs.Cells.{last_row}
use Rattle.photon.specs.Field.{times}
use Rattle.photon.proofs.Product.{fold_dot}
use Rattle.photon.proofs.cell.last_cell.Goals as goal

pub returns : goal.returns
returns c =
    fold_from_yields_List _ (λ sum p. bit_xor sum (times p.0 p.1)) 0 c.fold.result c.fold.ensures.ran
    (YieldsList-from_zip (YieldsList-from_slice last_row (cc)) (YieldsList-from_slice c.args.column.now (cc)))
    (λ sum p next f told. search rules)
    ∙ fold_dot last_row c.args.column.now 0
