use Rattle.std.proofs.Common.{rules, refl}
use Rattle.photon.specs.Photon.{square_of}
use Rattle.photon.specs.Table.{packed, column_of, columns_of}
use Rattle.photon.proofs.Made.{from_fn_kept}
use Rattle.photon.proofs.table.ColumnsFromRefArrayU832.from.Goals as goal

pub returns : goal.returns
unfolding columns_of
returns c =
    from_fn_kept _ (λ j. packed (column_of (square_of c.args.state.now) j)) (λ captured. captured.0.now) c.args.state.now 8
    (λ j column before after below held told. (search rules, search rules)) _ _ 0 refl c.from_fn.ensures.items
