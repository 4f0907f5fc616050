use Rattle.std.proofs.Common.{ap, [], map}
use Rattle.std.specs.List.{range_with_len}
use Rattle.photon.specs.Photon.{square}
use Rattle.photon.proofs.Made.{from_fn_same}
use Rattle.photon.proofs.cell.Square.from_cells.Goals as goal

pub returns : goal.returns
unfolding square
returns g c =
    λ f each. from_fn_same _ (λ i. map (f i) (range_with_len 0 8)) _ 8
    (λ i row held below told. (ap (λ rule. record { 0 = rule }) told.met.0, told.met.1 (f i) (λ j x inside. each i j x below inside)))
    _ [] c.from_fn.ensures.items
