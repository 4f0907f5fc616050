use Rattle.std.proofs.Common.{rules, [], map, ap, ◌∙◌, arith}
use Rattle.photon.specs.Photon.{by_ms, transposed, mix_column_serial}
use Rattle.photon.proofs.Made.{map_same}
use Rattle.photon.proofs.cell.Square.mix_columns.Goals as goal

pub returns : goal.returns
unfolding mix_column_serial
returns c =
    c.transposed.ensures
    ∙ ap transposed (map_same _ (by_ms 8) _ (λ x y held told. search rules) _ _ 8 [] [] (omega arith) c.map.ensures.items ∙ ap (map (by_ms 8)) c.transposed-columns.ensures)
