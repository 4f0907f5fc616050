use Rattle.std.proofs.Common.{rules, ◌≡◌, ℕ, List, get_or, set, map, refl, ap, ◌∙◌, arith}
use lib.Bits.{bit_xor}
use Rattle.std.specs.List.{range_with_len}
use Rattle.std.proofs.lemmas.List.FromFn.{get_or-map-range_with_len}
use Rattle.photon.specs.Photon.{shift_rows, sub_cells}
use Rattle.photon.specs.Table.{column_of, unpacked}
use Rattle.photon.proofs.Made.{from_fn_kept}
use Rattle.photon.proofs.TableLinear.{mixed}
use Rattle.photon.proofs.TableRound.{columns_round}
use Rattle.photon.proofs.table.Columns.round.Goals as goal

pub returns : goal.returns
returns c =
    λ k e. let w : List ℕ = c.args.self.0 in
    let next : ℕ → ℕ → ℕ = λ n j. mixed (column_of (shift_rows (sub_cells (unpacked (set w 0 (bit_xor (get_or w 0 0) n))))) j) in
    let made : c.from_fn.result ≡ map (next c.args.constant) (range_with_len 0 8) =
    from_fn_kept _ (next c.args.constant) (λ captured. captured.0.now) (record { 0 = set w 0 (bit_xor (get_or w 0 0) c.args.constant) }) 8
    (λ j column before after below held told. (search rules, search rules)) _ _ 0 refl c.from_fn.ensures.items in
    columns_round w c.from_fn.result k (omega arith) (omega arith)
    (λ j below. ap (λ (v : List ℕ). get_or v j 0) made
    ∙ get_or-map-range_with_len (next c.args.constant) 0 8 j j 0 below (omega arith)
    ∙ ap (λ n. next n j) e)
