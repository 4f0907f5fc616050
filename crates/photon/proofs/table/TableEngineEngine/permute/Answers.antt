use Rattle.std.proofs.Common.{◌≡◌, ℕ, List, get_or, sym, ap, ◌∙◌, add-one, arith}
use Rattle.std.proofs.lemmas.List.FromFn.{get_or-map-range_with_len}
use Rattle.photon.specs.Photon.{Square, a_round, rounds, square_of, bytes_of, photon256}
use Rattle.photon.specs.Table.{columns_of, constant_of, unpacked}
use Rattle.photon.proofs.TableColumns.{unpacked_rounds}
use Rattle.photon.proofs.table.TableEngineEngine.permute.Goals as goal

pub loop-constant-preserved : goal.loop-constant-preserved
loop-constant-preserved c =
    let s : List ℕ = c.args.state.now in
    let k : ℕ = c.loop-constant.constant-index in
    c.round-columns.ensures k (ap (λ (xs : List ℕ). get_or xs k 0) c.constants-constant-items.ensures ∙ get_or-map-range_with_len constant_of 0 12 k k 0 (omega arith) (omega arith))
    ∙ ap (λ (w : List ℕ). columns_of (a_round (unpacked w) k)) c.loop-constant.invariant
    ∙ ap (λ (X : Square). columns_of (a_round X k)) (unpacked_rounds s k c.fits-state)
    ∙ ap (λ n. columns_of (rounds n (square_of s))) (sym (add-one k))

pub returns : goal.returns
unfolding photon256
returns c =
    let s : List ℕ = c.args.state.now in
    let done : c.loop-constant.constant-index ≡ 12 = omega arith in
    c.into.ensures
    ∙ ap (λ (w : List ℕ). bytes_of (unpacked w)) c.loop-constant.invariant
    ∙ ap bytes_of (unpacked_rounds s c.loop-constant.constant-index c.fits-state)
    ∙ ap (λ n. bytes_of (rounds n (square_of s))) done
