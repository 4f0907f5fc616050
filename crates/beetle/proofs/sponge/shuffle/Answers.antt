use Rattle.std.proofs.Common.{◌-◌, ◌/◌, take, refl, ◌∙◌, arith, rules}
use Rattle.std.specs.List.{slice_index}
use Rattle.photon.proofs.Made.{from_fn_same}
use Rattle.beetle.specs.Mode.{shuffled}
use Rattle.beetle.proofs.Shuffles.{length_shuffled, zeros_past}
use Rattle.beetle.proofs.sponge.shuffle.Goals as goal

pub returns : goal.returns
returns g c =
    let law = g.R.Rate.lawful in
    let r = g.R.Rate.BYTES in
    let S = c.args.state.now in
    let long = length_shuffled r (r / 2) S refl (omega arith) (omega arith) in
    from_fn_same _ (slice_index (shuffled r (take r S))) _ 16 (λ i y q below told. (search rules, search rules)) c.from_fn.result 0 c.from_fn.ensures.items
    ∙ zeros_past (shuffled r (take r S)) 16 (16 - r) (omega arith)
