use Rattle.std.proofs.Common.{ℕ, ◌+◌, ◌*◌, List, get_or, ap, ◌∙◌, arith}
use Rattle.std.proofs.lemmas.List.FromFn.{get_or-map-range_with_len}
use Rattle.photon.specs.Table.{entry_of}
use Rattle.photon.proofs.table.Columns.entry.Goals as goal

pub returns : goal.returns
returns c =
    let k : ℕ = 256 * c.args.t + c.turned.result in
    ap (λ (xs : List ℕ). get_or xs k 0) c.table.ensures
    ∙ get_or-map-range_with_len entry_of 0 1024 k k 0 (omega arith) (omega arith)
    ∙ ap (λ n. entry_of (256 * c.args.t + n)) c.turned.ensures.value
