use Rattle.std.proofs.Common.{rules, ◌≡◌, ◌<◌, ℕ, ◌+◌, ◌*◌, ◌-◌, ◌/◌, ◌%◌, ◌^◌, Some, get_or, refl, sym, ap, ◌∙◌, arith}
use lib.Bits.{bit_and, bit_or}
use Rattle.std.specs.List.{fold}
use Rattle.std.specs.Option.{option_map}
use Rattle.std.proofs.lemmas.List.FromFn.{fill_by_all}
use Rattle.std.proofs.iter.runs.Sources.{range_runs_back}
use Rattle.photon.specs.Table.{column_of}
use Rattle.photon.proofs.TableBits.{loaded, downwards}
use Rattle.photon.proofs.table.load_column.Goals as goal

pub returns : goal.returns
unfolding column_of
returns c =
    let h : ℕ → ℕ → ℕ = λ column i. bit_or (column * 16 % 2 ^ 32) (bit_and (get_or c.args.state.now (4 * i + c.args.j / 2) 0 / 2 ^ (4 * (c.args.j % 2))) 15) in
    let run = c.fold.ensures.runs in
    let made : c.fold.result ≡ fold h 0 run.0.items = run.3 h (λ column i next f told. search rules) in
    let source = c.rev.ensures.runs run.0 run.0.seen run.1 in
    let counted = range_runs_back source.0 source.0.seen in
    let taken : source.0.len ≡ 8 = counted.1 (source.2.1 ∙ run.2) ∙ ap (λ range. range.end - range.start) source.1 in
    let long : run.0.len ≡ 8 = sym source.2.0.0 ∙ taken in
    let each : (k : ℕ) → k < 8 → get_or run.0.items k 0 ≡ 7 - k =
    λ k below. let there : Some (get_or run.0.items k 0) ≡ Some (7 - k) =
    sym (run.0.reads k 0 (omega (arith, long, below))) ∙ ap (option_map (λ i. i)) (sym (source.2.0.2 k)) ∙ counted.3 k (omega (arith, taken, below)) ∙ ap (λ range. Some (range.end - 1 - k)) source.1 in
    cc there in
    let items : run.0.items ≡ downwards 8 = fill_by_all (λ k. 7 - k) run.0.items 8 0 (sym run.0.long ∙ long) each in
    made ∙ ap (fold h 0) items ∙ loaded c.args.state.now c.args.j 8 0 c.fits-state c.requires (omega arith) refl
