use Rattle.std.proofs.Common.{◌≡◌, ◌+◌, ◌*◌, Err, length, map, sym, ap, ◌∙◌, arith, rules, length-drop}
use Rattle.std.proofs.lemmas.List.{take_rest}
use Rattle.register.specs.Page.{pair_in, page_count, page_pairs, pair_fault, page_fault, refused_at}
use Rattle.register.proofs.Pages.{page_pieces, whole_fault, no_refusal}
use Rattle.register.proofs.page.sound_pairs.Goals as goal
use Rattle.register.proofs.page.sound_pairs.Goals.{After-judge_pairs}

pairs : (c : After-judge_pairs) → map pair_in c.as_chunks.result.0.now ≡ page_pairs c.args.bytes.now
pairs c = page_pieces c.as_chunks.result.0.now _ c.args.bytes.now (take_rest c.args.bytes.now 2) c.as_chunks.ensures.front (omega (arith, c.as_chunks.ensures.back_len, c.in_default-empty.len_below))

fault : (c : After-judge_pairs) → c.judge_pairs.result ≡ refused_at (page_fault c.args.bytes.now)
fault c =
    let bs = c.args.bytes.now in
    let long : length bs ≡ 2 + 4 * page_count bs = omega (arith, c.as_chunks.ensures.front_len, c.as_chunks.ensures.back_len, c.in_default-empty.len_below, c.if-pairs-from.false, c.from.ensures, c.from_le_bytes-count.ensures, length-drop 2 bs, ap length (take_rest bs 2), c.in-len2-up.len_at_least) in
    c.judge_pairs.ensures ∙ ap refused_at (ap (pair_fault 0 2) (pairs c) ∙ sym (whole_fault bs c.in-len2-up.len_at_least long))

pub returns-in_err-judge_pairs-clause-fault : goal.returns-in_err-judge_pairs-clause-fault
returns-in_err-judge_pairs-clause-fault c =
    let refused : c.from_residual.result ≡ Err c.in_err-judge_pairs.field-0.0 = search rules in
    rw refused (sym c.in_err-judge_pairs.was ∙ fault (goal.at.returns-in_err-judge_pairs-clause-fault c).After-judge_pairs)

pub returns-clause-sound : goal.returns-clause-sound
returns-clause-sound c = no_refusal (page_fault c.args.bytes.now) (sym c.in_ok-judge_pairs.was ∙ fault (goal.at.returns-clause-sound c).After-judge_pairs)

pub returns-clause-pairs : goal.returns-clause-pairs
returns-clause-pairs c = pairs (goal.at.returns-clause-pairs c).After-judge_pairs
