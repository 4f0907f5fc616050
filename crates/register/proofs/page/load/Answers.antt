use Rattle.std.proofs.Common.{◌≡◌, [], Err, is_some, sym, ap, ◌∙◌, arith, rules}
use mathlib.Core.Path.{fun_ext}
use Rattle.register.specs.Page.{page, page_pairs}
use Rattle.register.specs.Runs.{run_count}
use Rattle.register.proofs.Loading.{pairs_granted}
use Rattle.register.proofs.Pages.{Loads, bad_page, load_granted, faultless, page_back, written_pages_load, blank_is_empty}
use Rattle.register.proofs.Walk.{has_none}
use Rattle.register.proofs.page.load.Given as given
use Rattle.register.proofs.page.load.Goals as goal
use Rattle.register.proofs.page.load.Goals.{Else-is_some, After-from_residual}

-- past the first test the register has no run
none : (g : given.Over) (c : Else-is_some g) → run_count (g.R.Register.meaning c.args.register.now).used ≡ 0
none g c = has_none (g.R.Register.meaning c.args.register.now).used (c.if-is_some.ensures ∙ ap is_some c.next_run.ensures.value)

faulty : (g : given.Over) (c : After-from_residual g) → run_count (g.R.Register.meaning c.args.register.now).used ≡ 0 → Loads (g.R.Register.meaning c.args.register.now) c.args.bytes.now c.from_residual.result (g.R.Register.meaning c.args.register.now)
faulty g c none =
    let refused : c.from_residual.result ≡ Err c.in_err-pairs.field-0.0 = search rules in
    bad_page _ _ c.from_residual.result c.in_err-pairs.field-0.0 none refused c.in_err-pairs.ensures.fault

pub returns-in_err-pairs-clause-answer : goal.returns-in_err-pairs-clause-answer
returns-in_err-pairs-clause-answer g c = let a = goal.at.returns-in_err-pairs-clause-answer g c in (faulty g a.After-from_residual (none g a.Else-is_some)).answer

pub returns-in_err-pairs-clause-after : goal.returns-in_err-pairs-clause-after
returns-in_err-pairs-clause-after g c = let a = goal.at.returns-in_err-pairs-clause-after g c in (faulty g a.After-from_residual (none g a.Else-is_some)).after

pub mark_pairs-requires : goal.mark_pairs-requires
mark_pairs-requires g c = rw c.in_ok-pairs.ensures.pairs (faultless c.args.bytes.now c.in_ok-pairs.ensures.sound).gaps

pub returns : goal.returns
returns g c =
    let m = g.R.Register.meaning c.args.register.now in
    let bs = c.args.bytes.now in
    let f = c.in_ok-pairs.ensures in
    let sound = faultless bs f.sound in
    let empty = none g (goal.at.returns g c).Else-is_some in
    let limit = c.from.ensures ∙ c.limit.ensures in
    let t = pairs_granted (page_pairs bs) [] m (fun_ext ((blank_is_empty m.used (g.met.R.Register.lawful c.args.register.now).small).0 empty)) sound.gaps (omega (arith, f.count, sound.count)) in
    let l = load_granted m bs empty f.sound (omega (arith, f.count)) in
    let after = (rw f.pairs at c.mark_pairs.ensures.after) ∙ sym t.after in
    record {
      answer = (rw f.pairs at c.mark_pairs.ensures.answer) ∙ sym t.answer ∙ l.answer;
      after = after ∙ l.after;
      back = λ _. ap (λ n. page n.used) after ∙ page_back bs sound (λ k. (c.type_inv.bytes k).fits);
      written = written_pages_load;
      blank = blank_is_empty;
    }
