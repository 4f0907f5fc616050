use Rattle.std.proofs.Common.{◌≡◌, sym}
use Rattle.std.proofs.lemmas.Result.{err_from_is_err_and}
use Rattle.recipe.specs.Verdict.{verdict}
use Rattle.recipe.proofs.Law.{judged}
use Rattle.recipe.proofs.Walk.{fault_told, too_heavy, all_lawful}
use Rattle.recipe.proofs.verdict.judge.Goals as goal

pub returns-in_err-found : goal.returns-in_err-found
returns-in_err-found c =
    let p = err_from_is_err_and c.from_residual.result c.from_residual.ensures.1 in
    let told = fault_told c.args.recipe.now c.in_err-found.field-0.0 (sym c.in_err-found.ensures) in
    let v : c.from_residual.result ≡ verdict c.args.recipe.now = rw (p.1, p.2) told in
    record { value = v; laws = judged c.args.recipe.now _ (λ i. (c.type_inv.recipe i).fits) v }

pub returns-then-found-gt-MOST_GRAMS : goal.returns-then-found-gt-MOST_GRAMS
returns-then-found-gt-MOST_GRAMS c =
    let v = too_heavy c.args.recipe.now c.in_ok-found.found (sym c.in_ok-found.ensures) c.if-found-gt-MOST_GRAMS.true in
    record { value = v; laws = judged c.args.recipe.now _ (λ i. (c.type_inv.recipe i).fits) v }

pub returns : goal.returns
returns c =
    let v = all_lawful c.args.recipe.now c.in_ok-found.found (sym c.in_ok-found.ensures) c.if-found-gt-MOST_GRAMS.false in
    record { value = v; laws = judged c.args.recipe.now _ (λ i. (c.type_inv.recipe i).fits) v }
