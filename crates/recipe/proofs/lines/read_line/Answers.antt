use Rattle.std.proofs.Common.{◌≡◌, arith}
use Rattle.std.proofs.lemmas.Grind.{common_steps}
use Rattle.recipe.specs.Lines.{given, read_line}
use Rattle.recipe.proofs.Back.{told}
use Rattle.recipe.proofs.lines.read_line.Goals as goal

pub returns-in-D-clause-tells : goal.returns-in-D-clause-tells
returns-in-D-clause-tells c =
    let v : given c.read_dose.result ≡ read_line c.args.recipe.now = grind (arith, common_steps) in
    told c.args.recipe.now _ (λ i. (c.type_inv.recipe i).fits) v

pub returns-in-M-clause-tells : goal.returns-in-M-clause-tells
returns-in-M-clause-tells c =
    let v : given c.read_mix.result ≡ read_line c.args.recipe.now = grind (arith, common_steps) in
    told c.args.recipe.now _ (λ i. (c.type_inv.recipe i).fits) v
