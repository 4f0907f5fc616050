use Rattle.std.proofs.Common.{◌≡◌, rules}
use Rattle.recipe.specs.Lines.{says, writing, written}
use Rattle.recipe.proofs.Back.{written_back}
use Rattle.recipe.proofs.lines.write_line.Goals as goal

pub returns-in-Dose-clause-back : goal.returns-in-Dose-clause-back
returns-in-Dose-clause-back c =
    let v : c.cover.result ≡ writing (says c.args.line) c.args.out.now = search rules in
    let a : c.cover.new.out ≡ written (says c.args.line) c.args.out.now = search rules in
    written_back (says c.args.line) c.args.out.now _ _ v a
