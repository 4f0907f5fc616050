use Rattle.std.proofs.Common.{rules}
use Rattle.std.specs.Option.{option_map}
use Rattle.recipe.specs.Lines.{says}
use Rattle.recipe.proofs.Parse.{text_back}
use Rattle.recipe.proofs.text.parse_line.Goals as goal

pub returns-in-Some-clause-back : goal.returns-in-Some-clause-back
returns-in-Some-clause-back c = text_back c.args.text.now (option_map says c.parse_dose.result) (search rules)

pub returns-in-Some-strip_prefix-clause-back : goal.returns-in-Some-strip_prefix-clause-back
returns-in-Some-strip_prefix-clause-back c = text_back c.args.text.now (option_map says c.parse_mix.result) (search rules)
