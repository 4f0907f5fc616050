use Rattle.std.proofs.Common.{ap, arith}
use Rattle.std.specs.Option.{option_map}
use Rattle.recipe.specs.Lines.{says}
use Rattle.recipe.proofs.Show.{not_plain, numbered}
use Rattle.recipe.proofs.Parse.{no_mix, one_mix}
use Rattle.recipe.proofs.text.parse_mix.Goals as goal

pub returns-in_err-plain : goal.returns-in_err-plain
returns-in_err-plain c =
    no_mix _ _ (ap (option_map says) c.from_residual.ensures) (λ n h k. not_plain _ c.in_err-plain.ensures n h (omega arith))

pub returns-in_err-seconds : goal.returns-in_err-seconds
returns-in_err-seconds c =
    no_mix _ _ (ap (option_map says) c.from_residual-in_err-seconds.ensures)
    (numbered 16 (λ n h. omega arith) _ _ _ _ _ c.in_ok-plain.ensures c.parse.ensures.value.0 c.ok.ensures.value c.in_err-seconds.was)

pub returns : goal.returns
returns c =
    one_mix _ _ c.in_ok-seconds.seconds (omega arith) c.checked.ensures
    (numbered 16 (λ n h. omega arith) _ _ _ _ _ c.in_ok-plain.ensures c.parse.ensures.value.0 c.ok.ensures.value c.in_ok-seconds.was)
