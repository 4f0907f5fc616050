use Rattle.std.proofs.Common.{ap, arith}
use Rattle.std.specs.Option.{option_map}
use Rattle.recipe.specs.Lines.{says}
use Rattle.recipe.proofs.Show.{not_plain, numbered}
use Rattle.recipe.proofs.Parse.{unsplit, no_bin, no_grams, one_dose}
use Rattle.recipe.proofs.text.parse_dose.Goals as goal

pub returns-in_err-bin : goal.returns-in_err-bin
returns-in_err-bin c = unsplit _ _ c.split_once.ensures.cases _ c.in_err-bin.was (ap (option_map says) c.from_residual.ensures)

pub returns-in_err-plain : goal.returns-in_err-plain
returns-in_err-plain c =
    no_bin _ _ c.split_once.ensures.cases _ (c.in_ok-bin.bin, c.in_ok-bin.grams) c.in_ok-bin.was (ap (option_map says) c.from_residual-in_err-plain.ensures)
    (λ n h k. not_plain _ c.in_err-plain.ensures n h (omega arith))

pub returns-in_err-bin-2 : goal.returns-in_err-bin-2
returns-in_err-bin-2 c =
    no_bin _ _ c.split_once.ensures.cases _ (c.in_ok-bin.bin, c.in_ok-bin.grams) c.in_ok-bin.was (ap (option_map says) c.from_residual-in_err-bin-2.ensures)
    (numbered 8 (λ n h. omega arith) _ _ _ _ _ c.in_ok-plain.ensures c.parse.ensures.value.0 c.ok.ensures.value c.in_err-bin-2.was)

pub returns-in_err-plain-2 : goal.returns-in_err-plain-2
returns-in_err-plain-2 c =
    no_grams _ _ c.split_once.ensures.cases _ (c.in_ok-bin.bin, c.in_ok-bin.grams) c.in_ok-bin.was (ap (option_map says) c.from_residual-in_err-plain-2.ensures)
    (λ n h k. not_plain _ c.in_err-plain-2.ensures n h (omega arith))

pub returns-in_err-grams : goal.returns-in_err-grams
returns-in_err-grams c =
    no_grams _ _ c.split_once.ensures.cases _ (c.in_ok-bin.bin, c.in_ok-bin.grams) c.in_ok-bin.was (ap (option_map says) c.from_residual-in_err-grams.ensures)
    (numbered 32 (λ n h. omega arith) _ _ _ _ _ c.in_ok-plain-2.ensures c.parse-2.ensures.value.0 c.ok-2.ensures.value c.in_err-grams.was)

pub returns : goal.returns
returns c =
    one_dose _ _ c.split_once.ensures.cases _ (c.in_ok-bin.bin, c.in_ok-bin.grams) c.in_ok-bin.was c.in_ok-bin-2.bin c.in_ok-grams.grams (omega arith) (omega arith) c.checked.ensures
    (numbered 8 (λ n h. omega arith) _ _ _ _ _ c.in_ok-plain.ensures c.parse.ensures.value.0 c.ok.ensures.value c.in_ok-bin-2.was)
    (numbered 32 (λ n h. omega arith) _ _ _ _ _ c.in_ok-plain-2.ensures c.parse-2.ensures.value.0 c.ok-2.ensures.value c.in_ok-grams.was)
