use Rattle.std.proofs.Common.{◌≡◌, ◌∷◌, ◌+◌, Ok, Some, min, ap, refl, ◌∙◌, rules}
use Rattle.recipe.specs.Lines.{says}
use Rattle.recipe.specs.Trough.{step_of}
use Rattle.recipe.specs.declared.trough.Phase.TheVariants.{Empty}
use Rattle.recipe.specs.Placed.{placed, placed_left}
use Rattle.recipe.specs.Verdict.{held}
use Rattle.recipe.proofs.Walk.{begun, walks, all_walked}
use Rattle.recipe.proofs.verdict.walk.Goals as goal

pub loop-placed-init : goal.loop-placed-init
loop-placed-init c =
    let left : placed_left c.into_iter-placed-iterator.result ≡ placed 0 (held c.args.recipe.now) = search rules in
    begun _ _ _ left refl

-- The check finds this and the next alone. They stand so that wrong code is refused at its goal, and not where a search ends.
pub returns : goal.returns
returns c =
    let empty : c.loop-placed.phase ≡ Empty = search rules in
    all_walked c.loop-placed.invariant c.in-None.ensures.steps.0 empty

pub loop-placed-preserved : goal.loop-placed-preserved
loop-placed-preserved c =
    let left : placed_left c.loop-placed.placed-iterator ≡ Ok (c.in_ok-place.place, says c.in_ok-place.line) ∷ placed_left c.next.new.self = search rules in
    let step : step_of c.loop-placed.phase (says c.in_ok-place.line) ≡ Some c.in_ok-phase.phase = search rules in
    walks c.loop-placed.invariant _ _ _ left _ step _ (c.saturating_add-grams.ensures ∙ ap (λ g. min (c.loop-placed.grams + g) 4_294_967_295) c.grams.ensures)
