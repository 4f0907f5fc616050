use Rattle.recipe.specs.Placed.{placed_left}
use Rattle.recipe.proofs.Walk.{Walked}
use Rattle.recipe.proofs.verdict.walk.Given as goal

abbrev pub invariant-loop-placed : goal.invariant-loop-placed
invariant-loop-placed l = Walked l.recipe (placed_left l.placed-iterator) l.phase l.lines l.grams
