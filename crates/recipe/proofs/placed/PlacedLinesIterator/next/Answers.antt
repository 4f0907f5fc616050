use Rattle.std.proofs.Common.{◌<◌, ◌-◌, [], length, refl, ap, sym, arith, rules}
use Rattle.recipe.specs.Lines.{says}
use Rattle.recipe.proofs.Walk.{placed_bad, placed_next}
use Rattle.recipe.proofs.placed.PlacedLinesIterator.next.Goals as goal

-- The check finds this alone. It stands so that wrong code is refused at its goal, and not where a search ends.
-- The lemmas are given to a tactic, so that right code is taken in another form too.
pub returns-in_default-clause-steps : goal.returns-in_default-clause-steps
returns-in_default-clause-steps c =
    let some : 0 < length c.args.self.now.rest.now = search rules in
    let bad = placed_bad (length c.args.self.now.recipe.now - length c.args.self.now.rest.now) c.args.self.now.rest.now some (sym c.in_default.ensures.value) (length c.args.self.now.recipe.now - 0) [] refl in
    grind (arith, bad)

pub returns-clause-steps : goal.returns-clause-steps
returns-clause-steps c =
    let step = placed_next c.args.self.now.recipe.now c.args.self.now.rest.now (says c.in-Some.line) c.in-Some.after.now c.args.self.now.rest_of_recipe (sym c.in-Some.ensures.value) in
    grind (arith, step)

pub returns-clause-goes : goal.returns-clause-goes
returns-clause-goes c =
    let items = ap length (returns-clause-steps c) in
    record { on = λ _. (tt, tt, omega arith); keeps = tt; rests = λ _. tt }
