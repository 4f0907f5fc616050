-- The trough: what a line does to its phase.
-- Assumes nothing.
use Rattle.std.specs.Prelude.{Some, None, Option}
use Rattle.recipe.specs.declared.trough.Phase.{Phase}
use Rattle.recipe.specs.declared.trough.Phase.TheVariants.{Empty, Filled, Mixed}
use Rattle.recipe.specs.Lines.{Entry, dose, mix, empty, remark}

-- the phase that the line leads to, or none if it is wrong for the phase
abbrev pub step_of : Phase → Entry → Option Phase
step_of phase (dose bin grams) = Some Filled
step_of Empty (mix seconds) = None
step_of Filled (mix seconds) = Some Mixed
step_of Mixed (mix seconds) = Some Mixed
step_of Empty empty = None
step_of Filled empty = None
step_of Mixed empty = Some Empty
step_of phase (remark text) = Some phase
