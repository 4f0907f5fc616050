use Rattle.std.proofs.Common.{◌≡◌, length}
use Rattle.beetle.proofs.tests.opens_by_its_tag.Given as goal

abbrev pub invariant-loop-i : goal.invariant-loop-i
invariant-loop-i g l = (length l.sealed ≡ 25) × (length l.out ≡ 9)
