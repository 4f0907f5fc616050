use Rattle.std.proofs.Common.{◌≡◌, take}
use Rattle.beetle.specs.Blocks.{xored}
use Rattle.beetle.proofs.sponge.xor.Given as goal

abbrev pub invariant-loop-i : goal.invariant-loop-i
invariant-loop-i l = l.target ≡ xored l.initial.target (take l.i l.bytes)
