use Rattle.std.proofs.Common.{vec_items}
use Rattle.hexadecimal.proofs.Reading.{Read}
use Rattle.hexadecimal.proofs.decode.Given as goal

abbrev pub invariant-loop-high : goal.invariant-loop-high
invariant-loop-high l = Read l.pairs (vec_items l.bytes) l.high-index
