use Rattle.std.proofs.Common.{◌≡◌, take, string_bytes}
use Rattle.hexadecimal.specs.Hex.{hex_of}
use Rattle.hexadecimal.proofs.encode.Given as goal

abbrev pub invariant-loop-b : goal.invariant-loop-b
invariant-loop-b l = string_bytes l.text ≡ hex_of (take l.b-index l.bytes)
