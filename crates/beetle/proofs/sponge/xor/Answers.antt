use Rattle.std.proofs.Common.{get_or, set, sym, ap, ◌∙◌, arith}
use lib.Bits.{bit_xor}
use Rattle.beetle.proofs.Xors.{xored_nil, xored_more}
use Rattle.beetle.proofs.sponge.xor.Goals as goal

pub loop-i-init : goal.loop-i-init
loop-i-init c = sym (xored_nil c.args.target.now)

pub loop-i-preserved : goal.loop-i-preserved
loop-i-preserved c =
    ap (λ s. set s c.loop-i.i (bit_xor (get_or s c.loop-i.i 0) (get_or c.args.bytes.now c.loop-i.i 0))) c.loop-i.invariant
    ∙ xored_more c.args.target.now c.args.bytes.now c.loop-i.i (omega arith) c.loop-i-test.true
