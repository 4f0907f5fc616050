use Rattle.std.proofs.Common.{◌-◌, List, ℕ, length, get_or, set, sym, ap, ◌∙◌, arith}
use lib.Bits.{bit_xor}
use Rattle.beetle.specs.Blocks.{xored}
use Rattle.beetle.proofs.Xors.{xored_pad, padded_short, padded_full}
use Rattle.beetle.proofs.sponge.Sponge.xor_padded.Goals as goal

pub returns-then-n-BYTES : goal.returns-then-n-BYTES
returns-then-n-BYTES g c =
    let law = g.R.Rate.lawful in
    let is = c.BYTES.ensures in
    let S = c.args.self.now.state in
    let B = c.args.block.now.bytes.now in
    let n = length B in
    ap (λ (s : List ℕ). record c.args.self.now { state = s })
    (ap (λ s. set s n (bit_xor (get_or s n 0) 1)) c.xor.ensures
    ∙ xored_pad S B (g.R.Rate.BYTES - n - 1) (omega arith)
    ∙ sym (ap (xored S) (padded_short g.R.Rate.BYTES B (omega arith))))

pub returns-else-n-BYTES : goal.returns-else-n-BYTES
returns-else-n-BYTES g c =
    let is = c.BYTES.ensures in
    ap (λ (s : List ℕ). record c.args.self.now { state = s })
    (c.xor.ensures ∙ sym (ap (xored c.args.self.now.state) (padded_full g.R.Rate.BYTES c.args.block.now.bytes.now (omega arith))))
