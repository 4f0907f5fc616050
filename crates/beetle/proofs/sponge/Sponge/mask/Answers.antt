use Rattle.std.proofs.Common.{◌-◌, ◌/◌, take, replicate, refl, ap, ◌∙◌, arith, take_at, get_or-set_other, get_or-set_same, below_more}
use Rattle.beetle.specs.Mode.{shuffled}
use Rattle.beetle.proofs.Shuffles.{length_shuffled, masked_by}
use Rattle.beetle.proofs.sponge.Sponge.mask.Goals as goal

pub loop-i-preserved : goal.loop-i-preserved
loop-i-preserved g c =
    below_more _ _
    (λ k l. get_or-set_other c.loop-i.out c.loop-i.i k _ 0 (omega arith) ∙ c.loop-i.invariant k l)
    (get_or-set_same c.loop-i.out c.loop-i.i _ 0 (omega arith))

pub returns : goal.returns
returns g c =
    let law = g.R.Rate.lawful in
    let within = c.args.block.now.within in
    let r = g.R.Rate.BYTES in
    let S = c.args.self.now.state in
    let long = length_shuffled r (r / 2) S refl (omega arith) (omega arith) in
    let front = ap (take r) c.shuffle-key.ensures ∙ take_at (shuffled r (take r S)) (replicate (16 - r) 0) r long in
    masked_by r S c.args.block.now.bytes.now c.shuffle-key.result c.loop-i.out
    front within (omega arith) (c.loop-i.auto.out ∙ c.requires)
    (λ k l. c.loop-i.invariant k (omega arith))
