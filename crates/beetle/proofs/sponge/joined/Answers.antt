use Rattle.std.proofs.Common.{◌++◌, replicate, refl, ◌∙◌}
use Rattle.beetle.proofs.Xors.{halves}
use Rattle.beetle.proofs.sponge.joined.Goals as goal

pub returns : goal.returns
returns c =
    halves c.copy_from_slice.new.self c.copy_from_slice-2.new.self (replicate 16 0) c.copy_from_slice.ensures.len refl
    ∙ (λ i. c.copy_from_slice.ensures.after i ++ c.copy_from_slice-2.ensures.after i)
