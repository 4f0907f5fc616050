use Rattle.std.proofs.Common.{◌≡◌, ◌<◌, sym, subst, rules}
use Rattle.photon.specs.Field.{times_z}
use Rattle.photon.specs.Bounds.{times_z_small}
use Rattle.photon.proofs.field.Cell.times_z.Goals as goal

pub invariant_of-result : goal.invariant_of-result
invariant_of-result c =
    let doubled : c.if-self-lt8.result ≡ times_z c.self.inside.0 = search rules in
    subst (λ n. n < 16) (sym doubled) (times_z_small c.self.inside.0 c.self.invariant)
