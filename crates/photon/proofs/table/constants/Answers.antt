use Rattle.std.proofs.Common.{refl}
use Rattle.photon.specs.Table.{constant_of}
use Rattle.photon.proofs.TableRules.{by_rule}
use Rattle.photon.proofs.table.constants.Goals as goal

pub returns : goal.returns
unfolding constant_of
returns c = by_rule constant_of _ 12 refl tt
