use Rattle.std.proofs.Common.{refl}
use Rattle.photon.specs.Field.{times}
use Rattle.photon.specs.Table.{pair}
use Rattle.photon.proofs.TableRules.{by_rule, quick, by_quick}
use Rattle.photon.proofs.table.table.Goals as goal

pub returns : goal.returns
unfolding times pair
returns c = by_quick _ 1024 (by_rule quick _ 1024 refl tt)
