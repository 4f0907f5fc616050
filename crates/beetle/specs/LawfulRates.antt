-- The two rates are lawful.
use Rattle.std.specs.Prelude.{refl}
use Rattle.std.proofs.Common.{lit≤}
use Rattle.beetle.specs.Rates.{Lawful}

pub lawful_4 : Lawful 4
lawful_4 = record { even = refl; least = lit≤ tt; most = lit≤ tt }

pub lawful_16 : Lawful 16
lawful_16 = record { even = refl; least = lit≤ tt; most = lit≤ tt }
