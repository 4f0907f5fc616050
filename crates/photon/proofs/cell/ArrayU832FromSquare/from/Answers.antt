use Rattle.std.proofs.Common.{rules, refl}
use Rattle.photon.specs.Photon.{bytes_of}
use Rattle.photon.specs.Cells.{byte_of}
use Rattle.photon.proofs.Made.{from_fn_kept}
use Rattle.photon.proofs.cell.ArrayU832FromSquare.from.Goals as goal

pub returns : goal.returns
unfolding bytes_of
returns c = from_fn_kept _ (byte_of c.args.square.rows) (λ captured. captured.0.now) c.args.square 32 (λ k byte before after below held told. (search rules, search rules)) _ _ 0 refl c.from_fn.ensures.items
