use Rattle.std.proofs.Common.{refl}
use Rattle.beetle.specs.Blocks.{padded, blocks, added, ending, absorbed}
use Rattle.beetle.specs.Hashing.{digest, squeezed, taken}
use Rattle.beetle.specs.Mode.{rotated, shuffled, masked, c0, c1, begun, ended, tag}
use Rattle.beetle.specs.Sealing.{sealing, sealed}
use Rattle.figures.specs.Worked.{Worked}
use Rattle.photon.specs.Field.{times}
use Rattle.photon.specs.Photon.{add_constant, by_m, square, transposed}
use Rattle.register.specs.Runs.{stretch, begun as runs_begun, runs_from}
use Rattle.figures.proofs.rows.Goals as goal

worked : Worked
unfolding times by_m square transposed add_constant digest squeezed taken padded blocks added ending absorbed rotated shuffled masked c0 c1 begun ended tag sealing sealed stretch runs_begun runs_from
worked =
    record {
      s_of_7 = refl;
      two_times_8 = refl;
      six_times_6 = refl;
      eleven_times_9 = refl;
      column_times_m8 = refl;
      constants_of_round_0 = refl;
      hash_of_nothing = refl;
      hash_of_41 = refl;
      hash_of_17_bytes = refl;
      ciphertext_of_aa = refl;
      state_after_aa = refl;
      seal_of_nothing = refl;
      seal_of_41 = refl;
      page_of_four = refl;
    }

pub returns : goal.returns
returns c = record { figures = worked; count = refl }
