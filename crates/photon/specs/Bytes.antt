-- Lists of n bytes. Assumes nothing.
use Rattle.std.specs.Prelude.{◌≡◌, ℕ, ◌<◌, List, length, slice_index}

pub record Bytes (n : ℕ) (s : List ℕ) : Type 0 where
  pub long : length s ≡ n
  pub small : (i : ℕ) → slice_index s i < 256
