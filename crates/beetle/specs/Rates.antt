-- What a rate is. Assumes nothing.
use Rattle.std.specs.Prelude.{◌≡◌, ℕ, ◌%◌, ◌≤◌}

-- a rate is even and from 2 to 16
pub record Lawful (r : ℕ) : Type 0 where
  pub even : r % 2 ≡ 0
  pub least : 2 ≤ r
  pub most : r ≤ 16
