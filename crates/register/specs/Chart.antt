-- What the words of a chart mean: number n is bit n mod 64 of word n div 64.
-- Assumes nothing.
use Rattle.std.specs.Prelude.{ℕ, ◌/◌, ◌%◌, ◌^◌, Bool, ◌&&◌, List, ◌==◌, nat_lt, slice_index}
use Rattle.register.specs.Runs.{Meaning, Numbers}

abbrev pub bit : ℕ → ℕ → Bool
bit word k = word / 2 ^ k % 2 == 1

abbrev pub charted : List ℕ → Numbers
charted words n = nat_lt n 4096 && bit (slice_index words (n / 64)) (n % 64)

-- a chart has room for the runs of every set
abbrev pub chart_meaning : List ℕ → Meaning
chart_meaning words = record { used = charted words; limit = 2048 }
