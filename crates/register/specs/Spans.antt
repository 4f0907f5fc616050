-- What a table of spans lists, and how a number touches the spans.
-- Assumes nothing.
use Rattle.std.specs.Prelude.{ℕ, ◌+◌, ◌-◌, Bool, ◌&&◌, List, ◌==◌, length, map, nat_lt, slice_index_or, take}
use Rattle.register.specs.Runs.{Meaning, Pair, covered}
use Rattle.register.specs.declared.spans.Span.{Span}
use Rattle.register.specs.declared.spans.Spans.{Spans}

abbrev pub pair_of : Span → Pair
pair_of s = (s.first, s.len)

abbrev pub pairs_of : List Span → List Pair
pairs_of spans = map pair_of spans

-- the pairs of the first `count` spans
abbrev pub listed : Spans → List Pair
listed s = pairs_of (take s.count s.table)

-- the numbers of the spans are used
abbrev pub span_meaning : Spans → Meaning
span_meaning s = record { used = covered (listed s); limit = 64 }

-- the pair at a place
abbrev pub pair_at : List Pair → ℕ → Pair
pair_at ps i = slice_index_or ps i (0, 0)

-- a pair with more numbers at its end, and one with one more before its first
abbrev pub lengthened : Pair → ℕ → Pair
lengthened p by = (p.0, p.1 + by)

abbrev pub advanced : Pair → Pair
advanced p = (p.0 - 1, p.1 + 1)

-- a pair ends right before n, at the place before i
abbrev pub touches_before : List Pair → ℕ → ℕ → Bool
touches_before ps i n = nat_lt 0 i && (pair_at ps (i - 1)).0 + (pair_at ps (i - 1)).1 == n

-- a pair begins right after n, at the place i
abbrev pub touches_at : List Pair → ℕ → ℕ → Bool
touches_at ps i n = nat_lt i (length ps) && (pair_at ps i).0 == n + 1
