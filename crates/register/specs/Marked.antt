-- What marking a number answers, and what the register means afterwards.
-- Assumes nothing.
use Rattle.std.specs.Prelude.{ℕ, Bool, is_ok, Ok, Err, Result, List, [], ◌∷◌, if◌then◌else◌, nat_le, nat_lt}
use Rattle.refusal.specs.declared.Refusal.{Refusal}
use Rattle.refusal.specs.declared.Refusal.TheVariants.{NumberTooLarge, NumberUsed, TooManyRuns}
use Rattle.std.specs.List.{range_with_len}
use Rattle.register.specs.Runs.{Meaning, Pair, run_count, with_number}

-- the limit allows n: the used numbers with n have at most that many runs
abbrev pub allowed : Meaning → ℕ → Bool
allowed m n = nat_le (run_count (with_number m.used n)) m.limit

-- refuses a number above 4,095, then a used one, then one that makes too many runs
abbrev pub mark_answer : Meaning → ℕ → Result (Unit {0}) Refusal
mark_answer m n =
    if nat_lt 4095 n then Err NumberTooLarge
    else if m.used n then Err NumberUsed
    else if allowed m n then Ok tt
    else Err TooManyRuns

abbrev pub marked : Meaning → ℕ → Meaning
marked m n = record { used = with_number m.used n; limit = m.limit }

-- a granted mark adds n, a refused one changes nothing
abbrev pub mark_after : Meaning → ℕ → Meaning
mark_after m n = if is_ok (mark_answer m n) then marked m n else m

-- marking numbers one after another, up to the first that is refused
unfoldable pub marks_answer : Meaning → List ℕ → Result (Unit {0}) Refusal
marks_answer m [] = Ok tt
marks_answer m (n ∷ ns) = if is_ok (mark_answer m n) then marks_answer (mark_after m n) ns else mark_answer m n

unfoldable pub marks_after : Meaning → List ℕ → Meaning
marks_after m [] = m
marks_after m (n ∷ ns) = if is_ok (mark_answer m n) then marks_after (mark_after m n) ns else m

-- the numbers of a pair, in order
abbrev pub numbers_of : Pair → List ℕ
numbers_of p = range_with_len p.0 p.1
