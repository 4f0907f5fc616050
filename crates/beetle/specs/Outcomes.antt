-- What a call answers, and what its output buffer holds afterwards. Assumes nothing.
use Rattle.std.specs.Prelude.{ℕ, Bool, List, Result, Ok, Err, nat_lt, if◌then◌else◌}
use Rattle.refusal.specs.declared.Refusal.{Refusal}
use Rattle.refusal.specs.declared.Refusal.TheVariants.{TextTooLong, OutputTooShort}

pub record Outcome : Type 0 where
  pub answer : Result (Unit {0}) Refusal
  pub buffer : List ℕ

abbrev pub outcome : Result (Unit {0}) Refusal → List ℕ → Outcome
outcome a b = record { answer = a; buffer = b }

-- a text, its tag left out, has at most 65,536 bytes
abbrev pub is_too_long : ℕ → Bool
is_too_long n = nat_lt 65536 n

-- what a call answers by its sizes alone: the longest text, the bytes that are wanted of the output, and its room
abbrev pub sizes_answer : ℕ → ℕ → ℕ → Result (Unit {0}) Refusal
sizes_answer longest wanted room =
    if is_too_long longest then Err TextTooLong
    else (if nat_lt room wanted then Err OutputTooShort else Ok tt)
