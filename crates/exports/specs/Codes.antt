-- What a call answers, as one number. Assumes nothing.
use Rattle.std.specs.Prelude.{ℕ, Ok, Err, Result}
use Rattle.refusal.specs.Told.{told}
use Rattle.refusal.specs.declared.Refusal.{Refusal}

-- 0 where it is granted, else the refusal's number
abbrev pub code : Result (Unit {0}) Refusal → ℕ
code (Ok x) = 0
code (Err e) = (told e).number
