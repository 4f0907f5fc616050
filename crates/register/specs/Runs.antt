-- Used numbers and their runs, and what a register means.
-- Assumes nothing.
use Rattle.std.specs.Prelude.{◌≡◌, ℕ, zero, suc, ◌+◌, ◌-◌, ◌<◌, ◌≤◌, Bool, true, false, not, ◌&&◌, ◌||◌, List, [], ◌∷◌, length, Some, None, Option, ◌==◌, if◌then◌else◌, nat_le, nat_lt}

-- a set of numbers, as the test that answers which numbers are in it
abbrev pub Numbers : Type 0
Numbers = ℕ → Bool

-- a first number and how many numbers follow one another from it on
abbrev pub Pair : Type 0
Pair = ℕ × ℕ

-- every number of the set is below 4,096
abbrev pub Small : Numbers → Type 0
Small u = (n : ℕ) → u n ≡ true → n < 4096

-- what a register means: which numbers are used, and the most runs that it keeps
pub record Meaning : Type 0 where
  pub used : Numbers
  pub limit : ℕ

-- what every register keeps to: its numbers are below 4,096, and it keeps 64 runs at least
pub record Lawful (m : Meaning) : Type 0 where
  pub small : Small m.used
  pub roomy : 64 ≤ m.limit

-- a register with nothing used
abbrev pub blank_register : ℕ → Meaning
blank_register limit = record { used = λ n. false; limit = limit }

-- a run begins at n: n is used, and it is 0 or the number before it is not used
abbrev pub begins : Numbers → ℕ → Bool
begins u n = u n && (n == 0 || not (u (n - 1)))

-- how many of the k numbers from n on are used before the first that is not
unfoldable pub stretch : Numbers → ℕ → ℕ → ℕ
stretch u zero n = 0
stretch u (suc k) n = if u n then suc (stretch u k (n + 1)) else 0

-- the runs that begin at one of the k numbers from n on, by first number
unfoldable pub begun : Numbers → ℕ → ℕ → List Pair
begun u zero n = []
begun u (suc k) n = if begins u n then (n, stretch u (suc k) n) ∷ begun u k (n + 1) else begun u k (n + 1)

-- the runs that begin at n or later, by first number
unfoldable pub runs_from : Numbers → ℕ → List Pair
runs_from u n = begun u (4096 - n) n

abbrev pub runs : Numbers → List Pair
runs u = runs_from u 0

abbrev pub run_count : Numbers → ℕ
run_count u = length (runs u)

abbrev pub first_pair : List Pair → Option Pair
first_pair [] = None
first_pair (p ∷ ps) = Some p

-- the first run that begins at n or later
abbrev pub next_run : Numbers → ℕ → Option Pair
next_run u n = first_pair (runs_from u n)

-- a run: a longest unbroken stretch of the set
pub record IsRun (u : Numbers) (p : Pair) : Type 0 where
  pub some : 0 < p.1
  pub inside : (k : ℕ) → p.0 ≤ k → k < p.0 + p.1 → u k ≡ true
  pub before : 0 < p.0 → u (p.0 - 1) ≡ false
  pub after : u (p.0 + p.1) ≡ false

-- the first run that begins at n or later, or nothing where no run does
abbrev pub FirstRun : Numbers → ℕ → Option Pair → Type 0
FirstRun u n None = (q : Pair) → IsRun u q → n ≤ q.0 → ⊥
FirstRun u n (Some p) = (n ≤ p.0) × IsRun u p × ((q : Pair) → IsRun u q → n ≤ q.0 → p.0 ≤ q.0)

-- the set with n added
abbrev pub with_number : Numbers → ℕ → Numbers
with_number u n k = k == n || u k

-- n is one of the numbers of the pair
abbrev pub within : Pair → ℕ → Bool
within p n = nat_le p.0 n && nat_lt n (p.0 + p.1)

-- the numbers of the pairs
abbrev pub covered : List Pair → Numbers
covered [] n = false
covered (p ∷ ps) n = within p n || covered ps n

-- the pair begins at `least` or later, is not empty, and ends at 4,096 at the most
abbrev pub fits : ℕ → Pair → Bool
fits least p = nat_le least p.0 && (nat_lt 0 p.1 && nat_le (p.0 + p.1) 4096)

-- the pairs are sorted, with a gap between neighbours, the first at `least` or later
abbrev pub apart : ℕ → List Pair → Bool
apart least [] = true
apart least (p ∷ ps) = fits least p && apart (p.0 + p.1 + 1) ps

-- no set of numbers below 4,096 has more than 2,048 runs
abbrev pub AtMost2048Runs : Type 0
AtMost2048Runs = (u : Numbers) → Small u → run_count u ≤ 2048
