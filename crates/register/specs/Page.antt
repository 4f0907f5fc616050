-- The number page of a set, what writing and loading one answer, and the laws that tie them.
-- Assumes nothing.
use Rattle.std.specs.Prelude.{◌≡◌, ℕ, ◌+◌, ◌*◌, ◌/◌, ◌%◌, ◌≤◌, Bool, true, false, if◌then◌else◌, ◌&&◌, List, [], ◌∷◌, ◌++◌, length, drop, is_ok, Some, None, Ok, Err, Option, Result, ◌==◌, nat_le, nat_lt, slice_index}
use Rattle.refusal.specs.declared.Refusal.{Refusal}
use Rattle.refusal.specs.declared.Refusal.TheVariants.{BufferTooShort, TooManyRuns, BadPage, NotBlank}
use Rattle.std.specs.List.{flat_map}
use Rattle.register.specs.Runs.{Meaning, Numbers, Pair, Small, runs, run_count, covered, fits, apart}

-- a number in two bytes, low byte first
abbrev pub word : ℕ → List ℕ
word n = (n % 256) ∷ (n / 256 % 256) ∷ []

abbrev pub pair_bytes : Pair → List ℕ
pair_bytes p = word p.0 ++ word p.1

-- the count of runs, then each run's first number and length, by first number
abbrev pub page : Numbers → List ℕ
page u = word (run_count u) ++ flat_map pair_bytes (runs u)

-- writing: a buffer that is too short is refused, and left; bytes past the page are left
abbrev pub write_answer : Numbers → List ℕ → Result ℕ Refusal
write_answer u out = if nat_lt (length out) (length (page u)) then Err BufferTooShort else Ok (length (page u))

abbrev pub write_after : Numbers → List ℕ → List ℕ
write_after u out = if nat_lt (length out) (length (page u)) then out else page u ++ drop (length (page u)) out

-- the number of two bytes
abbrev pub number_of : ℕ → ℕ → ℕ
number_of low high = low + high * 256

-- the pairs that the bytes hold, four bytes each
abbrev pub pairs_in : List ℕ → List Pair
pairs_in [] = []
pairs_in (a ∷ []) = []
pairs_in (a ∷ b ∷ []) = []
pairs_in (a ∷ b ∷ c ∷ []) = []
pairs_in (a ∷ b ∷ c ∷ d ∷ bs) = (number_of a b, number_of c d) ∷ pairs_in bs

-- the pair that four bytes are
abbrev pub pair_in : List ℕ → Pair
pair_in bs = (number_of (slice_index bs 0) (slice_index bs 1), number_of (slice_index bs 2) (slice_index bs 3))

-- the count that a page gives, and its pairs
abbrev pub page_count : List ℕ → ℕ
page_count bs = number_of (slice_index bs 0) (slice_index bs 1)

abbrev pub page_pairs : List ℕ → List Pair
page_pairs bs = pairs_in (drop 2 bs)

-- the page has two bytes at least, and as many as its count gives
abbrev pub whole_page : List ℕ → Bool
whole_page bs = nat_le 2 (length bs) && length bs == 2 + 4 * page_count bs

-- the place of the first pair that is empty, ends above 4,096, or begins before `least`, which leaves a gap after the pair before
abbrev pub pair_fault : ℕ → ℕ → List Pair → Option ℕ
pair_fault least place [] = None
pair_fault least place (p ∷ ps) = if fits least p then pair_fault (p.0 + p.1 + 1) (place + 4) ps else Some place

-- the place of the page's first fault
abbrev pub page_fault : List ℕ → Option ℕ
page_fault bs = if whole_page bs then pair_fault 0 2 (page_pairs bs) else Some 0

-- the answer that a fault's place gives
abbrev pub refused_at : Option ℕ → Result (Unit {0}) Refusal
refused_at None = Ok tt
refused_at (Some place) = Err (BadPage place)

-- what a page with no fault is
pub record Faultless (bs : List ℕ) : Type 0 where
  pub long : length bs ≡ 2 + 4 * page_count bs
  pub gaps : apart 0 (page_pairs bs) ≡ true
  pub count : length (page_pairs bs) ≡ page_count bs

-- loading: refuses a register that is not blank, then a faulty page, then one with more runs than the register keeps
abbrev pub fault_answer : Meaning → List ℕ → Option ℕ → Result (Unit {0}) Refusal
fault_answer m bs (Some place) = Err (BadPage place)
fault_answer m bs None = if nat_lt m.limit (page_count bs) then Err TooManyRuns else Ok tt

abbrev pub load_answer : Meaning → List ℕ → Result (Unit {0}) Refusal
load_answer m bs = if run_count m.used == 0 then fault_answer m bs (page_fault bs) else Err NotBlank

-- a register with the numbers of the pairs
abbrev pub with_pairs : Meaning → List Pair → Meaning
with_pairs m ps = record { used = covered ps; limit = m.limit }

-- a granted loading gives the register the page's numbers, a refused one changes nothing
abbrev pub loaded : Meaning → List ℕ → Meaning
loaded m bs = with_pairs m (page_pairs bs)

abbrev pub load_after : Meaning → List ℕ → Meaning
load_after m bs = if is_ok (load_answer m bs) then loaded m bs else m

-- two pages are equal exactly when the two sets are
abbrev pub PagesTellSets : Type 0
PagesTellSets = (u v : Numbers) → Small u → Small v → (page u ≡ page v → u ≡ v) × (u ≡ v → page u ≡ page v)

-- a page that was written loads into any blank register whose limit suffices, and gives the set
abbrev pub WrittenPagesLoad : Type 0
WrittenPagesLoad = (u : Numbers) → Small u → (m : Meaning) → run_count m.used ≡ 0 → run_count u ≤ m.limit → (load_answer m (page u) ≡ Ok tt) × ((load_after m (page u)).used ≡ u)

-- a register is blank exactly when no number is used
abbrev pub BlankIsEmpty : Type 0
BlankIsEmpty = (u : Numbers) → Small u → (run_count u ≡ 0 → (n : ℕ) → u n ≡ false) × (((n : ℕ) → u n ≡ false) → run_count u ≡ 0)
