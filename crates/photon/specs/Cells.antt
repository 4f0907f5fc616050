-- Cells of 4 bits, rules that give them, and the row of M that the code computes with. Assumes nothing.
use Rattle.std.specs.Prelude.{◌≡◌, ℕ, ◌+◌, ◌*◌, ◌/◌, ◌%◌, ◌<◌, List, [], ◌∷◌, slice_index}
use Rattle.photon.specs.Photon.{Square, cell}

-- past its end a row reads 0
abbrev pub Nibbles : List ℕ → Type 0
Nibbles row = (j : ℕ) → slice_index row j < 16

abbrev pub Cells : Square → Type 0
Cells X = (i j : ℕ) → cell X i j < 16

-- what a rule with this relation to its results gives at each row and column, and in one row at each column
abbrev pub GivesCells : (ℕ → ℕ → ℕ → Type 0) → (ℕ → ℕ → ℕ) → Type 0
GivesCells gives f = (i j c : ℕ) → i < 8 → j < 8 → gives i j c → c ≡ f i j

abbrev pub GivesRow : (ℕ → ℕ → Type 0) → (ℕ → ℕ) → Type 0
GivesRow gives f = (j c : ℕ) → j < 8 → gives j c → c ≡ f j

-- byte k of a square: cell 2k in its low half, cell 2k + 1 in its high half
abbrev pub byte_of : Square → ℕ → ℕ
byte_of X k = cell X (2 * k / 8) (2 * k % 8) + 16 * cell X ((2 * k + 1) / 8) ((2 * k + 1) % 8)

abbrev pub last_row : List ℕ
last_row = 2 ∷ 4 ∷ 2 ∷ 11 ∷ 2 ∷ 8 ∷ 5 ∷ 6 ∷ []
