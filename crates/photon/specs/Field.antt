-- The field of sixteen elements: polynomials over two elements modulo z^4 + z + 1, each a number below 16 whose
-- digit k is the coefficient of z^k. A sum is XOR.
-- Assumes nothing.
use Rattle.std.specs.Prelude.{ℕ, zero, suc, ◌*◌, ◌/◌, ◌%◌, if◌then◌else◌, List, [], ◌∷◌, ◌==◌, bit_xor, nat_lt}

-- z times b: b moved up by one place, and 19 = z^4 + z + 1 taken off where z^4 arose
abbrev pub times_z : ℕ → ℕ
times_z b = (if nat_lt b 8 then 2 * b else bit_xor (2 * b) 19)

-- the sum of z^k times b over the digits k of a that are 1, for the n lowest digits
abbrev pub times_low : ℕ → ℕ → ℕ → ℕ
times_low zero a b = 0
times_low (suc n) a b = bit_xor (if a % 2 == 1 then b else 0) (times_low n (a / 2) (times_z b))

unfoldable pub times : ℕ → ℕ → ℕ
times a b = times_low 4 a b

-- a row of a matrix times a column
abbrev pub dot : List ℕ → List ℕ → ℕ
dot [] c = 0
dot (a ∷ r) [] = 0
dot (a ∷ r) (x ∷ c) = bit_xor (times a x) (dot r c)
