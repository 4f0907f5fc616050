-- Bytes as hexadecimal text: two digits a byte, the high half first. Assumes nothing.
use Rattle.std.specs.Prelude.{ℕ, ◌+◌, ◌-◌, ◌*◌, ◌/◌, ◌%◌, Bool, if◌then◌else◌, ◌&&◌, List, [], ◌∷◌, Some, None, Option, nat_le, nat_lt}
use Rattle.std.specs.List.{flat_map}

-- the lower-case digit of a number below 16
abbrev pub digit : ℕ → ℕ
digit n = if nat_lt n 10 then 48 + n else 87 + n

abbrev pub digits : ℕ → List ℕ
digits b = digit (b / 16) ∷ digit (b % 16) ∷ []

-- what the bytes are written as
abbrev pub hex_of : List ℕ → List ℕ
hex_of bs = flat_map digits bs

abbrev between : ℕ → ℕ → ℕ → Bool
between low c high = nat_le low c && nat_le c high

-- the number that a digit of either case stands for
abbrev pub digit_value : ℕ → Option ℕ
digit_value c =
    if between 48 c 57 then Some (c - 48)
    else if between 97 c 102 then Some (c - 87)
    else if between 65 c 70 then Some (c - 55)
    else None

-- a byte of its two digits, if both are digits
abbrev pub joined : Option ℕ → Option ℕ → Option ℕ
joined None l = None
joined (Some h) None = None
joined (Some h) (Some l) = Some (16 * h + l)

abbrev pub byte_of : ℕ → ℕ → Option ℕ
byte_of a b = joined (digit_value a) (digit_value b)

-- a byte before the bytes that follow
abbrev pub before : Option ℕ → Option (List ℕ) → Option (List ℕ)
before None bs = None
before (Some b) None = None
before (Some b) (Some bs) = Some (b ∷ bs)

-- the bytes that a text stands for; none at an odd length or another character
abbrev pub bytes_of : List ℕ → Option (List ℕ)
bytes_of [] = Some []
bytes_of (a ∷ []) = None
bytes_of (a ∷ b ∷ rest) = before (byte_of a b) (bytes_of rest)
