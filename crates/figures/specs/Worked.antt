-- Figures worked on paper. Each row is stated by the definitions that the contracts use; bytes stand in hexadecimal.
-- On the bench engine the map is `reverse`.
-- Assumes nothing.
use Rattle.std.specs.Prelude.{◌≡◌, ℕ, ◌||◌, List, [], ◌∷◌, ◌++◌, reverse, get_or, replicate, ◌==◌, nat_lt, slice_index_or}
use Rattle.std.specs.List.{range_with_len}
use Rattle.beetle.specs.Hashing.{digest}
use Rattle.beetle.specs.Mode.{rho}
use Rattle.beetle.specs.Sealing.{sealed}
use Rattle.photon.specs.Field.{times}
use Rattle.photon.specs.Photon.{Square, s_box, add_constant, by_ms, square, transposed}
use Rattle.register.specs.Page.{page}
use Rattle.register.specs.Runs.{Numbers}

-- a square of zeros
abbrev pub zeros : Square
zeros = square (λ i j. 0)

abbrev pub first_column : Square → List ℕ
first_column X = slice_index_or (transposed X) 0 []

-- the key 10 to 1F and the nonce 00 to 0F
abbrev pub key : List ℕ
key = range_with_len 0x10 16

abbrev pub nonce : List ℕ
nonce = range_with_len 0 16

-- the used numbers 0, 1, 2 and 7
abbrev pub four_used : Numbers
four_used n = nat_lt n 3 || n == 7

pub record Worked : Type 0 where
  pub s_of_7 : get_or s_box 7 0 ≡ 13
  pub two_times_8 : times 2 8 ≡ 3
  pub six_times_6 : times 6 6 ≡ 7
  pub eleven_times_9 : times 11 9 ≡ 12
  pub column_times_m8 : by_ms 8 (0 ∷ 0 ∷ 0 ∷ 0 ∷ 0 ∷ 0 ∷ 0 ∷ 1 ∷ []) ≡ 6 ∷ 2 ∷ 9 ∷ 14 ∷ 13 ∷ 6 ∷ 14 ∷ 3 ∷ []
  pub constants_of_round_0 : first_column (add_constant zeros 0) ≡ 1 ∷ 0 ∷ 2 ∷ 6 ∷ 14 ∷ 15 ∷ 13 ∷ 9 ∷ []
  pub hash_of_nothing : digest reverse [] ≡ 0x20 ∷ replicate 31 0
  pub hash_of_41 : digest reverse (0x41 ∷ []) ≡ 0x20 ∷ replicate 15 0 ++ 0x41 ∷ 0x01 ∷ replicate 14 0
  pub hash_of_17_bytes : digest reverse (range_with_len 0 16 ++ 0x41 ∷ []) ≡ 0x40 ∷ range_with_len 1 15 ++ 0x41 ∷ 0x01 ∷ replicate 14 0
  pub ciphertext_of_aa : (rho 4 (0x01 ∷ 0x02 ∷ 0x03 ∷ 0x04 ∷ []) (0xAA ∷ [])).text ≡ 0xA9 ∷ []
  pub state_after_aa : (rho 4 (0x01 ∷ 0x02 ∷ 0x03 ∷ 0x04 ∷ []) (0xAA ∷ [])).state ≡ 0xAB ∷ 0x03 ∷ 0x03 ∷ 0x04 ∷ []
  pub seal_of_nothing : sealed reverse 16 key nonce [] [] ≡ 0x3F ∷ reverse (range_with_len 0x10 15)
  pub seal_of_41 : sealed reverse 16 key nonce [] (0x41 ∷ []) ≡ 0x56 ∷ 0xC0 ∷ range_with_len 0x01 15
  pub page_of_four : page four_used ≡ 0x02 ∷ 0x00 ∷ 0x00 ∷ 0x00 ∷ 0x03 ∷ 0x00 ∷ 0x07 ∷ 0x00 ∷ 0x01 ∷ 0x00 ∷ []
