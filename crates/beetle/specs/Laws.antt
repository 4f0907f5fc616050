-- How sealing and opening belong together, for every map P that sends 32 bytes to 32 bytes and every lawful rate r; what a digest is.
-- Assumes nothing.
use Rattle.std.specs.Prelude.{◌≡◌, ℕ, ◌+◌, ◌<◌, ◌≤◌, List, length, Some, slice_index}
use Rattle.photon.specs.Bytes.{Bytes}
use Rattle.beetle.specs.Rates.{Lawful}
use Rattle.beetle.specs.Hashing.{digest}
use Rattle.beetle.specs.Sealing.{sealed}
use Rattle.beetle.specs.Opening.{ciphertext, tag_in, opening, tag_of, opened}

-- P sends 32 bytes to 32 bytes
abbrev pub Stays : (List ℕ → List ℕ) → Type 0
Stays P = (s : List ℕ) → Bytes 32 s → Bytes 32 (P s)

-- each element is a byte
abbrev pub Small : List ℕ → Type 0
Small xs = (i : ℕ) → slice_index xs i < 256

-- a digest has 32 bytes
abbrev pub DigestBytes : Type 0
DigestBytes = (P : List ℕ → List ℕ) (M : List ℕ) → Stays P → Small M → Bytes 32 (digest P M)

-- what was sealed opens to its message
abbrev pub SealedOpens : Type 0
SealedOpens =
    (P : List ℕ → List ℕ) (r : ℕ) (K N A M : List ℕ) → Stays P → Lawful r → Bytes 16 K → Bytes 16 N → Small A → Small M
    → opened P r K N A (sealed P r K N A M) ≡ Some M

-- whatever opens is, byte for byte, what sealing its message makes
abbrev pub OpenedWasSealed : Type 0
OpenedWasSealed =
    (P : List ℕ → List ℕ) (r : ℕ) (K N A C M : List ℕ) → Stays P → Lawful r → Bytes 16 K → Bytes 16 N → Small A → Small C
    → opened P r K N A C ≡ Some M → C ≡ sealed P r K N A M

-- a text opens exactly when it has a tag and the tag is the specified one
abbrev pub OpensByItsTag : Type 0
OpensByItsTag =
    (P : List ℕ → List ℕ) (r : ℕ) (K N A C : List ℕ)
    → (16 ≤ length C → tag_in C ≡ tag_of P r K N A (ciphertext C) → opened P r K N A C ≡ Some (opening P r K N A (ciphertext C)).text)
    × ((M : List ℕ) → opened P r K N A C ≡ Some M → (16 ≤ length C) × (tag_in C ≡ tag_of P r K N A (ciphertext C)) × ((opening P r K N A (ciphertext C)).text ≡ M))

-- a sealed text is 16 bytes longer than its message
abbrev pub SealedLength : Type 0
SealedLength =
    (P : List ℕ → List ℕ) (r : ℕ) (K N A M : List ℕ) → Stays P → Lawful r → Bytes 16 K → Bytes 16 N → Small A → Small M
    → length (sealed P r K N A M) ≡ length M + 16

abbrev pub OpenedLength : Type 0
OpenedLength =
    (P : List ℕ → List ℕ) (r : ℕ) (K N A C M : List ℕ) → Stays P → Lawful r → Bytes 16 K → Bytes 16 N → Small A → Small C
    → opened P r K N A C ≡ Some M → length C ≡ length M + 16

-- the laws together
pub record Laws : Type 0 where
  pub opens : SealedOpens
  pub sealed : OpenedWasSealed
  pub by_tag : OpensByItsTag
  pub sealed_length : SealedLength
  pub opened_length : OpenedLength
