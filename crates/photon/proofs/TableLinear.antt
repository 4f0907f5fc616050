-- M^8 is linear: it sends the cell by cell XOR of two columns to the XOR of what it makes of each. And so does packing.
-- Assumes nothing.
use Rattle.std.proofs.Common.{◌≡◌, ℕ, zero, suc, ◌+◌, ◌*◌, ◌/◌, ◌%◌, ◌<◌, Bool, true, false, cond, eqb, List, [], ◌∷◌, map, length, sym, refl, ap, ◌∙◌, ap₂, arith, eqb→eq}
use lib.Bits.{bit_xor, xor_assoc, xor_comm, xor_block}
use lib.Lanes.{zip2}
use Rattle.photon.specs.Field.{times_z, times_low, times, dot}
use Rattle.photon.specs.Photon.{Square, serial, by_m, by_ms}
use Rattle.photon.specs.Table.{packed}
use Rattle.photon.specs.Cells.{Nibbles}
use Rattle.photon.specs.Bounds.{times_z_small, small_by_ms}
use Rattle.photon.specs.Computed.{all_below, below}

abbrev pub xors : List ℕ → List ℕ → List ℕ
xors = zip2 bit_xor

pub xor_4 : (a b c d : ℕ) → bit_xor (bit_xor a b) (bit_xor c d) ≡ bit_xor (bit_xor a c) (bit_xor b d)
xor_4 a b c d =
    xor_assoc a b (bit_xor c d)
    ∙ ap (bit_xor a) (sym (xor_assoc b c d) ∙ ap (λ n. bit_xor n d) (xor_comm b c) ∙ xor_assoc c b d)
    ∙ sym (xor_assoc a c (bit_xor b d))

-- the field: 256 pairs are tested for z, the rest follows
abbrev z_splits : ℕ → ℕ → Bool
z_splits x y = eqb (times_z (bit_xor x y)) (bit_xor (times_z x) (times_z y))

times_z_xor : (x y : ℕ) → x < 16 → y < 16 → times_z (bit_xor x y) ≡ bit_xor (times_z x) (times_z y)
times_z_xor x y hx hy =
    eqb→eq (times_z (bit_xor x y)) (bit_xor (times_z x) (times_z y))
    (below (z_splits x) 16 (below (λ x. all_below (z_splits x) 16) 16 tt x hx) y hy)

cond_xor : (b : Bool) (x y : ℕ) → cond b (bit_xor x y) 0 ≡ bit_xor (cond b x 0) (cond b y 0)
cond_xor true x y = refl
cond_xor false x y = refl

times_low_xor : (n a x y : ℕ) → x < 16 → y < 16 → times_low n a (bit_xor x y) ≡ bit_xor (times_low n a x) (times_low n a y)
times_low_xor zero a x y hx hy = refl
times_low_xor (suc n) a x y hx hy =
    ap₂ bit_xor (cond_xor (eqb (a % 2) 1) x y)
    (ap (times_low n (a / 2)) (times_z_xor x y hx hy)
    ∙ times_low_xor n (a / 2) (times_z x) (times_z y) (times_z_small x hx) (times_z_small y hy))
    ∙ xor_4 (cond (eqb (a % 2) 1) x 0) (cond (eqb (a % 2) 1) y 0) (times_low n (a / 2) (times_z x)) (times_low n (a / 2) (times_z y))

times_xor : (a x y : ℕ) → x < 16 → y < 16 → times a (bit_xor x y) ≡ bit_xor (times a x) (times a y)
unfolding times
times_xor a x y hx hy = times_low_xor 4 a x y hx hy

dot_xor : (r a b : List ℕ) → length a ≡ length b → Nibbles a → Nibbles b → dot r (xors a b) ≡ bit_xor (dot r a) (dot r b)
dot_xor [] a b e ha hb = refl
dot_xor (k ∷ r) [] [] e ha hb = refl
dot_xor (k ∷ r) [] (y ∷ b) e ha hb = absurd (omega arith)
dot_xor (k ∷ r) (x ∷ a) [] e ha hb = absurd (omega arith)
dot_xor (k ∷ r) (x ∷ a) (y ∷ b) e ha hb =
    ap₂ bit_xor (times_xor k x y (ha 0) (hb 0)) (dot_xor r a b (omega arith) (λ i. ha (suc i)) (λ i. hb (suc i)))
    ∙ xor_4 (times k x) (times k y) (dot r a) (dot r b)

dots_xor : (rows : Square) (a b : List ℕ) → length a ≡ length b → Nibbles a → Nibbles b → map (λ row. dot row (xors a b)) rows ≡ xors (map (λ row. dot row a) rows) (map (λ row. dot row b) rows)
dots_xor [] a b e ha hb = refl
dots_xor (r ∷ rows) a b e ha hb = ap₂ ◌∷◌ (dot_xor r a b e ha hb) (dots_xor rows a b e ha hb)

by_m_xor : (a b : List ℕ) → length a ≡ length b → Nibbles a → Nibbles b → by_m (xors a b) ≡ xors (by_m a) (by_m b)
unfolding by_m
by_m_xor a b e ha hb = dots_xor serial a b e ha hb

pub length_by_m : (c : List ℕ) → length (by_m c) ≡ 8
unfolding by_m
length_by_m c = refl

length_by_ms : (n : ℕ) (a b : List ℕ) → length a ≡ length b → length (by_ms n a) ≡ length (by_ms n b)
length_by_ms zero a b e = e
length_by_ms (suc n) a b e = length_by_m (by_ms n a) ∙ sym (length_by_m (by_ms n b))

pub by_ms_xor : (n : ℕ) (a b : List ℕ) → length a ≡ length b → Nibbles a → Nibbles b → by_ms n (xors a b) ≡ xors (by_ms n a) (by_ms n b)
by_ms_xor zero a b e ha hb = refl
by_ms_xor (suc n) a b e ha hb =
    ap by_m (by_ms_xor n a b e ha hb)
    ∙ by_m_xor (by_ms n a) (by_ms n b) (length_by_ms n a b e) (small_by_ms n a ha) (small_by_ms n b hb)

pub packed_xor : (a b : List ℕ) → length a ≡ length b → Nibbles a → Nibbles b → packed (xors a b) ≡ bit_xor (packed a) (packed b)
packed_xor [] [] e ha hb = refl
packed_xor [] (y ∷ b) e ha hb = absurd (omega arith)
packed_xor (x ∷ a) [] e ha hb = absurd (omega arith)
packed_xor (x ∷ a) (y ∷ b) e ha hb =
    ap (λ n. n * 16 + bit_xor x y) (packed_xor a b (omega arith) (λ i. ha (suc i)) (λ i. hb (suc i)))
    ∙ sym (xor_block 4 (packed a) (packed b) x y (ha 0) (hb 0))

-- M^8 of a column, packed
abbrev pub mixed : List ℕ → ℕ
mixed c = packed (by_ms 8 c)

pub mixed_xor : (a b : List ℕ) → length a ≡ length b → Nibbles a → Nibbles b → mixed (xors a b) ≡ bit_xor (mixed a) (mixed b)
mixed_xor a b e ha hb =
    ap packed (by_ms_xor 8 a b e ha hb)
    ∙ packed_xor (by_ms 8 a) (by_ms 8 b) (length_by_ms 8 a b e) (small_by_ms 8 a ha) (small_by_ms 8 b hb)
