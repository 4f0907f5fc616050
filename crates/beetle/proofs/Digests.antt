-- A digest has 32 bytes. Assumes nothing.
use Rattle.std.proofs.Common.{◌≡◌, ℕ, ◌<◌, cond, ltb, List, ◌++◌, length, take, drop, replicate, ◌∙◌, arith, length-append, length-take-le}
use lib.ListN.{length-replicate}
use Rattle.std.proofs.lemmas.Bool.{leb-true, leb-false, cond_both}
use Rattle.photon.specs.Bytes.{Bytes}
use Rattle.beetle.specs.Blocks.{padded, ending}
use Rattle.beetle.specs.Hashing.{squeezed, taken, digest}
use Rattle.beetle.specs.Laws.{Stays, Small, DigestBytes}
use Rattle.beetle.proofs.Xors.{length_padded}
use Rattle.beetle.proofs.Smalls.{small_append, small_zeros, small_take, small_drop, small_padded, bytes_added, bytes_absorbed, ending_small}

-- 16 bytes and then 16 zeros
filled : (X : List ℕ) → length X ≡ 16 → Small X → Bytes 32 (X ++ replicate 16 0)
filled X n h = record {
  long = length-append X (replicate 16 0) ∙ (let z = length-replicate {A = ℕ} 16 0 in omega arith);
  small = small_append X (replicate 16 0) h (small_zeros 16);
}

bytes_taken : (P : List ℕ → List ℕ) (M : List ℕ) → Stays P → Small M → Bytes 32 (taken P M)
unfolding taken
bytes_taken P M st m =
    cond_both _ _ _ (Bytes 32)
    (λ _. bytes_added 1 (replicate 32 0) (omega arith) (record { long = length-replicate {A = ℕ} 32 0; small = small_zeros 32 }))
    (λ _. cond_both _ _ _ (Bytes 32)
    (λ short. bytes_added (cond (ltb (length M) 16) 1 2) _ (cond_both (ltb (length M) 16) 1 2 (λ c. c < 8) (λ _. omega arith) (λ _. omega arith))
    (filled (padded 16 M) (length_padded 16 M (leb-true (length M) 16 short)) (small_padded 16 M m)))
    (λ long. bytes_added (ending 4 (drop 16 M) 1 2) _ (ending_small 4 (drop 16 M) 1 2 (omega arith) (omega arith))
    (bytes_absorbed P 4 _ (drop 16 M) st (omega arith) (filled (take 16 M) (length-take-le 16 M (let h = leb-false (length M) 16 long in omega arith)) (small_take 16 M m)) (small_drop 16 M m))))

pub digest_bytes : DigestBytes
unfolding digest squeezed
digest_bytes P M st m =
    let S = taken P M in
    let one = st S (bytes_taken P M st m) in
    let two = st (P S) one in
    let n = length-take-le 16 (P S) (let h = one.long in omega arith) in
    let k = length-take-le 16 (P (P S)) (let h = two.long in omega arith) in
    record {
      long = length-append (take 16 (P S)) (take 16 (P (P S))) ∙ omega arith;
      small = small_append (take 16 (P S)) (take 16 (P (P S))) (small_take 16 (P S) one.small) (small_take 16 (P (P S)) two.small);
    }
