-- A text cut into blocks: a first block and the rest. Assumes nothing.
use Rattle.std.proofs.Common.{◌≡◌, ℕ, zero, suc, ◌<◌, ◌≤◌, List, [], ◌∷◌, length, take, drop, sym, refl, ap, subst, arith, length-drop}
use Rattle.std.proofs.lemmas.Bool.{cond_both}
use Rattle.beetle.specs.Blocks.{ending, xored, padded, blocks_up_to, blocks, absorbed_blocks, absorbed}

-- any bound that suffices gives the same blocks
enough : (m n r : ℕ) (D : List ℕ) → length D ≤ m → length D ≤ n → 0 < r → blocks_up_to m r D ≡ blocks_up_to n r D
enough zero zero r D h k p = refl
enough zero (suc n) r [] h k p = refl
enough zero (suc n) r (x ∷ D) h k p = absurd (omega arith)
enough (suc m) zero r [] h k p = refl
enough (suc m) zero r (x ∷ D) h k p = absurd (omega arith)
enough (suc m) (suc n) r [] h k p = refl
enough (suc m) (suc n) r (x ∷ D) h k p =
    let e = length-drop r (x ∷ D) in
    ap (λ l. take r (x ∷ D) ∷ l) (enough m n r (drop r (x ∷ D)) (omega arith) (omega arith) p)

pub blocks_none : (r : ℕ) (D : List ℕ) → length D ≡ 0 → blocks r D ≡ []
unfolding blocks
blocks_none r [] e = refl
blocks_none r (x ∷ D) e = absurd (omega arith)

pub blocks_more : (r : ℕ) (D : List ℕ) → 0 < r → 0 < length D → blocks r D ≡ take r D ∷ blocks r (drop r D)
unfolding blocks
blocks_more r [] p h = absurd (omega arith)
blocks_more r (x ∷ D) p h =
    let e = length-drop r (x ∷ D) in
    ap (λ l. take r (x ∷ D) ∷ l) (enough (length D) (length (drop r (x ∷ D))) r (drop r (x ∷ D)) (omega arith) (omega arith) p)

pub absorbed_none : (P : List ℕ → List ℕ) (r : ℕ) (S D : List ℕ) → length D ≡ 0 → absorbed P r S D ≡ S
unfolding absorbed blocks
absorbed_none P r S [] h = refl
absorbed_none P r S (x ∷ D) h = absurd (omega arith)

pub absorbed_more : (P : List ℕ → List ℕ) (r : ℕ) (S D : List ℕ) → 0 < r → 0 < length D → absorbed P r S D ≡ absorbed P r (xored (P S) (padded r (take r D))) (drop r D)
unfolding absorbed
absorbed_more P r S D p h = ap (absorbed_blocks P r S) (blocks_more r D p h)

-- the constant after a text is one of the two
pub ending_below : (r : ℕ) (D : List ℕ) (whole cut c n : ℕ) → c ≡ ending r D whole cut → whole < n → cut < n → c < n
unfolding ending
ending_below r D whole cut c n e h k = subst (λ m. m < n) (sym e) (cond_both _ whole cut (λ m. m < n) (λ _. h) (λ _. k))
