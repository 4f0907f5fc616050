-- A text that goes through the mode block by block, and a buffer that takes what comes out. Assumes nothing.
use Rattle.std.proofs.Common.{◌≡◌, ℕ, zero, suc, ◌+◌, ◌<◌, ◌≤◌, List, [], ◌∷◌, ◌++◌, length, take, drop, sym, refl, ap, ◌∙◌, append_assoc, append-nil, arith, take-append-drop, drop-drop, length-take, length-drop}
use borrow.Rule.Slice.PartMut.{put_mid}
use Rattle.std.proofs.lemmas.Slice.{take-put_mid, drop-put_mid}
use Rattle.beetle.specs.Blocks.{blocks}
use Rattle.beetle.specs.Mode.{Passed, passed}
use Rattle.beetle.proofs.Cuts.{blocks_none, blocks_more}

-- how many bytes the blocks have
abbrev pub total : List (List ℕ) → ℕ
total [] = 0
total (U ∷ Us) = length U + total Us

module _ (P : List ℕ → List ℕ) (f : List ℕ → List ℕ → Passed) where
  -- from the state S₀ the blocks Us₀ go into a buffer that held B₀; the blocks Us are to come, and `at` bytes are in the buffer B
  pub record Going (S₀ : List ℕ) (Us₀ : List (List ℕ)) (B₀ S : List ℕ) (Us : List (List ℕ)) (B : List ℕ) (at : ℕ) : Type 0 where
    pub count : at + total Us ≡ total Us₀
    pub state : (passed P f S Us).state ≡ (passed P f S₀ Us₀).state
    pub text : take at B ++ (passed P f S Us).text ≡ (passed P f S₀ Us₀).text
    pub after : drop at B ≡ drop at B₀

  pub going_more : (S₀ : List ℕ) (Us₀ : List (List ℕ)) (B₀ S : List ℕ) (Us : List (List ℕ)) (B : List ℕ) (at k : ℕ) (S' U : List ℕ) (Us' : List (List ℕ)) (V : List ℕ) → Going S₀ Us₀ B₀ S Us B at → Us ≡ U ∷ Us'
      → at ≤ length B → length V ≡ length U → k ≡ length U → S' ≡ (f (P S) U).state → V ≡ (f (P S) U).text
      → Going S₀ Us₀ B₀ S' Us' (put_mid at k B V) (at + length U)
  going_more S₀ Us₀ B₀ S Us B at k S' U Us' V was first fits long same es et =
      let n = length U in
      let more = ap (passed P f S) first in
      record {
        count = omega (arith, was.count, ap total first);
        state = ap (λ s. (passed P f s Us').state) es ∙ sym (ap (λ (x : Passed). x.state) more) ∙ was.state;
        text =
            ap (λ l. l ++ (passed P f S' Us').text) (take-put_mid at k B V (at + n) (omega arith) fits)
            ∙ append_assoc (take at B) V (passed P f S' Us').text
            ∙ ap (λ l. take at B ++ l) ((λ i. et i ++ (passed P f (es i) Us').text) ∙ sym (ap (λ (x : Passed). x.text) more))
            ∙ was.text;
        after =
            drop-put_mid at k B V (at + n) (omega arith) fits (omega arith)
            ∙ sym (drop-drop n at B) ∙ ap (drop n) was.after ∙ drop-drop n at B₀;
      }

  pub going_all : (S₀ : List ℕ) (Us₀ : List (List ℕ)) (B₀ S : List ℕ) (Us : List (List ℕ)) (B : List ℕ) (at n : ℕ) → Going S₀ Us₀ B₀ S Us B at → Us ≡ [] → total Us₀ ≡ n
      → (S ≡ (passed P f S₀ Us₀).state) × (B ≡ (passed P f S₀ Us₀).text ++ drop n B₀)
  going_all S₀ Us₀ B₀ S Us B at n was none all =
      let last = ap (passed P f S) none in
      let whole : at ≡ n = omega (arith, was.count, ap total none) in (
        sym (ap (λ (x : Passed). x.state) last) ∙ was.state,
        sym (take-append-drop at B)
            ∙ (λ i. (sym (append-nil (take at B)) ∙ ap (λ l. take at B ++ l) (sym (ap (λ (x : Passed). x.text) last)) ∙ was.text) i ++ was.after i)
            ∙ ap (λ m. (passed P f S₀ Us₀).text ++ drop m B₀) whole,
      )

-- a text has as many bytes as its blocks
total_upto : (n r : ℕ) (D : List ℕ) → 0 < r → length D ≤ n → total (blocks r D) ≡ length D
total_upto zero r D p l = ap total (blocks_none r D (omega arith)) ∙ omega arith
total_upto (suc n) r [] p l = ap total (blocks_none r [] refl)
total_upto (suc n) r (x ∷ D) p l =
    let front = length-take r (x ∷ D) in
    let back = length-drop r (x ∷ D) in
    let rest = total_upto n r (drop r (x ∷ D)) p (omega arith) in
    ap total (blocks_more r (x ∷ D) p (omega arith)) ∙ omega arith

pub total-blocks : (r : ℕ) (D : List ℕ) → 0 < r → total (blocks r D) ≡ length D
total-blocks r D p = total_upto (length D) r D p (omega arith)
