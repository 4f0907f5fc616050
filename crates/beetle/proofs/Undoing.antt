-- Opening undoes sealing and sealing undoes opening. Assumes nothing.
use Rattle.std.proofs.Common.{◌≡◌, ℕ, zero, suc, ◌+◌, ◌/◌, ◌%◌, ◌≤◌, cond, eqb, List, [], ◌∷◌, ◌++◌, length, take, drop, Some, sym, refl, ap, ◌∙◌, subst, ⊎_elim, append-nil, arith, length-append, length-drop, take-append-drop, length-take, length-take-le, take_all, take_at, drop_at}
use Rattle.std.specs.Str.{bytes_eq}
use Rattle.std.proofs.lemmas.Slice.Eq.{bytes_eq-Decides}
use Rattle.std.proofs.lemmas.List.{nil_from_length, drop_all}
use Rattle.std.proofs.lemmas.Bool.{cases_lt, cases_Bool}
use Rattle.photon.specs.Bytes.{Bytes}
use Rattle.beetle.specs.Blocks.{xored, padded, blocks, added, ending, absorbed}
use Rattle.beetle.specs.Mode.{Passed, shuffled, masked, rho, rho_back, passed, c0, c1, begun, ended, empty, tag}
use Rattle.beetle.specs.Sealing.{sealing, sealed}
use Rattle.beetle.specs.Opening.{message_length, ciphertext, tag_in, opening, tag_of}
use Rattle.beetle.specs.Rates.{Lawful}
use Rattle.beetle.specs.Laws.{Stays, Small, SealedOpens, OpenedWasSealed, OpensByItsTag, SealedLength, OpenedLength, Laws}
use Rattle.beetle.proofs.Xors.{length_xored}
use Rattle.beetle.proofs.Differing.{xor_back}
use Rattle.beetle.proofs.Shuffles.{length_shuffled}
use Rattle.beetle.proofs.Cuts.{blocks_none, blocks_more}
use Rattle.beetle.proofs.Ends.{opened_cut, opened_same, opened_differs}
use Rattle.beetle.proofs.Smalls.{small_nil, small_append, small_take, small_drop, small_padded, small_masked, bytes_xored, bytes_begun, bytes_ended}

xored_back : (xs ys : List ℕ) → length xs ≡ length ys → xored xs (xored xs ys) ≡ ys
xored_back [] [] h = refl
xored_back [] (y ∷ ys) h = absurd (omega arith)
xored_back (x ∷ xs) [] h = absurd (omega arith)
xored_back (x ∷ xs) (y ∷ ys) h = (λ i. xor_back x y i ∷ xored_back xs ys (omega arith) i)

abbrev pub through : ℕ → (List ℕ → List ℕ) → (List ℕ → List ℕ → Passed) → List ℕ → List ℕ → Passed
through r P f S D = passed P f S (blocks r D)

-- one block
module _ (r : ℕ) (law : Lawful r) where
  module _ (T U : List ℕ) (t : Bytes 32 T) (u : length U ≤ r) where
    mask_long : length (take (length U) (shuffled r (take r T))) ≡ length U
    mask_long =
        let long = t.long in
        length-take-le (length U) (shuffled r (take r T))
        (subst (λ n. length U ≤ n) (sym (length_shuffled r (r / 2) T refl (omega arith) (omega arith))) u)

    length_masked : length (masked r T U) ≡ length U
    unfolding masked
    length_masked = length_xored (take (length U) (shuffled r (take r T))) U ∙ mask_long

    masked_back : masked r T (masked r T U) ≡ U
    unfolding masked
    masked_back =
        ap (λ n. xored (take n (shuffled r (take r T))) (masked r T U)) length_masked
        ∙ xored_back (take (length U) (shuffled r (take r T))) U mask_long

  -- f' undoes f on one block
  record Undoes (f f' : List ℕ → List ℕ → Passed) : Type 0 where
    pub size : (T U : List ℕ) → Bytes 32 T → length U ≤ r → length (f T U).text ≡ length U
    pub small : (T U : List ℕ) → Bytes 32 T → Small U → Small (f T U).text
    pub state : (T U : List ℕ) → Bytes 32 T → Small U → Bytes 32 (f T U).state
    pub undo : (T U : List ℕ) → Bytes 32 T → length U ≤ r → f' T (f T U).text ≡ record { state = (f T U).state; text = U }

  back_undoes : Undoes (rho r) (rho_back r)
  back_undoes = record {
    size = λ T U t u. length_masked T U t u;
    small = λ T U t u. small_masked r T U t.small u;
    state = λ T U t u. bytes_xored T (padded r U) t (small_padded r U u);
    undo = λ T U t u. ap (λ (x : List ℕ). let p : Passed = record { state = xored T (padded r x); text = x } in p) (masked_back T U t u);
  }

  forth_undoes : Undoes (rho_back r) (rho r)
  forth_undoes = record {
    size = λ T V t v. length_masked T V t v;
    small = λ T V t v. small_masked r T V t.small v;
    state = λ T V t v. bytes_xored T (padded r (masked r T V)) t (small_padded r (masked r T V) (small_masked r T V t.small v));
    undo = λ T V t v. ap (λ (x : List ℕ). let p : Passed = record { state = xored T (padded r (masked r T V)); text = x } in p) (masked_back T V t v);
  }

  -- a whole text
  module _ (P : List ℕ → List ℕ) (st : Stays P) (f f' : List ℕ → List ℕ → Passed) (back : Undoes f f') where
    -- what p, which came of the text M from the state S, keeps
    record Kept (S M : List ℕ) (p : Passed) : Type 0 where
      pub size : length p.text ≡ length M
      pub small : Small p.text
      pub state : Bytes 32 p.state
      pub undo : through r P f' S p.text ≡ record { state = p.state; text = M }

    kept_none : (S M : List ℕ) → Bytes 32 S → length M ≡ 0 → Kept S M (through r P f S M)
    kept_none S M s e =
        subst (Kept S M) (sym (ap (passed P f S) (blocks_none r M e))) (record {
          size = sym e;
          small = small_nil;
          state = s;
          undo = ap (passed P f' S) (blocks_none r [] refl) ∙ ap (λ (x : List ℕ). let p : Passed = record { state = S; text = x } in p) (sym (nil_from_length M e));
        })

    -- a block V and the blocks C after it, as long as the first block of M and the rest
    first_back : (V C : List ℕ) (m : ℕ) → length V ≤ r → length V + length C ≡ m → (r ≤ m → length V ≡ r) → (m ≤ r → length C ≡ 0) → (take r (V ++ C) ≡ V) × (drop r (V ++ C) ≡ C)
    first_back V C m v n full none =
        ⊎_elim
        (λ l. let c = none (omega arith) in
        let nil = nil_from_length C c in
        let whole : length (V ++ C) ≤ r = omega (arith, length-append V C) in
        (take_all r (V ++ C) whole ∙ ap (λ l. V ++ l) nil ∙ append-nil V, drop_all r (V ++ C) whole ∙ sym nil))
        (λ g. (take_at V C r (full g), drop_at V C r (full g)))
        (cases_lt m r)

    kept_upto : (n : ℕ) (S M : List ℕ) → length M ≤ n → Bytes 32 S → Small M → Kept S M (through r P f S M)
    kept_upto zero S M l s m = kept_none S M s (omega arith)
    kept_upto (suc n) S [] l s m = kept_none S [] s refl
    kept_upto (suc n) S (x ∷ D) l s m =
        let M : List ℕ = x ∷ D in
        let least = law.least in
        let T = P S in
        let t = st S s in
        let U = take r M in
        let u : length U ≤ r = omega (arith, length-take r M) in
        let us = small_take r M m in
        let V = (f T U).text in
        let v = back.size T U t u in
        let S' = (f T U).state in
        let rest = kept_upto n S' (drop r M) (omega (arith, length-drop r M)) (back.state T U t us) (small_drop r M m) in
        let C = (through r P f S' (drop r M)).text in
        let size : length V + length C ≡ length M = omega (arith, rest.size, length-drop r M, length-take r M) in
        let parts = first_back V C (length M) (omega arith) size (λ g. omega (arith, length-take r M)) (λ g. omega (arith, rest.size, length-drop r M)) in
        let again : through r P f' S (V ++ C) ≡ record { state = (through r P f S' (drop r M)).state; text = M } =
        ap (passed P f' S) (blocks_more r (V ++ C) (omega arith) (omega (arith, length-append V C)))
        ∙ (λ i. passed P f' S (parts.0 i ∷ blocks r (parts.1 i)))
        ∙ ap (λ (p : Passed). let q : Passed = record { state = (through r P f' p.state C).state; text = p.text ++ (through r P f' p.state C).text } in q) (back.undo T U t u)
        ∙ ap (λ (p : Passed). let q : Passed = record { state = p.state; text = U ++ p.text } in q) rest.undo
        ∙ ap (λ (y : List ℕ). let q : Passed = record { state = (through r P f S' (drop r M)).state; text = y } in q) (take-append-drop r M) in
        subst (Kept S M) (sym (ap (passed P f S) (blocks_more r M (omega arith) (omega arith)))) (record {
          size = length-append V C ∙ size;
          small = small_append V C (back.small T U t us) rest.small;
          state = rest.state;
          undo = again;
        })

    kept : (S M : List ℕ) → Bytes 32 S → Small M → Kept S M (through r P f S M)
    kept S M s m = kept_upto (length M) S M (omega arith) s m

-- the constants and the start of the state depend on a message's length alone
begun_length : (P : List ℕ → List ℕ) (r : ℕ) (K N A M M' : List ℕ) → length M ≡ length M' → begun P r K N A M ≡ begun P r K N A M'
unfolding begun c0
begun_length P r K N A M M' e =
    ap (λ (n : ℕ). cond (empty A) (cond (eqb n 0) (added 1 (N ++ K)) (N ++ K)) (added (cond (eqb n 0) (ending r A 3 4) (ending r A 1 2)) (absorbed P r (N ++ K) A))) e

ended_length : (r : ℕ) (A M M' S : List ℕ) → length M ≡ length M' → ended r A M S ≡ ended r A M' S
unfolding ended c1 ending
ended_length r A M M' S e =
    ap (λ (n : ℕ). cond (eqb n 0) S (added (cond (empty A) (cond (eqb (n % r) 0) 5 6) (cond (eqb (n % r) 0) 1 2)) S)) e

-- a text of V and a tag T of 16 bytes, taken apart again
module _ (V T C : List ℕ) (e : C ≡ V ++ T) (t : length T ≡ 16) where
  tag_fits : 16 ≤ length C
  tag_fits = let n = ap length e ∙ length-append V T in omega arith

  front_size : message_length C ≡ length V
  front_size = let n = ap length e ∙ length-append V T in omega arith

  ciphertext_is : ciphertext C ≡ V
  ciphertext_is = (λ i. take (front_size i) (e i)) ∙ take_at V T (length V) refl

  tag_in_is : tag_in C ≡ T
  tag_in_is = (λ i. drop (front_size i) (e i)) ∙ drop_at V T (length V) refl

pub sealed_opens : SealedOpens
unfolding sealed sealing tag_of opening tag
sealed_opens P r K N A M st law k n a m =
    let least = law.least in
    let S₀ = begun P r K N A M in
    let s₀ : Bytes 32 S₀ = bytes_begun P r K N A M st (omega arith) k n a in
    let p = through r P (rho r) S₀ M in
    let done = kept r law P st (rho r) (rho_back r) (back_undoes r law) S₀ M s₀ m in
    let V = p.text in
    let T = tag P (ended r A M p.state) in
    let last = (st (ended r A M p.state) (bytes_ended r A M p.state done.state)).long in
    let t : length T ≡ 16 = length-take-le 16 (P (ended r A M p.state)) (omega arith) in
    let C = sealed P r K N A M in
    let same : begun P r K N A V ≡ S₀ = begun_length P r K N A V M done.size in
    let again : opening P r K N A V ≡ record { state = p.state; text = M } = ap (λ s. through r P (rho_back r) s V) same ∙ done.undo in
    let at = ciphertext_is V T C refl t in
    let whole : opening P r K N A (ciphertext C) ≡ record { state = p.state; text = M } = ap (opening P r K N A) at ∙ again in
    let specified : tag_of P r K N A (ciphertext C) ≡ T =
    (λ i. tag P (ended r A (at i) (whole i).state)) ∙ ap (tag P) (ended_length r A V M p.state done.size) in
    opened_same P r K N A C (tag_fits V T C refl t) ((bytes_eq-Decides (tag_in C) (tag_of P r K N A (ciphertext C))).1 (tag_in_is V T C refl t ∙ sym specified))
    ∙ ap (λ (q : Passed). Some q.text) whole

pub opens_by_its_tag : OpensByItsTag
opens_by_its_tag P r K N A C = (
  λ h e. opened_same P r K N A C h ((bytes_eq-Decides (tag_in C) (tag_of P r K N A (ciphertext C))).1 e),
  λ M o. ⊎_elim
      (λ l. let none = opened_cut P r K N A C l in let z : ◌≡◌ {A = ℕ} 0 1 = cc in absurd (omega arith))
      (λ h. ⊎_elim
      (λ e. let some = opened_same P r K N A C h e in
      let is : (opening P r K N A (ciphertext C)).text ≡ M = cc in
      (h, (bytes_eq-Decides (tag_in C) (tag_of P r K N A (ciphertext C))).0 e, is))
      (λ e. let none = opened_differs P r K N A C h e in let z : ◌≡◌ {A = ℕ} 0 1 = cc in absurd (omega arith))
      (cases_Bool (bytes_eq (tag_in C) (tag_of P r K N A (ciphertext C)))))
      (cases_lt (length C) 16),
)

pub opened_was_sealed : OpenedWasSealed
unfolding sealed sealing tag_of opening
opened_was_sealed P r K N A C M st law k n a c o =
    let least = law.least in
    let told = (opens_by_its_tag P r K N A C).1 M o in
    let V = ciphertext C in
    let S₀ = begun P r K N A V in
    let s₀ : Bytes 32 S₀ = bytes_begun P r K N A V st (omega arith) k n a in
    let p = opening P r K N A V in
    let done = kept r law P st (rho_back r) (rho r) (forth_undoes r law) S₀ V s₀ (small_take (message_length C) C c) in
    let size : length M ≡ length V = ap length (sym told.2) ∙ done.size in
    let again : sealing P r K N A M ≡ record { state = p.state; text = V } =
    (λ i. through r P (rho r) (begun_length P r K N A M V size i) (sym told.2 i)) ∙ done.undo in
    let made : tag P (ended r A M (sealing P r K N A M).state) ≡ tag_of P r K N A V =
    ap (λ (q : Passed). tag P (ended r A M q.state)) again ∙ ap (tag P) (ended_length r A M V p.state size) in
    sym (take-append-drop (message_length C) C)
    ∙ ap (λ l. V ++ l) told.1
    ∙ sym (λ i. (again i).text ++ made i)

pub sealed_length : SealedLength
unfolding sealed sealing tag
sealed_length P r K N A M st law k n a m =
    let least = law.least in
    let S₀ = begun P r K N A M in
    let s₀ : Bytes 32 S₀ = bytes_begun P r K N A M st (omega arith) k n a in
    let p = through r P (rho r) S₀ M in
    let done = kept r law P st (rho r) (rho_back r) (back_undoes r law) S₀ M s₀ m in
    let last = (st (ended r A M p.state) (bytes_ended r A M p.state done.state)).long in
    let t : length (take 16 (P (ended r A M p.state))) ≡ 16 = length-take-le 16 (P (ended r A M p.state)) (omega arith) in
    length-append p.text (take 16 (P (ended r A M p.state))) ∙ (λ i. done.size i + t i)

pub opened_length : OpenedLength
unfolding opening
opened_length P r K N A C M st law k n a c o =
    let least = law.least in
    let told = (opens_by_its_tag P r K N A C).1 M o in
    let V = ciphertext C in
    let S₀ = begun P r K N A V in
    let s₀ : Bytes 32 S₀ = bytes_begun P r K N A V st (omega arith) k n a in
    let done = kept r law P st (rho_back r) (rho r) (forth_undoes r law) S₀ V s₀ (small_take (message_length C) C c) in
    let size : length M ≡ length V = ap length (sym told.2) ∙ done.size in
    let front = length-take (message_length C) C in
    let fits = told.0 in
    omega arith

pub laws : Laws
laws = record {
  opens = sealed_opens;
  sealed = opened_was_sealed;
  by_tag = opens_by_its_tag;
  sealed_length = sealed_length;
  opened_length = opened_length;
}
