-- The outcome of a call, case by case. Assumes nothing.
use Rattle.std.proofs.Common.{◌≡◌, ℕ, ◌+◌, ◌-◌, ◌<◌, ◌≤◌, max, Bool, true, false, cond, ltb, ◌||◌, List, [], ◌++◌, length, take, drop, replicate, Some, None, Ok, Err, Option, Result, sym, refl, ap, ◌∙◌, append_assoc, append-nil, arith, length-append, length-drop, drop-drop, take_at, drop_at}
use borrow.Rule.Slice.PartMut.{put_mid}
use Rattle.std.specs.Str.{bytes_eq}
use Rattle.std.specs.Result.{is_err}
use Rattle.std.proofs.lemmas.Grind.{common_steps}
use Rattle.std.proofs.lemmas.List.{drop_all}
use Rattle.std.proofs.lemmas.Bool.{lt-ltb, le-ltb, cond-true, cond-false}
use Rattle.refusal.specs.declared.Refusal.{Refusal}
use Rattle.refusal.specs.declared.Refusal.TheVariants.{TextTooLong, OutputTooShort}
use Rattle.beetle.specs.Outcomes.{Outcome, outcome, is_too_long, sizes_answer}
use Rattle.beetle.specs.Hashing.{digest, hash_outcome}
use Rattle.beetle.specs.Sealing.{sealed, seal_outcome}
use Rattle.beetle.specs.Opening.{message_length, ciphertext, tag_in, opening, tag_of, opened, handed_out, open_outcome}

-- the longest of two texts is too long exactly where one of them is
too_long_max : (m n : ℕ) → is_too_long (max m n) ≡ (is_too_long m || is_too_long n)
too_long_max m n = grind (arith, common_steps)

-- what a call leaves, where it refuses by the sizes and where it does not
module _ (B : List ℕ) (o : Outcome) where
  abbrev judged : Bool → Bool → Outcome
  judged long short = cond long (outcome (Err TextTooLong) B) (cond short (outcome (Err OutputTooShort) B) o)

  abbrev answer : Bool → Bool → Result (Unit {0}) Refusal
  answer long short = cond long (Err TextTooLong) (cond short (Err OutputTooShort) (Ok tt))

  refused : (long short : Bool) (e : Refusal) → answer long short ≡ Err e → judged long short ≡ outcome (Err e) B
  refused true short e h = ap (λ r. outcome r B) h
  refused false true e h = ap (λ r. outcome r B) h
  refused false false e h = cc

  granted : (long short : Bool) → answer long short ≡ Ok tt → judged long short ≡ o
  granted true short h = cc
  granted false true h = cc
  granted false false h = refl

module _ (P : List ℕ → List ℕ) (M B : List ℕ) where
  pub hash_refused : (e : Refusal) → sizes_answer (length M) 32 (length B) ≡ Err e → hash_outcome P M B ≡ outcome (Err e) B
  unfolding hash_outcome
  hash_refused e h = refused B _ (is_too_long (length M)) (ltb (length B) 32) e h

  pub hash_granted : sizes_answer (length M) 32 (length B) ≡ Ok tt → hash_outcome P M B ≡ outcome (Ok tt) (digest P M ++ drop 32 B)
  unfolding hash_outcome
  hash_granted h = granted B _ (is_too_long (length M)) (ltb (length B) 32) h

-- n bytes C stand at the front of a buffer that held B; then 16 bytes T after them
pub tag_after : (C B X T : List ℕ) (n k : ℕ) → X ≡ C ++ drop n B → length X ≡ length B → n ≤ length B → k ≡ 16 → put_mid n k X T ≡ (C ++ T) ++ drop (n + 16) B
tag_after C B X T n k e long fits is =
    let whole = ap length e ∙ length-append C (drop n B) in
    let size : length C ≡ n = omega (arith, length-drop n B) in
    (λ i. take n (e i) ++ (T ++ drop (is i) (drop n (e i))))
    ∙ (λ i. take_at C (drop n B) n size i ++ (T ++ drop 16 (drop_at C (drop n B) n size i)))
    ∙ ap (λ l. C ++ (T ++ l)) (drop-drop 16 n B)
    ∙ sym (append_assoc C T (drop (n + 16) B))

-- a message M of n bytes stands at the front of a buffer that held B; then zeros Z to the end
pub zeros_after : (M B X Z : List ℕ) (n k j : ℕ) → X ≡ M ++ drop n B → length X ≡ length B → n ≤ length B → Z ≡ replicate j 0 → j ≡ length B - n → k ≡ length B - n → put_mid n k X Z ≡ M ++ replicate (length B - length M) 0
zeros_after M B X Z n k j e long fits z all same =
    let whole : length X ≡ length M + length (drop n B) = ap length e ∙ length-append M (drop n B) in
    let rest = length-drop n B in
    let size : length M ≡ n = omega arith in
    let none : drop k (drop n X) ≡ [] = drop_all k (drop n X) (omega (arith, length-drop n X)) in
    (λ i. take n (e i) ++ (z i ++ none i))
    ∙ (λ i. take_at M (drop n B) n size i ++ append-nil (replicate j 0) i)
    ∙ ap (λ m. M ++ replicate m 0) (let at : j ≡ length B - length M = omega arith in at)

zeros_in : (long short : Bool) (n : ℕ) (o : Option (List ℕ)) → is_err (judged (replicate n 0) (handed_out n o) long short).answer ≡ true → (judged (replicate n 0) (handed_out n o) long short).buffer ≡ replicate n 0
zeros_in true short n o h = refl
zeros_in false true n o h = refl
zeros_in false false n None h = refl
zeros_in false false n (Some M) h = cc

module _ (P : List ℕ → List ℕ) (r : ℕ) (K N A : List ℕ) where
  -- longest and wanted are the sizes that the code compares
  pub seal_refused : (M B : List ℕ) (longest : ℕ) (e : Refusal) → longest ≡ max (length A) (length M) → sizes_answer longest (length M + 16) (length B) ≡ Err e → seal_outcome P r K N A M B ≡ outcome (Err e) B
  unfolding seal_outcome
  seal_refused M B longest e l h =
      refused B _ (is_too_long (length A) || is_too_long (length M)) (ltb (length B) (length M + 16)) e
      (ap (λ b. answer B (outcome (Ok tt) B) b (ltb (length B) (length M + 16))) (sym (ap is_too_long l ∙ too_long_max (length A) (length M))) ∙ h)

  pub seal_granted : (M B : List ℕ) (longest : ℕ) → longest ≡ max (length A) (length M) → sizes_answer longest (length M + 16) (length B) ≡ Ok tt → seal_outcome P r K N A M B ≡ outcome (Ok tt) (sealed P r K N A M ++ drop (length M + 16) B)
  unfolding seal_outcome
  seal_granted M B longest l h =
      granted B _ (is_too_long (length A) || is_too_long (length M)) (ltb (length B) (length M + 16))
      (ap (λ b. answer B (outcome (Ok tt) B) b (ltb (length B) (length M + 16))) (sym (ap is_too_long l ∙ too_long_max (length A) (length M))) ∙ h)

  -- wanted is the length of the message
  long_if : (C : List ℕ) (longest wanted : ℕ) → longest ≡ max (length A) wanted → wanted ≡ message_length C → is_too_long longest ≡ (is_too_long (length A) || is_too_long (message_length C))
  long_if C longest wanted l w = ap is_too_long l ∙ too_long_max (length A) wanted ∙ ap (λ n. is_too_long (length A) || is_too_long n) w

  pub open_refused : (C B : List ℕ) (longest wanted : ℕ) (e : Refusal) → longest ≡ max (length A) wanted → wanted ≡ message_length C → sizes_answer longest wanted (length B) ≡ Err e → open_outcome P r K N A C B ≡ outcome (Err e) (replicate (length B) 0)
  unfolding open_outcome
  open_refused C B longest wanted e l w h =
      refused (replicate (length B) 0) _ (is_too_long (length A) || is_too_long (message_length C)) (ltb (length B) (message_length C)) e
      (sym (λ i. answer B (outcome (Ok tt) B) (long_if C longest wanted l w i) (ltb (length B) (w i))) ∙ h)

  pub open_judged : (C B : List ℕ) (o : Option (List ℕ)) (longest wanted : ℕ) → longest ≡ max (length A) wanted → wanted ≡ message_length C → sizes_answer longest wanted (length B) ≡ Ok tt → opened P r K N A C ≡ o → open_outcome P r K N A C B ≡ handed_out (length B) o
  unfolding open_outcome
  open_judged C B o longest wanted l w h e =
      granted (replicate (length B) 0) _ (is_too_long (length A) || is_too_long (message_length C)) (ltb (length B) (message_length C))
      (sym (λ i. answer B (outcome (Ok tt) B) (long_if C longest wanted l w i) (ltb (length B) (w i))) ∙ h)
      ∙ ap (handed_out (length B)) e

  pub opened_cut : (C : List ℕ) → length C < 16 → opened P r K N A C ≡ None
  unfolding opened
  opened_cut C h = cond-true _ _ _ (lt-ltb (length C) 16 h)

  pub opened_same : (C : List ℕ) → 16 ≤ length C → bytes_eq (tag_in C) (tag_of P r K N A (ciphertext C)) ≡ true → opened P r K N A C ≡ Some (opening P r K N A (ciphertext C)).text
  unfolding opened
  opened_same C h e = cond-false _ _ _ (le-ltb (length C) 16 h) ∙ cond-true _ _ _ e

  pub opened_differs : (C : List ℕ) → 16 ≤ length C → bytes_eq (tag_in C) (tag_of P r K N A (ciphertext C)) ≡ false → opened P r K N A C ≡ None
  unfolding opened
  opened_differs C h e = cond-false _ _ _ (le-ltb (length C) 16 h) ∙ cond-false _ _ _ e

  -- what is refused leaves zeros
  pub zeros_if_refused : (C B : List ℕ) → is_err (open_outcome P r K N A C B).answer ≡ true → (open_outcome P r K N A C B).buffer ≡ replicate (length B) 0
  unfolding open_outcome
  zeros_if_refused C B h = zeros_in (is_too_long (length A) || is_too_long (message_length C)) (ltb (length B) (message_length C)) (length B) (opened P r K N A C) h
