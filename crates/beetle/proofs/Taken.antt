-- The state that a text leads to, by the text's length. Assumes nothing.
use Rattle.std.proofs.Common.{◌≡◌, ℕ, ◌-◌, ◌<◌, ◌≤◌, cond, ltb, List, ◌++◌, length, take, drop, replicate, sym, ap, ◌∙◌, arith, length-take-le}
use Rattle.std.proofs.lemmas.Bool.{eq-eqb, ne_eqb, le-leb, lt-leb, cond-true, cond-false}
use Rattle.beetle.specs.Blocks.{xored, padded, added, ending, absorbed}
use Rattle.beetle.specs.Hashing.{taken}
use Rattle.beetle.proofs.Xors.{xored_zero_state, length_padded}

module _ (P : List ℕ → List ℕ) (M : List ℕ) where
  pub taken_empty : length M ≡ 0 → taken P M ≡ added 1 (replicate 32 0)
  unfolding taken
  taken_empty e = cond-true _ _ _ (eq-eqb (length M) 0 e)

  pub taken_short : 0 < length M → length M ≤ 16 → taken P M ≡ added (cond (ltb (length M) 16) 1 2) (xored (replicate 32 0) (padded 16 M))
  unfolding taken
  taken_short h k =
      let n = length_padded 16 M k in
      let fill : 32 - length (padded 16 M) ≡ 16 = omega arith in
      cond-false _ _ _ (ne_eqb (length M) 0 (λ e. omega arith))
      ∙ cond-true _ _ _ (le-leb (length M) 16 k)
      ∙ ap (added (cond (ltb (length M) 16) 1 2)) (sym (xored_zero_state 32 (padded 16 M) (omega arith) ∙ ap (λ j. padded 16 M ++ replicate j 0) fill))

  pub taken_long : 16 < length M → taken P M ≡ added (ending 4 (drop 16 M) 1 2) (absorbed P 4 (xored (replicate 32 0) (take 16 M)) (drop 16 M))
  unfolding taken
  taken_long h =
      let n = length-take-le 16 M (omega arith) in
      let fill : 32 - length (take 16 M) ≡ 16 = omega arith in
      cond-false _ _ _ (ne_eqb (length M) 0 (λ e. omega arith))
      ∙ cond-false _ _ _ (lt-leb (length M) 16 h)
      ∙ ap (λ s. added (ending 4 (drop 16 M) 1 2) (absorbed P 4 s (drop 16 M))) (sym (xored_zero_state 32 (take 16 M) (omega arith) ∙ ap (λ j. take 16 M ++ replicate j 0) fill))
