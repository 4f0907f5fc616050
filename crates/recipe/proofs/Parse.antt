-- Lines from text. Assumes nothing.
use Rattle.std.proofs.Common.{◌≡◌, ◌≢◌, ℕ, suc, ◌^◌, ◌<◌, ◌≤◌, true, List, [], ◌∷◌, ◌++◌, length, get_or, drop, Some, None, decimal, Option, MatchOption, sym, refl, ap, ◌∙◌, subst, ⊎_elim, arith, Bor}
use Rattle.std.proofs.lemmas.Fmt.{digits_decimal, decimal_injective}
use Rattle.std.proofs.lemmas.Str.Parse.{not_in_digits}
use Rattle.std.proofs.lemmas.Str.Pattern.{IsSplitOnceResult, split_after, split_parts}
use Rattle.std.specs.Bool.{then_some}
use Rattle.std.proofs.lemmas.Option.{MatchOption-at_some, MatchOption-at_none}
use Rattle.std.proofs.lemmas.Bool.{and_parts, cases_Bool, false≢true}
use Rattle.recipe.specs.Lines.{Entry, dose, mix, empty, remark, within, in_range, in_range_only}
use Rattle.recipe.specs.Text.{fields_of, text_of, Parsed, Any, Dosing, Mixing, TextBack}
use Rattle.recipe.proofs.Back.{between}
use Rattle.recipe.proofs.Show.{own, Numbered}

pub dose_range : (bin grams : ℕ) → in_range (dose bin grams) ≡ true → (0 < bin) × (bin ≤ 32) × (0 < grams) × (grams ≤ 2_000_000)
dose_range bin grams h =
    let parts = and_parts (within 1 32 bin) (within 1 2_000_000 grams) h in
    let b = between 1 32 bin parts.0 in
    let g = between 1 2_000_000 grams parts.1 in
    (b.0, b.1, g.0, g.1)

module _ (Kind : Entry → Type 0) (text : Entry → List ℕ) (bs : List ℕ) where
  -- no line of the kind has this text
  pub none_parsed : (r : Option Entry) → r ≡ None → ((f : Entry) → Kind f → in_range f ≡ true → bs ≡ text f → ⊥) → Parsed Kind text bs r
  none_parsed r p n = subst (Parsed Kind text bs) (sym p) n

  -- no other line of the kind has it
  pub one_parsed : (r : Option Entry) (e : Entry) → r ≡ in_range_only e → Kind e → bs ≡ text e → ((f : Entry) → Kind f → in_range f ≡ true → bs ≡ text f → f ≡ e) → Parsed Kind text bs r
  one_parsed r e p k q only =
      ⊎_elim
      (λ t. subst (Parsed Kind text bs) (sym (p ∙ ap (λ b. then_some b e) t)) (k, t, q))
      (λ f. none_parsed r (p ∙ ap (λ b. then_some b e) f) (λ x kx t b. false≢true (sym f ∙ ap in_range (sym (only x kx t b)) ∙ t)))
      (cases_Bool (in_range e))

-- what holds of each dose holds of whatever is one, and so for a mix
module _ (P : Entry → Type 0) where
  of_dose : ((bin grams : ℕ) → P (dose bin grams)) → (f : Entry) → Dosing f → P f
  of_dose h (dose bin grams) k = h bin grams
  of_dose h (mix seconds) k = absurd k
  of_dose h empty k = absurd k
  of_dose h (remark text) k = absurd k

  of_mix : ((seconds : ℕ) → P (mix seconds)) → (f : Entry) → Mixing f → P f
  of_mix h (dose bin grams) k = absurd k
  of_mix h (mix seconds) k = h seconds
  of_mix h empty k = absurd k
  of_mix h (remark text) k = absurd k

-- what is read of the field of a mix decides what is parsed
module _ (bs : List ℕ) (r : Option Entry) where
  pub no_mix : r ≡ None → ((n : ℕ) → 0 < n → n < 2 ^ 16 → bs ≢ decimal n) → Parsed Mixing fields_of bs r
  no_mix p n =
      none_parsed Mixing fields_of bs r p (of_mix (λ f. in_range f ≡ true → bs ≢ fields_of f) (λ seconds t.
      let s = between 1 3_600 seconds t in
      n seconds s.0 (omega (arith, s.1))))

  pub one_mix : (n : ℕ) → n < 2 ^ 16 → r ≡ in_range_only (mix n) → Numbered 16 bs (Some n) → Parsed Mixing fields_of bs r
  one_mix n h p m =
      one_parsed Mixing fields_of bs r (mix n) p tt m.1 (of_mix (λ f. in_range f ≡ true → bs ≡ fields_of f → f ≡ mix n) (λ seconds t q.
      let s = between 1 3_600 seconds t in
      ap mix (decimal_injective seconds n (omega (arith, s.1)) (omega arith) (sym q ∙ m.1))))

no_space : (n : ℕ) → n < 2 ^ 64 → (i : ℕ) → i < length (decimal n) → get_or (decimal n) i 0 ≡ 32 → ⊥
no_space n h = not_in_digits own (decimal n) 32 (digits_decimal own n h) (λ k. omega arith)

-- and so for the two fields of a dose
module _ (bs : List ℕ) (parts : Option (Bor (List ℕ) × Bor (List ℕ))) (h : IsSplitOnceResult 32 bs parts) (r : Option Entry) where
  pub split_dose : (bin grams : ℕ) → in_range (dose bin grams) ≡ true → bs ≡ fields_of (dose bin grams)
      → MatchOption parts ⊥ (λ x. (x.0.now ≡ decimal bin) × (x.1.now ≡ decimal grams))
  split_dose bin grams t q =
      let range = dose_range bin grams t in
      split_after 32 bs (decimal bin) (decimal grams) parts h (omega arith) q (no_space bin (omega (arith, range.1)))

  no_dose : r ≡ None → ((bin grams : ℕ) → in_range (dose bin grams) ≡ true → bs ≢ fields_of (dose bin grams)) → Parsed Dosing fields_of bs r
  no_dose p n = none_parsed Dosing fields_of bs r p (of_dose (λ f. in_range f ≡ true → bs ≢ fields_of f) n)

  pub unsplit : parts ≡ None → r ≡ None → Parsed Dosing fields_of bs r
  unsplit s p =
      no_dose p (λ bin grams t q. MatchOption-at_none ⊥ (λ x. (x.0.now ≡ decimal bin) × (x.1.now ≡ decimal grams)) s (split_dose bin grams t q))

  module _ (x : Bor (List ℕ) × Bor (List ℕ)) (s : parts ≡ Some x) where
    fields : (bin grams : ℕ) → in_range (dose bin grams) ≡ true → bs ≡ fields_of (dose bin grams) → (x.0.now ≡ decimal bin) × (x.1.now ≡ decimal grams)
    fields bin grams t q = MatchOption-at_some ⊥ (λ x. (x.0.now ≡ decimal bin) × (x.1.now ≡ decimal grams)) x s (split_dose bin grams t q)

    pub no_bin : r ≡ None → ((n : ℕ) → 0 < n → n < 2 ^ 8 → x.0.now ≢ decimal n) → Parsed Dosing fields_of bs r
    no_bin p n =
        no_dose p (λ bin grams t q.
        let range = dose_range bin grams t in
        n bin range.0 (omega (arith, range.1)) (fields bin grams t q).0)

    pub no_grams : r ≡ None → ((n : ℕ) → 0 < n → n < 2 ^ 32 → x.1.now ≢ decimal n) → Parsed Dosing fields_of bs r
    no_grams p n =
        no_dose p (λ bin grams t q.
        let range = dose_range bin grams t in
        n grams range.2 (omega (arith, range.3)) (fields bin grams t q).1)

    pub one_dose : (b g : ℕ) → b < 2 ^ 8 → g < 2 ^ 32 → r ≡ in_range_only (dose b g) → Numbered 8 x.0.now (Some b) → Numbered 32 x.1.now (Some g) → Parsed Dosing fields_of bs r
    one_dose b g hb hg p mb mg =
        let joined =
        (MatchOption-at_some ((i : ℕ) → i < length bs → get_or bs i 0 ≡ 32 → ⊥) (λ x. (bs ≡ x.0.now ++ (32 ∷ x.1.now)) × ((i : ℕ) → i < length x.0.now → get_or x.0.now i 0 ≡ 32 → ⊥)) x s (split_parts 32 bs parts h (omega arith))).0 in
        one_parsed Dosing fields_of bs r (dose b g) p tt (joined ∙ (λ i. mb.1 i ++ (32 ∷ mg.1 i)))
        (of_dose (λ f. in_range f ≡ true → bs ≡ fields_of f → f ≡ dose b g) (λ bin grams t q.
        let range = dose_range bin grams t in
        let found = fields bin grams t q in
        let sb = decimal_injective bin b (omega (arith, range.1)) (omega arith) (sym found.0 ∙ mb.1) in
        let sg = decimal_injective grams g (omega (arith, range.3)) (omega arith) (sym found.1 ∙ mg.1) in
        λ i. dose (sb i) (sg i)))

-- two texts around their first space
NoSpace : List ℕ → Type 0
NoSpace xs = (i : ℕ) → i < length xs → get_or xs i 0 ≡ 32 → ⊥

at_space : (xs us ys vs : List ℕ) → NoSpace xs → NoSpace us → xs ++ (32 ∷ ys) ≡ us ++ (32 ∷ vs) → (xs ≡ us) × (ys ≡ vs)
unfolding NoSpace
at_space [] [] ys vs h k p = (refl, cc)
at_space [] (u ∷ us) ys vs h k p = absurd (k 0 (omega arith) (sym (ap (λ l. get_or l 0 0) p)))
at_space (x ∷ xs) [] ys vs h k p = absurd (h 0 (omega arith) (ap (λ l. get_or l 0 0) p))
at_space (x ∷ xs) (u ∷ us) ys vs h k p =
    let rest = at_space xs us ys vs (λ i l. h (suc i) (omega arith)) (λ i l. k (suc i) (omega arith)) (ap (drop 1) p) in
    let first = ap (λ l. get_or l 0 0) p in
    ((λ i. first i ∷ rest.0 i), rest.1)

-- no two lines in range have one text
one_text : (e f : Entry) → in_range e ≡ true → in_range f ≡ true → text_of e ≡ text_of f → e ≡ f
unfolding NoSpace
one_text (dose b g) (dose bin grams) s t p =
    let r = dose_range b g s in
    let q = dose_range bin grams t in
    let parts = at_space (decimal b) (decimal bin) (decimal g) (decimal grams) (no_space b (omega (arith, r.1))) (no_space bin (omega (arith, q.1))) (ap (drop 5) p) in
    let sb = decimal_injective b bin (omega (arith, r.1)) (omega (arith, q.1)) parts.0 in
    let sg = decimal_injective g grams (omega (arith, r.3)) (omega (arith, q.3)) parts.1 in
    λ i. dose (sb i) (sg i)
one_text (dose b g) (mix seconds) s t p = absurd (omega (arith, ap (λ l. get_or l 0 0) p))
one_text (dose b g) empty s t p = absurd (omega (arith, ap (λ l. get_or l 0 0) p))
one_text (dose b g) (remark text) s t p = absurd (omega (arith, ap (λ l. get_or l 0 0) p))
one_text (mix n) (dose bin grams) s t p = absurd (omega (arith, ap (λ l. get_or l 0 0) p))
one_text (mix n) (mix seconds) s t p =
    let r = between 1 3_600 n s in
    let q = between 1 3_600 seconds t in
    ap mix (decimal_injective n seconds (omega (arith, r.1)) (omega (arith, q.1)) (ap (drop 4) p))
one_text (mix n) empty s t p = absurd (omega (arith, ap (λ l. get_or l 0 0) p))
one_text (mix n) (remark text) s t p = absurd (omega (arith, ap (λ l. get_or l 0 0) p))
one_text empty (dose bin grams) s t p = absurd (omega (arith, ap (λ l. get_or l 0 0) p))
one_text empty (mix seconds) s t p = absurd (omega (arith, ap (λ l. get_or l 0 0) p))
one_text empty empty s t p = refl
one_text empty (remark text) s t p = absurd (omega (arith, ap (λ l. get_or l 0 0) p))
one_text (remark a) (dose bin grams) s t p = absurd (omega (arith, ap (λ l. get_or l 0 0) p))
one_text (remark a) (mix seconds) s t p = absurd (omega (arith, ap (λ l. get_or l 0 0) p))
one_text (remark a) empty s t p = absurd (omega (arith, ap (λ l. get_or l 0 0) p))
one_text (remark a) (remark text) s t p = ap remark (ap (drop 7) p)

pub text_back : (bs : List ℕ) (r : Option Entry) → Parsed Any text_of bs r → TextBack bs r
text_back bs None h e t p = absurd (h e tt t p)
text_back bs (Some f) h e t p = ap Some (one_text f e h.1 t (sym h.2 ∙ p))
