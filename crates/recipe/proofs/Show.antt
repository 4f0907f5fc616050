-- Lines as text. Assumes nothing.
use Rattle.std.proofs.Common.{◌≡◌, ◌≢◌, ℕ, zero, suc, ◌^◌, ◌<◌, Bool, true, false, leb, List, [], ◌∷◌, length, get_or, Some, None, Option, Ok, Err, IsUtf8, IsAscii, decimal, Result, MatchOption, refl, sym, ap, ◌∙◌, subst, ⊎_elim, arith}
use Rattle.std.specs.Bool.{then_some}
use Rattle.std.specs.Result.{result_ok}
use Rattle.std.proofs.lemmas.Str.{IsUtf8-from_ascii}
use Rattle.std.proofs.lemmas.Bool.{leb-true, and_parts, cond-false, cases_Bool, and_from, le-leb, cases_lt}
use Rattle.std.specs.Str.Parse.{AllDigits, digits_value, ParsesUnsigned}
use Rattle.std.proofs.lemmas.Fmt.{decimal-digits_value, decimal_nonempty, decimal_digit, first_decimal, digits_decimal, parse-decimal}
use Rattle.std.proofs.lemmas.Str.Parse.{IsNumeralModel, numerals_by_value, tells_digits, digit_at, parse_plain}
use Rattle.std.proofs.lemmas.Result.{OkIff-at_ok}
use Rattle.recipe.specs.declared.lines.Line.{Line}
use Rattle.recipe.specs.Lines.{remark, within, printable, all_printable, in_range, says}
use Rattle.recipe.specs.Text.{text_of, printed}

pub printable_ascii : (text : List ℕ) → all_printable text ≡ true → IsAscii text
printable_ascii [] h i = omega arith
printable_ascii (b ∷ text) h zero =
    let parts = and_parts (printable b) (all_printable text) h in
    let high = leb-true b 0x7E (and_parts (leb 0x20 b) (leb b 0x7E) parts.0).1 in
    omega arith
printable_ascii (b ∷ text) h (suc i) = printable_ascii text (and_parts (printable b) (all_printable text) h).1 i

-- a remark that is no text is out of range, so that nothing is said of what is printed
pub unprinted : (l : Line) (text : List ℕ) → says l ≡ remark text → (IsUtf8 text → ⊥) → printed l ≡ None
unprinted l text p n =
    cond-false (in_range (says l)) (Some (text_of (says l))) None
    (ap in_range p
    ∙ ⊎_elim
    (λ t. absurd (n (IsUtf8-from_ascii text (printable_ascii text (and_parts (within 1 80 (length text)) (all_printable text) t).1))))
    (λ f. f)
    (cases_Bool (in_range (remark text))))

pub own : IsNumeralModel (AllDigits 10) (digits_value 10)
own = numerals_by_value (AllDigits 10) tells_digits

-- a number from 1 begins with a digit from 1 to 9
first : (n : ℕ) → 0 < n → n < 2 ^ 64 → within 49 57 (get_or (decimal n) 0 0) ≡ true
first n h k =
    let low = first_decimal n h k in
    let high = digit_at (decimal n) 0 (digits_decimal own n k) (decimal_nonempty n k) in
    and_from (leb 49 (get_or (decimal n) 0 0)) (leb (get_or (decimal n) 0 0) 57) (le-leb 49 (get_or (decimal n) 0 0) (omega arith)) (le-leb (get_or (decimal n) 0 0) 57 (omega arith))

pub not_plain : (bs : List ℕ) → None ≡ then_some (within 49 57 (get_or bs 0 0)) bs → (n : ℕ) → 0 < n → n < 2 ^ 64 → bs ≢ decimal n
not_plain bs f n h k p =
    let plain = ap (λ b. then_some b bs) (ap (λ l. within 49 57 (get_or l 0 0)) p ∙ first n h k) in
    cc

-- a number that is read of a text, or that the text writes none below 2 ^ w
abbrev pub Numbered : ℕ → List ℕ → Option ℕ → Type 0
Numbered w bs r = MatchOption r ((n : ℕ) → 0 < n → n < 2 ^ w → bs ≢ decimal n) (λ n. (0 < n) × (bs ≡ decimal n))

plain_parts : (b : Bool) (bs t : List ℕ) → Some t ≡ then_some b bs → (b ≡ true) × (t ≡ bs)
plain_parts true bs t p = (refl, cc)
plain_parts false bs t p = absurd cc

module _ (w : ℕ) (small : (n : ℕ) → n < 2 ^ w → n < 2 ^ 64) (bs : List ℕ) {E : Type 0} where
  parsed : (r : Result ℕ E) → ParsesUnsigned w 10 bs r → within 49 57 (get_or bs 0 0) ≡ true → Numbered w bs (result_ok r)
  parsed (Err e) h t = λ n low high p. let ok = parse-decimal w n bs (Err e) high (small n high) p h in cc
  parsed (Ok n) h t =
      let low = leb-true 49 (get_or bs 0 0) (and_parts (leb 49 (get_or bs 0 0)) (leb (get_or bs 0 0) 57) t).0 in
      let got = OkIff-at_ok {E = E} (Ok n) (AllDigits 10 bs × (0 < length bs) × (digits_value 10 bs < 2 ^ w)) (digits_value 10 bs) n (parse_plain own {E = E} w bs (Ok n) h (λ q. omega arith)) refl in
      let back = decimal-digits_value own bs got.0.0 got.0.1 (λ q. absurd (omega arith)) (small (digits_value 10 bs) got.0.2) in
      let is : bs ≡ decimal n = sym back ∙ ap decimal (sym got.1) in (
        ⊎_elim (λ k. k) (λ k. let none : n ≡ 0 = omega arith in absurd (omega (arith, ap (λ l. get_or l 0 0) (is ∙ ap decimal none ∙ decimal_digit 0 (omega arith))))) (cases_lt 0 n),
        is,
      )

  pub numbered : (t : List ℕ) (r : Result ℕ E) (o q : Option ℕ) → Some t ≡ then_some (within 49 57 (get_or bs 0 0)) bs → ParsesUnsigned w 10 t r → o ≡ result_ok r → o ≡ q → Numbered w bs q
  numbered t r o q p h e f =
      let parts = plain_parts (within 49 57 (get_or bs 0 0)) bs t p in
      subst (Numbered w bs) (sym e ∙ f) (parsed r (subst (λ l. ParsesUnsigned w 10 l r) parts.1 h) parts.0)
