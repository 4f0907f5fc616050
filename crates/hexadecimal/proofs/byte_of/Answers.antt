use Rattle.std.proofs.Common.{◌≡◌, ℕ, ◌+◌, ◌*◌, ◌<◌, pos, Some, Ok, Err, Result, sym, ap, ◌∙◌, arith}
use Rattle.std.proofs.lemmas.Bool.Decides.{nat_tests}
use Rattle.std.specs.Int.{FitsUnsignedBits}
use Rattle.std.specs.Prelude.{unsigned_abs}
use Rattle.std.specs.Result.{OkIff, result_ok}
use Rattle.std.specs.Char as char
use Rattle.hexadecimal.specs.Hex.{digit_value, joined}
use Rattle.hexadecimal.proofs.byte_of.Goals as goal

-- the library's value of a digit is ours
digit_below : (c : ℕ) → char.digit_value c < 16 → digit_value c ≡ Some (char.digit_value c)
digit_below c h = grind (arith, nat_tests)

-- two digits make a number that a byte holds
fits : {E : Type 0} (r : Result ℕ E) (n : ℕ) → n < 256 → OkIff r (FitsUnsignedBits 8 (pos n)) (unsigned_abs (pos n)) → result_ok r ≡ Some n
fits (Ok x) n h p = ap Some p.1
fits (Err e) n h p = absurd (p h)

pub returns : goal.returns
returns c =
    let high = c.in_ok-high.ensures.value in
    let low = c.in_ok-low.ensures.value in
    let h : digit_value c.args.high ≡ Some c.in_ok-high.high = ap digit_value (sym c.from.ensures) ∙ digit_below c.from.result high.0 ∙ ap Some (sym high.1) in
    let l : digit_value c.args.low ≡ Some c.in_ok-low.low = ap digit_value (sym c.from-2.ensures) ∙ digit_below c.from-2.result low.0 ∙ ap Some (sym low.1) in
    c.ok.ensures.value ∙ fits c.try_from.result (16 * c.in_ok-high.high + c.in_ok-low.low) (omega (arith, high, low)) c.try_from.ensures ∙ (λ i. joined (sym h i) (sym l i))
