use Rattle.std.proofs.Common.{◌≡◌, ℕ, ◌/◌, ◌%◌, List, [], ◌∷◌, ◌++◌, get_or, take, sym, ap, ◌∙◌, append_assoc, arith}
use Rattle.std.proofs.lemmas.List.{flat_map_more, take_more, take_all}
use Rattle.std.proofs.lemmas.Slice.{pushed}
use Rattle.hexadecimal.specs.Hex.{digit, digits, hex_of}
use Rattle.hexadecimal.proofs.encode.Goals as goal

-- two pushes add the digits of one more byte
one_more : (xs : List ℕ) (b h l : ℕ) (text p q : List ℕ) → text ≡ (hex_of xs ++ p) ++ q → p ≡ h ∷ [] → q ≡ l ∷ [] → h ≡ digit (b / 16) → l ≡ digit (b % 16) → text ≡ hex_of (xs ++ b ∷ [])
one_more xs b h l text p q e ep eq eh el =
    e
    ∙ (λ i. (hex_of xs ++ (ep ∙ ap (λ n. n ∷ []) eh) i) ++ (eq ∙ ap (λ n. n ∷ []) el) i)
    ∙ append_assoc (hex_of xs) (digit (b / 16) ∷ []) (digit (b % 16) ∷ [])
    ∙ flat_map_more digits [] xs b

pub loop-b-preserved : goal.loop-b-preserved
loop-b-preserved c =
    let bytes = c.args.bytes.now in
    let i = c.loop-b.b-index in
    let one = pushed _ c.loop-b.invariant c.in_ok-push.was c.push.ensures.bytes in
    let two = pushed _ one c.in_ok-push-2.was c.push-in-loop-b.ensures.bytes in
    one_more (take i bytes) (get_or bytes i 0) _ _ _ _ _ two
    (c.push.ensures.ascii c.digit_of.ensures.ascii)
    (c.push-in-loop-b.ensures.ascii c.digit_of-in-loop-b.ensures.ascii)
    c.digit_of.ensures.value
    c.digit_of-in-loop-b.ensures.value
    ∙ ap hex_of (sym (take_more bytes i 0 (omega arith)))

pub returns : goal.returns
returns c = c.loop-b.invariant ∙ ap hex_of (take_all c.loop-b.b-index c.args.bytes.now (omega arith))
