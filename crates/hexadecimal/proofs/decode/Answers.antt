use Rattle.std.proofs.Common.{◌≡◌, ◌++◌, List, [], ◌∷◌, ℕ, ◌+◌, length, vec_items, refl, sym, ap, ◌∙◌, subst, arith}
use Rattle.std.proofs.lemmas.Slice.{pushed}
use Rattle.hexadecimal.proofs.Reading.{Read, whole, odd_none, read_more, read_nothing, read_all}
use Rattle.hexadecimal.proofs.decode.Goals as goal

pub returns-in_default : goal.returns-in_default
returns-in_default c =
    let same = ap length c.as_bytes.ensures.value in
    odd_none c.args.text.now (omega (arith, c.as_chunks.ensures.back_len, c.in_default.len_at_least))

pub returns-in_default-byte_of : goal.returns-in_default-byte_of
returns-in_default-byte_of c =
    sym (whole c.as_chunks.result.0.now _ _ c.as_bytes.ensures.value c.as_chunks.ensures.front (omega (arith, c.as_chunks.ensures.back_len, c.in_default-empty.len_below)))
    ∙ read_nothing c.as_chunks.result.0.now (vec_items c.loop-high.bytes) c.loop-high.high-index [] c.loop-high-test.true c.loop-high.invariant (sym c.byte_of.ensures ∙ c.in_default-byte_of.is)

pub loop-high-preserved : goal.loop-high-preserved
loop-high-preserved c =
    let grown : vec_items c.push.new.self ≡ vec_items c.loop-high.bytes ++ c.in-Some.byte ∷ [] = pushed (c.in-Some.byte ∷ []) refl c.in_ok-push.was c.push.ensures.items in
    let more = read_more c.as_chunks.result.0.now (vec_items c.loop-high.bytes) c.loop-high.high-index [] c.loop-high-test.true c.loop-high.invariant c.in-Some.byte (sym c.in-Some.ensures) in
    subst (λ (l : List ℕ). Read c.as_chunks.result.0.now l (c.loop-high.high-index + 1)) (sym grown) more

pub returns : goal.returns
returns c =
    sym (whole c.as_chunks.result.0.now _ _ c.as_bytes.ensures.value c.as_chunks.ensures.front (omega (arith, c.as_chunks.ensures.back_len, c.in_default-empty.len_below)))
    ∙ read_all c.as_chunks.result.0.now (vec_items c.loop-high.bytes) c.loop-high.high-index c.loop-high-test.false c.loop-high.invariant
