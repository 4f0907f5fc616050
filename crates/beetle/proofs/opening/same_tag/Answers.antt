use Rattle.std.proofs.Common.{eqb, sym, ◌∙◌, ap, rules}
use lib.Bits.{bit_or, bit_xor}
use Rattle.std.proofs.lemmas.Iterator.{YieldsList-from_slice, YieldsList-from_zip}
use Rattle.std.proofs.lemmas.Iterator.Consumers.{fold_from_yields_List}
use Rattle.beetle.proofs.Differing.{none_differs}
use Rattle.beetle.proofs.opening.same_tag.Goals as goal

pub returns : goal.returns
returns c =
    let made = fold_from_yields_List _ (λ d p. bit_or d (bit_xor p.0 p.1)) 0 _ c.fold.ensures.ran
    (YieldsList-from_zip (YieldsList-from_slice c.args.tag.now (cc)) (YieldsList-from_slice c.args.specified.now (cc)))
    (λ a x b q k. search rules) in
    ap (λ d. eqb d 0) made ∙ none_differs c.args.tag.now c.args.specified.now (c.told-tag ∙ sym c.told-specified)
