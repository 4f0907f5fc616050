use Rattle.std.proofs.Common.{◌≡◌, ◌<◌, ◌≤◌, cond, ltb, length, take, drop, replicate, sym, ap, ◌∙◌, arith, length-drop, length-take-le, take_all}
use Rattle.std.proofs.lemmas.Bool.{eqb-true, eqb-false, lt-ltb, le-ltb, cond-true, cond-false}
use Rattle.beetle.specs.Blocks.{xored, padded, added, ending, absorbed}
use Rattle.beetle.proofs.Xors.{padded_full}
use Rattle.beetle.proofs.Cuts.{ending_below}
use Rattle.beetle.proofs.Taken.{taken_empty, taken_short, taken_long}
use Rattle.beetle.proofs.hashing.take_in.Goals as goal
use Rattle.beetle.proofs.hashing.take_in.Goals.{then-head-lt16, else-head-lt16}

pub returns-then-is_empty-clause-state : goal.returns-then-is_empty-clause-state
returns-then-is_empty-clause-state g c =
    ap (λ s. s.state) c.add_constant.ensures
    ∙ ap (added 1) c.new-sponge.ensures.state
    ∙ sym (taken_empty (g.E.Engine.permutes c.args.engine.now) c.args.text.now (eqb-true _ 0 (sym c.if-is_empty.ensures)))

pub add_constant-requires-else-is_empty-2 : goal.add_constant-requires-else-is_empty-2
add_constant-requires-else-is_empty-2 g c =
    ending_below _ _ _ _ c.ending_constant.result 8 c.ending_constant.ensures (omega arith) (omega arith)

pub returns-after-head-lt16-clause-state : goal.returns-after-head-lt16-clause-state
returns-after-head-lt16-clause-state g c =
    let P = g.E.Engine.permutes c.args.engine.now in
    let M = c.args.text.now in
    let H = c.first_block.result.0.now in
    let some = eqb-false _ 0 (sym c.if-is_empty.ensures) in
    let none = eqb-true _ 0 (sym c.if-is_empty-2.ensures) in
    let parts = c.first_block.ensures in
    let short : length M ≤ 16 = omega (arith, ap length parts.rest, length-drop 16 M) in
    let all : H ≡ M = parts.block ∙ take_all 16 M short in
    let which : c.if-head-lt16.add_constant ≡ cond (ltb (length M) 16) 1 2 =
    elim c.if-head-lt16.branch [
      | then-head-lt16 w ↦ w.add_constant-is ∙ sym (cond-true _ _ _ (lt-ltb (length M) 16 (omega (arith, w.if-head-lt16.true, ap length all))))
      | else-head-lt16 w ↦ w.add_constant-is ∙ sym (cond-false _ _ _ (le-ltb (length M) 16 (omega (arith, w.if-head-lt16.false, ap length all))))
    ] in
    ap (λ s. s.state) c.add_constant-then-is_empty-2.ensures
    ∙ (λ i. added (which i) (c.xor_padded.ensures i).state)
    ∙ (λ i. added (cond (ltb (length M) 16) 1 2) (xored (c.new-sponge.ensures.state i) (padded 16 (c.new.ensures i))))
    ∙ ap (λ l. added (cond (ltb (length M) 16) 1 2) (xored (replicate 32 0) (padded 16 l))) all
    ∙ sym (taken_short P M (omega arith) short)

pub returns-else-is_empty-2-clause-state : goal.returns-else-is_empty-2-clause-state
returns-else-is_empty-2-clause-state g c =
    let P = g.E.Engine.permutes c.args.engine.now in
    let M = c.args.text.now in
    let left = eqb-false _ 0 (sym c.if-is_empty-2.ensures) in
    let parts = c.first_block.ensures in
    let long : 16 < length M = omega (arith, ap length parts.rest, length-drop 16 M) in
    let full : padded 16 c.first_block.result.0.now ≡ take 16 M =
    padded_full 16 _ (omega (arith, ap length parts.block, length-take-le 16 M (omega arith))) ∙ parts.block in
    ap (λ s. s.state) c.add_constant-else-is_empty-2.ensures
    ∙ (λ i. added (c.ending_constant.ensures i) (c.absorb.ensures i).state)
    ∙ ap (λ s. added (ending 4 c.first_block.result.1.now 1 2) (absorbed (g.E.Engine.permutes s.engine.now) 4 s.state c.first_block.result.1.now)) c.xor_padded.ensures
    ∙ (λ i. added (ending 4 (parts.rest i) 1 2) (absorbed (g.E.Engine.permutes (c.new-sponge.ensures.engine i)) 4 (xored (c.new-sponge.ensures.state i) (padded 16 (c.new.ensures i))) (parts.rest i)))
    ∙ ap (λ l. added (ending 4 (drop 16 M) 1 2) (absorbed P 4 (xored (replicate 32 0) l) (drop 16 M))) full
    ∙ sym (taken_long P M long)
