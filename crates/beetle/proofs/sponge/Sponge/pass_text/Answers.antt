use Rattle.std.proofs.Common.{◌≡◌, ◌+◌, ◌-◌, ◌≤◌, length, take, drop, ap, ◌∙◌, arith, rules, length-drop, length-take}
use Rattle.beetle.specs.Mode.{rule}
use Rattle.beetle.proofs.Passes.{going_more, going_all, total, total-blocks}
use Rattle.beetle.proofs.sponge.Sponge.pass_text.Given as given
use Rattle.beetle.proofs.sponge.Sponge.pass_text.Goals as goal
use Rattle.beetle.proofs.sponge.Sponge.pass_text.Goals.{In-Some}

-- the block fits into the buffer
fits : (g : given.Over) (c : In-Some g) → c.loop-block.at + length c.in-Some.block.bytes.now ≤ length c.loop-block.out
fits g c =
    let law = g.R.Rate.lawful in
    let all = total-blocks g.R.Rate.BYTES c.args.text.now (omega arith) in
    omega (arith, ap total c.in-Some.ensures.steps, c.loop-block.invariant.going.count)

pub overflow_add-end : goal.overflow_add-end
overflow_add-end g c = let h = fits g c in search rules

pub slice_bounds-part-end : goal.slice_bounds-part-end
slice_bounds-part-end g c = let h = fits g (goal.at.slice_bounds-part-end g c).In-Some in search rules

pub loop-block-preserved : goal.loop-block-preserved
loop-block-preserved g c =
    let P = g.E.Engine.permutes c.args.self.now.engine.now in
    let f = rule g.D.Direction.SEALS g.R.Rate.BYTES in
    let S = c.loop-block.self.state in
    let at = c.loop-block.at in
    let U = c.in-Some.block.bytes.now in
    let same = c.loop-block.invariant.engine in
    let room = fits g (goal.at.loop-block-preserved g c).In-Some in
    let part : length (take (at + length U - at) (drop at c.loop-block.out)) ≡ length U = simp (length-take, length-drop) (omega arith) in
    record {
      engine = ap (λ s. s.engine) c.pass_block.ensures.sponge ∙ same;
      going = going_more P f _ _ _ S _ c.loop-block.out at (at + length U - at) _ U _ _ c.loop-block.invariant.going c.in-Some.ensures.steps
          (omega arith) (c.pass_block.auto.out ∙ part) (omega arith)
          (ap (λ s. s.state) c.pass_block.ensures.sponge ∙ ap (λ e. (f (g.E.Engine.permutes e.now S) U).state) same)
          (c.pass_block.ensures.text ∙ ap (λ e. (f (g.E.Engine.permutes e.now S) U).text) same);
    }

pub returns : goal.returns
returns g c =
    let law = g.R.Rate.lawful in
    let all = going_all _ _ _ _ _ _ _ _ _ (length c.args.text.now) c.loop-block.invariant.going c.in-None.ensures.steps.0
    (total-blocks g.R.Rate.BYTES c.args.text.now (omega arith)) in
    record {
      sponge = (λ i. record { engine = c.loop-block.invariant.engine i; state = all.0 i });
      text = all.1;
    }
