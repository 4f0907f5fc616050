use Rattle.std.proofs.Common.{◌≡◌}
use Rattle.beetle.specs.Blocks.{blocks}
use Rattle.beetle.specs.Mode.{rule}
use Rattle.beetle.proofs.Passes.{Going}
use Rattle.beetle.proofs.sponge.Sponge.pass_text.Given as goal

abbrev pub invariant-loop-block : goal.invariant-loop-block
invariant-loop-block g l =
    let r = g.R.Rate.BYTES in
    record {
      engine : l.self.engine ≡ l.initial.self.engine;
      going : Going (g.E.Engine.permutes l.initial.self.engine.now) (rule g.D.Direction.SEALS r)
          l.initial.self.state (blocks r l.text) l.initial.out l.self.state (blocks r l.block-iterator.rest.now) l.out l.at;
    }
