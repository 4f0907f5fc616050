use Rattle.std.proofs.Common.{◌≡◌}
use Rattle.beetle.specs.Blocks.{blocks, absorbed_blocks, absorbed}
use Rattle.beetle.proofs.sponge.Sponge.absorb.Given as goal

-- the blocks to come lead where the whole text does
abbrev pub invariant-loop-block : goal.invariant-loop-block
invariant-loop-block g l =
    let P = g.E.Engine.permutes l.initial.self.engine.now in
    let r = g.R.Rate.BYTES in
    record {
      engine : l.self.engine ≡ l.initial.self.engine;
      state : absorbed_blocks P r l.self.state (blocks r l.block-iterator.rest.now) ≡ absorbed P r l.initial.self.state l.text;
    }
