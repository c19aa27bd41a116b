use Rattle.std.proofs.Common.{arith}
use Rattle.q3_entity.proofs.Placed.{forgotten}
use Rattle.q3_entity.proofs.baselines.forget.Goals as goal

pub returns : goal.returns
returns c =
    let h = c.loop-state.invariant in
    forgotten c.loop-state.places.items c.args.states.now c.loop-state.state-index h.all (omega arith) h.placed
