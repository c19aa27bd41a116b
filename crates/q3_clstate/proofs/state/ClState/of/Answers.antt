use Rattle.std.proofs.Common.{refl}
use Rattle.q3_clstate.specs.Kept.{state_by}
use Rattle.q3_clstate.proofs.Accepting.{stands_as}
use Rattle.q3_clstate.proofs.state.ClState.of.Goals as goal

pub invariant_of-result : goal.invariant_of-result
invariant_of-result c = record {
  applied = stands_as (state_by c.args.profile.now c.args.contents) _ c.requires.applied (rw (c.in_ok-own.ensures.copy, c.of.ensures) refl);
  none = c.requires.none;
}
