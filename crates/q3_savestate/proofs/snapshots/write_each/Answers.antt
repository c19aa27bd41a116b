use Rattle.std.proofs.Common.{rules, arith}
use Rattle.std.proofs.lemmas.Result.{err_from_is_err_and}
use Rattle.q3_savestate.specs.Entities.{entity_bytes}
use Rattle.q3_savestate.proofs.snapshots.write_each.Goals as goal

pub returns-in_err-write_entity-clause-adds : goal.returns-in_err-write_entity-clause-adds
returns-in_err-write_entity-clause-adds g c =
    let p = err_from_is_err_and c.from_residual.result c.from_residual.ensures.1 in
    rw p.1 (c.items_follow.ensures.early (entity_bytes c.args.profile.now.entity) c.args.entities.now c.loop-entity.entity-index _ (omega arith) c.loop-entity.invariant.0 c.in_err-write_entity.ensures.adds)

pub loop-entity-preserved : goal.loop-entity-preserved
loop-entity-preserved g c = (
  c.items_follow.ensures.more (entity_bytes c.args.profile.now.entity) c.args.entities.now c.loop-entity.entity-index _ (omega arith) c.loop-entity.invariant.0 c.in_ok-write_entity.ensures.adds,
  search rules,
)
