use Rattle.std.proofs.Common.{[], rules, arith}
use Rattle.std.proofs.lemmas.Result.{err_from_is_err_and}
use Rattle.q3_entity.specs.declared.state.EntityState.{EntityState}
use Rattle.q3_clstate.specs.Report.{entity_text}
use Rattle.q3_clstate.proofs.print.print_entities.Goals as goal

abbrev none : EntityState
none = record { number = 0; words = [] }

pub returns-in_err-print_entity-clause-adds : goal.returns-in_err-print_entity-clause-adds
returns-in_err-print_entity-clause-adds g c =
    let p = err_from_is_err_and c.from_residual.result c.from_residual.ensures.1 in
    rw p.1 (c.items_follow.ensures.early entity_text c.args.entities.now c.loop-entity.entity-index none (omega arith) c.loop-entity.invariant.0 c.in_err-print_entity.ensures.adds)

pub loop-entity-preserved : goal.loop-entity-preserved
loop-entity-preserved g c =
    (c.items_follow.ensures.more entity_text c.args.entities.now c.loop-entity.entity-index none (omega arith) c.loop-entity.invariant.0 c.in_ok-print_entity.ensures.adds, search rules)
