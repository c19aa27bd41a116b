use Rattle.std.specs.List.{flat_map}
use Rattle.std.proofs.lemmas.List.Concat.{flat_map-append}
use Rattle.std.proofs.lemmas.Result.{err_from_is_err_and}
use Rattle.q3_clstate.specs.Report.{entity_text}
use Rattle.q3_clstate.proofs.print.print_run.Goals as goal

pub returns-in_err-print_entities-clause-adds : goal.returns-in_err-print_entities-clause-adds
returns-in_err-print_entities-clause-adds g c =
    let p = err_from_is_err_and c.from_residual.result c.from_residual.ensures.1 in
    rw p.1 (c.texts_follow.ensures.early (flat_map entity_text c.args.run.tail.now) c.in_err-print_entities.ensures.adds (flat_map-append entity_text c.args.run.head.now c.args.run.tail.now))

pub returns-clause-adds : goal.returns-clause-adds
returns-clause-adds g c =
    c.texts_follow.ensures.more c.in_ok-print_entities.ensures.adds c.print_entities-2.ensures.adds (flat_map-append entity_text c.args.run.head.now c.args.run.tail.now)
