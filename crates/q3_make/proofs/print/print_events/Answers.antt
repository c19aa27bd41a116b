use Rattle.std.proofs.Common.{sym, rules, arith}
use Rattle.std.proofs.lemmas.Result.{err_from_is_err_and}
use Rattle.q3_make.specs.Printed.{event_line}
use Rattle.q3_make.proofs.print.print_events.Goals as goal

pub returns-in_err-print_line-clause-adds : goal.returns-in_err-print_line-clause-adds
returns-in_err-print_line-clause-adds g c =
    let p = err_from_is_err_and c.from_residual.result c.from_residual.ensures.1 in
    let item = c.event-item.result in
    rw p.1 (c.items_follow.ensures.early event_line c.args.events.now c.loop-event.event-index item (omega arith) c.loop-event.invariant.0
    (rw (sym c.event-item.is) c.in_err-print_line.ensures.adds))

pub loop-event-preserved : goal.loop-event-preserved
loop-event-preserved g c =
    let item = c.event-item.result in (
      c.items_follow.ensures.more event_line c.args.events.now c.loop-event.event-index item (omega arith) c.loop-event.invariant.0
          (rw (sym c.event-item.is) c.in_ok-print_line.ensures.adds),
      search rules,
    )
