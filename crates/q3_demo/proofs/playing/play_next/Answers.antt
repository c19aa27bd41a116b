use Rattle.std.proofs.lemmas.Result.{err_from_is_err_and}
use Rattle.q3_demo.proofs.Taking.{refuses_step, refuses_quietly, record_lines, record_leads, counts_one}
use Rattle.q3_demo.proofs.playing.play_next.Goals as goal

pub returns-in_err-applied-clause-takes : goal.returns-in_err-applied-clause-takes
returns-in_err-applied-clause-takes g c =
    let p = err_from_is_err_and c.from_residual.result c.from_residual.ensures.1 in
    let plays = c.in_err-applied.ensures.plays in
    rw (p.1, p.2) (plays.0, plays.1, λ demo there. refuses_step demo c.args.player.now c.next.new.self (g.O.Sink.written c.args.out.now) c.in_err-applied.field-0.0 (plays.2 demo there))

pub returns-in_err-applied-clause-write_cause : goal.returns-in_err-applied-clause-write_cause
returns-in_err-applied-clause-write_cause g c =
    let p = err_from_is_err_and c.from_residual.result c.from_residual.ensures.1 in
    let plays = c.in_err-applied.ensures.plays in
    rw (p.1, p.2) (refuses_quietly (g.O.Sink.faults c.args.out.now) plays.0 c.args.player.now c.next.new.self c.in_err-applied.field-0.0 plays.2)

pub returns-in_default-clause-records : goal.returns-in_default-clause-records
returns-in_default-clause-records g c =
    let plays = c.in_ok-applied.ensures.plays in
    counts_one plays.0 c.args.player.now c.next.new.self c.in_ok-applied.field-0 plays.2

pub returns-in-Ok-clause-takes : goal.returns-in-Ok-clause-takes
returns-in-Ok-clause-takes g c =
    let plays = rw c.in-Some.is at c.in_ok-applied.ensures.plays in (
      plays.0,
      plays.1,
      λ demo there. (
        record_leads _ c.args.player.now c.next.new.self c.in-Some.applied (plays.2 demo there),
        rw (← record_lines demo c.args.player.now c.next.new.self c.records-index.result c.last-number.result c.state-state.result.now c.in-Some.applied c.log-log.result.now.commands (plays.2 demo there)
            c.records-index.ensures c.last-number.ensures c.state-state.ensures c.log-log.ensures) c.in-Ok.ensures.adds,
      ),
    )

pub returns-in-Ok-clause-records : goal.returns-in-Ok-clause-records
returns-in-Ok-clause-records g c =
    let plays = c.in_ok-applied.ensures.plays in
    counts_one plays.0 c.args.player.now c.next.new.self c.in_ok-applied.field-0 plays.2

pub returns-in-Err-clause-takes : goal.returns-in-Err-clause-takes
returns-in-Err-clause-takes g c =
    let plays = rw c.in-Some.is at c.in_ok-applied.ensures.plays in (
      plays.0,
      plays.1,
      λ demo there. rw (← record_lines demo c.args.player.now c.next.new.self c.records-index.result c.last-number.result c.state-state.result.now c.in-Some.applied c.log-log.result.now.commands (plays.2 demo there)
          c.records-index.ensures c.last-number.ensures c.state-state.ensures c.log-log.ensures) c.in-Err.ensures.adds,
    )
