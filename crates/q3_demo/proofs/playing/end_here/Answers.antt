use Rattle.q3_demo.proofs.Taking.{limit_ends, limit_refuses, limit_fails}
use Rattle.q3_demo.proofs.playing.end_here.Goals as goal

pub returns-in-Ok-None-clause-ends : goal.returns-in-Ok-None-clause-ends
returns-in-Ok-None-clause-ends g c =
    let plays = rw c.in-Ok-None.field-0-is at c.in-Ok-None.ensures.plays in (
      plays.0,
      plays.1,
      limit_ends c.texts_follow.ensures plays.0 c.args.player.now c.next.new.self (g.O.Sink.written c.args.out.now) (g.O.Sink.written c.end.new.out) c.end.result plays.2 c.end.ensures.adds c.end.ensures.only,
    )

pub returns-in-Ok-Some-clause-ends : goal.returns-in-Ok-Some-clause-ends
returns-in-Ok-Some-clause-ends g c =
    let plays = rw c.in-Ok-Some.field-0-is at c.in-Ok-Some.ensures.plays in
    rw c.place-at.ensures (plays.0, plays.1, limit_refuses c.texts_follow.ensures plays.0 c.args.player.now c.next.new.self c.in-Ok-Some.field-0-0 (g.O.Sink.written c.args.out.now) plays.2)

pub returns-in-Err-clause-ends : goal.returns-in-Err-clause-ends
returns-in-Err-clause-ends g c =
    let plays = c.in-Err.ensures.plays in
    rw c.after_limit.ensures (plays.0, plays.1, limit_fails c.texts_follow.ensures plays.0 c.args.player.now c.next.new.self c.place-at.result c.in-Err.error (g.O.Sink.written c.args.out.now) plays.2 c.place-at.ensures)
