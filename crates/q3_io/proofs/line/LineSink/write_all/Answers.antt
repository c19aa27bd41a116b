use Rattle.std.proofs.lemmas.Result.{err_from_is_err_and}
use Rattle.q3_io.proofs.Sinks.{held_lost, held_next, held_passed}
use Rattle.q3_io.proofs.line.LineSink.write_all.Goals as goal

pub returns-in_err-hand_on-clause-adds : goal.returns-in_err-hand_on-clause-adds
returns-in_err-hand_on-clause-adds g c =
    let p = err_from_is_err_and c.from_residual.result c.from_residual.ensures.1 in
    rw (p.1, c.in_err-hand_on.ensures.held, ← c.self.view_is, ← c.if-keep.ensures.held) (held_lost _ _ c.keep.new.self c.args.bytes.now c.in_err-hand_on.ensures.adds)

pub returns-then-not-keep-clause-adds : goal.returns-then-not-keep-clause-adds
returns-then-not-keep-clause-adds g c =
    let handed = rw (← c.self-2.view_is) at c.in_ok-hand_on.ensures in
    rw (c.pass_on.ensures.held, c.if-not-keep.ensures.held, handed.held, ← c.self.view_is, ← c.if-keep.ensures.held)
    (held_passed _ _ _ c.keep.new.self c.args.bytes.now _ handed.adds c.pass_on.ensures.adds)

pub returns-clause-adds : goal.returns-clause-adds
returns-clause-adds g c =
    let handed = rw (← c.self-2.view_is) at c.in_ok-hand_on.ensures in
    rw (c.if-not-keep.ensures.held, handed.held, ← c.self.view_is, ← c.if-keep.ensures.held)
    (held_next _ _ c.keep.new.self c.args.bytes.now handed.adds)
