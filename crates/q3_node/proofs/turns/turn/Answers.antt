use Rattle.std.proofs.Common.{None}
use Rattle.q3_node.specs.Running.{effects}
use Rattle.q3_node.proofs.Parts.{takes_line, takes_receive}
use Rattle.q3_node.proofs.turns.turn.Goals as goal

pub returns-in-Some-clause-takes : goal.returns-in-Some-clause-takes
returns-in-Some-clause-takes g c =
    takes_line g.E.End.rules c.args.end.now c.do_line.new.end c.args.events.now c.args.course.now c.since_start-ms.new.self c.do_line.new.course c.in-Some.event.now c.now.result c.since_start-ms.result
    (g.C.Clock.readings c.args.clock.now) (g.C.Clock.readings c.now.new.self)
    (effects (g.O.Sink.written c.args.out.now) (g.W.Wire.told c.args.wire.now) (g.F.Files.told c.args.files.now))
    (effects (g.O.Sink.written c.do_line.new.out) (g.W.Wire.told c.do_line.new.wire) (g.F.Files.told c.do_line.new.files)) c.do_line.result
    c.now.ensures.told c.since_start-ms.ensures.course c.since_start-ms.ensures.time c.in-Some.ensures.due (c.do_line.ensures.does c.args.events.now None)

pub returns-in-None-clause-takes : goal.returns-in-None-clause-takes
returns-in-None-clause-takes g c =
    takes_receive g.E.End.rules c.args.end.now c.receive.new.end c.args.events.now c.args.course.now c.since_start-ms.new.self c.receive.ensures.does.0 c.now.result c.since_start-ms.result
    (g.C.Clock.readings c.args.clock.now) (g.C.Clock.readings c.now.new.self)
    (effects (g.O.Sink.written c.args.out.now) (g.W.Wire.told c.args.wire.now) (g.F.Files.told c.args.files.now))
    (effects (g.O.Sink.written c.receive.new.out) (g.W.Wire.told c.receive.new.wire) (g.F.Files.told c.receive.new.files)) c.receive.result
    c.now.ensures.told c.since_start-ms.ensures.course c.since_start-ms.ensures.time c.in-None.ensures.due (c.receive.ensures.does.1 c.args.events.now c.since_start-ms.new.self)
