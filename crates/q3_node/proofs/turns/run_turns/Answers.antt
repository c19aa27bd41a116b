use Rattle.std.proofs.Common.{refl, arith}
use Rattle.std.proofs.lemmas.Grind.{common_steps}
use Rattle.std.proofs.lemmas.Result.{err_from_is_err_and}
use Rattle.q3_node.specs.Node.{new_node}
use Rattle.q3_node.specs.Running.{effects, node_of}
use Rattle.q3_node.proofs.Turning.{begins, goes_on_by, ends_by, spent_by, fails_by, flushed_still}
use Rattle.q3_node.proofs.turns.run_turns.Goals as goal

pub loop-init : goal.loop-init
loop-init g c = record {
  going = rw c.new-course.ensures
      (begins c.texts_follow.ensures g.E.End.rules (new_node c.args.end.now c.args.events.now) (g.C.Clock.readings c.args.clock.now)
      (effects (g.O.Sink.written c.args.out.now) (g.W.Wire.told c.args.wire.now) (g.F.Files.told c.args.files.now)));
  bound = c.requires.bound;
  room = c.requires.room;
  on = rw c.new-course.ensures (record { next = omega arith; made = omega arith });
  file = rw c.requires.none tt;
  flushed = λ nothing. nothing;
  wire = refl;
  sink = refl;
  writes = refl;
  reads = refl;
  numbers = omega arith;
}

pub returns-in_err-turn-clause-ran : goal.returns-in_err-turn-clause-ran
returns-in_err-turn-clause-ran g c =
    let p = err_from_is_err_and c.from_residual.result c.from_residual.ensures.1 in
    rw (p.1, p.2)
    (fails_by g.E.End.rules c.loop.counter (new_node c.args.end.now c.args.events.now) (node_of c.loop.end c.args.events.now c.loop.course) (node_of c.turn.new.end c.args.events.now c.turn.new.course)
    (g.C.Clock.readings c.args.clock.now) (g.C.Clock.readings c.loop.clock) (g.C.Clock.readings c.turn.new.clock)
    (effects (g.O.Sink.written c.args.out.now) (g.W.Wire.told c.args.wire.now) (g.F.Files.told c.args.files.now))
    (effects (g.O.Sink.written c.loop.out) (g.W.Wire.told c.loop.wire) (g.F.Files.told c.loop.files))
    (effects (g.O.Sink.written c.turn.new.out) (g.W.Wire.told c.turn.new.wire) (g.F.Files.told c.turn.new.files)) c.in_err-turn.field-0.0
    c.loop-test.true c.loop.invariant.going c.loop.invariant.flushed c.in_err-turn.ensures.takes)

pub returns-in_err-turn-clause-flushed : goal.returns-in_err-turn-clause-flushed
returns-in_err-turn-clause-flushed g c =
    let p = err_from_is_err_and c.from_residual.result c.from_residual.ensures.1 in
    rw (p.1, p.2)
    (flushed_still g.E.End.rules (node_of c.loop.end c.args.events.now c.loop.course) (node_of c.turn.new.end c.args.events.now c.turn.new.course)
    (g.C.Clock.readings c.loop.clock) (g.C.Clock.readings c.turn.new.clock) (g.O.Sink.written c.args.out.now)
    (effects (g.O.Sink.written c.loop.out) (g.W.Wire.told c.loop.wire) (g.F.Files.told c.loop.files))
    (effects (g.O.Sink.written c.turn.new.out) (g.W.Wire.told c.turn.new.wire) (g.F.Files.told c.turn.new.files)) c.in_err-turn.field-0.0
    c.loop.invariant.flushed c.in_err-turn.ensures.takes)

pub returns-then-branch-clause-ran : goal.returns-then-branch-clause-ran
returns-then-branch-clause-ran g c =
    ends_by c.texts_follow.ensures g.E.End.rules c.loop.counter (new_node c.args.end.now c.args.events.now) (node_of c.loop.end c.args.events.now c.loop.course) (node_of c.turn.new.end c.args.events.now c.turn.new.course)
    (g.C.Clock.readings c.args.clock.now) (g.C.Clock.readings c.loop.clock) (g.C.Clock.readings c.turn.new.clock)
    (effects (g.O.Sink.written c.args.out.now) (g.W.Wire.told c.args.wire.now) (g.F.Files.told c.args.files.now))
    (effects (g.O.Sink.written c.loop.out) (g.W.Wire.told c.loop.wire) (g.F.Files.told c.loop.files))
    (effects (g.O.Sink.written c.turn.new.out) (g.W.Wire.told c.turn.new.wire) (g.F.Files.told c.turn.new.files))
    c.loop-test.true c.loop.invariant.going (rw c.if-branch.true at c.in_ok-turn.ensures.takes)

pub loop-preserved : goal.loop-preserved
loop-preserved g c = record {
  going = goes_on_by c.texts_follow.ensures g.E.End.rules c.loop.counter (new_node c.args.end.now c.args.events.now) (node_of c.loop.end c.args.events.now c.loop.course) (node_of c.turn.new.end c.args.events.now c.turn.new.course)
      (g.C.Clock.readings c.args.clock.now) (g.C.Clock.readings c.loop.clock) (g.C.Clock.readings c.turn.new.clock)
      (effects (g.O.Sink.written c.args.out.now) (g.W.Wire.told c.args.wire.now) (g.F.Files.told c.args.files.now))
      (effects (g.O.Sink.written c.loop.out) (g.W.Wire.told c.loop.wire) (g.F.Files.told c.loop.files))
      (effects (g.O.Sink.written c.turn.new.out) (g.W.Wire.told c.turn.new.wire) (g.F.Files.told c.turn.new.files))
      c.loop-test.true c.loop.invariant.going (rw c.if-branch.false at c.in_ok-turn.ensures.takes);
  bound = c.in_ok-turn.ensures.bound;
  room = grind (arith, common_steps);
  on = c.in_ok-turn.ensures.course;
  file = c.in_ok-turn.ensures.file;
  flushed = λ nothing. c.in_ok-turn.ensures.flushed (c.loop.invariant.flushed nothing);
  wire = grind (arith, common_steps);
  sink = grind (arith, common_steps);
  writes = grind (arith, common_steps);
  reads = grind (arith, common_steps);
  numbers = grind (arith, common_steps);
}

pub returns-clause-ran : goal.returns-clause-ran
returns-clause-ran g c =
    spent_by g.E.End.rules c.loop.counter (new_node c.args.end.now c.args.events.now) (node_of c.loop.end c.args.events.now c.loop.course)
    (g.C.Clock.readings c.args.clock.now) (g.C.Clock.readings c.loop.clock)
    (effects (g.O.Sink.written c.args.out.now) (g.W.Wire.told c.args.wire.now) (g.F.Files.told c.args.files.now))
    (effects (g.O.Sink.written c.loop.out) (g.W.Wire.told c.loop.wire) (g.F.Files.told c.loop.files))
    c.loop-test.false c.loop.invariant.going
