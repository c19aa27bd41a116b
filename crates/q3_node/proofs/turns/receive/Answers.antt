use Rattle.std.proofs.Common.{Some, None, take, refl}
use Rattle.std.proofs.lemmas.Result.{err_from_is_err_and}
use Rattle.q3_node.specs.Running.{effects}
use Rattle.q3_node.proofs.Parts.{came, found_next, received_arrival, received_nothing, received_stopped, receive_failed}
use Rattle.q3_node.proofs.turns.receive.Goals as goal

pub returns-in_err-arrive-clause-does : goal.returns-in_err-arrive-clause-does
returns-in_err-arrive-clause-does g c =
    let p = err_from_is_err_and c.from_residual.result c.from_residual.ensures.1 in
    let one = came (g.W.Wire.told c.args.wire.now) (g.W.Wire.told c.receive.new.self) c.args.buffer.now c.receive.new.into c.in-Some.from c.in-Some.count c.requires.room
    (rw c.in-Some.is at c.in-Ok.ensures.count) c.in-Ok.ensures.length (rw c.in-Some.is at c.in-Ok.ensures.told) in (
      Some one.parcel,
      λ events course. rw (p.1, p.2) (received_stopped g.E.End.rules c.args.end.now c.arrive.new.self events course
          (effects (g.O.Sink.written c.args.out.now) (g.W.Wire.told c.args.wire.now) (g.F.Files.told c.args.files.now))
          (effects (g.O.Sink.written c.arrive.new.out) (g.W.Wire.told c.receive.new.self) (g.F.Files.told c.arrive.new.files))
          c.in-Some.from (take c.in-Some.count c.receive.new.into) c.in_err-arrive.field-0.0 one c.in_err-arrive.ensures.does),
    )

pub returns-in_ok-arrive-clause-does : goal.returns-in_ok-arrive-clause-does
returns-in_ok-arrive-clause-does g c =
    let one = came (g.W.Wire.told c.args.wire.now) (g.W.Wire.told c.receive.new.self) c.args.buffer.now c.receive.new.into c.in-Some.from c.in-Some.count c.requires.room
    (rw c.in-Some.is at c.in-Ok.ensures.count) c.in-Ok.ensures.length (rw c.in-Some.is at c.in-Ok.ensures.told) in (
      Some one.parcel,
      λ events course. received_arrival g.E.End.rules c.args.end.now c.arrive.new.self events course
          (effects (g.O.Sink.written c.args.out.now) (g.W.Wire.told c.args.wire.now) (g.F.Files.told c.args.files.now))
          (effects (g.O.Sink.written c.arrive.new.out) (g.W.Wire.told c.receive.new.self) (g.F.Files.told c.arrive.new.files))
          c.in-Some.from (take c.in-Some.count c.receive.new.into) one c.in_ok-arrive.ensures.does,
    )

pub returns-in_default-found-clause-does : goal.returns-in_default-found-clause-does
returns-in_default-found-clause-does g c = (
  None,
  λ events course. received_nothing c.texts_follow.ensures g.E.End.rules c.args.end.now events course
      (effects (g.O.Sink.written c.args.out.now) (g.W.Wire.told c.args.wire.now) (g.F.Files.told c.args.files.now))
      (effects (g.O.Sink.written c.args.out.now) (g.W.Wire.told c.receive.new.self) (g.F.Files.told c.args.files.now))
      c.args.buffer.now c.receive.new.into refl refl (rw c.in_default-found.is at c.in-Ok.ensures.told),
)

pub returns-in_default-clause-does : goal.returns-in_default-clause-does
returns-in_default-clause-does g c = (
  found_next (g.W.Wire.told c.args.wire.now),
  λ events course. receive_failed g.E.End.rules c.args.end.now c.args.end.now events course
      (effects (g.O.Sink.written c.args.out.now) (g.W.Wire.told c.args.wire.now) (g.F.Files.told c.args.files.now))
      (effects (g.O.Sink.written c.args.out.now) (g.W.Wire.told c.receive.new.self) (g.F.Files.told c.args.files.now))
      c.args.buffer.now c.receive.new.into refl refl (rw c.in_default.is at c.receive.ensures.told),
)
