use Rattle.std.proofs.lemmas.Result.{err_from_is_err_and}
use Rattle.q3_node.specs.Running.{effects}
use Rattle.q3_node.proofs.Parts.{line_done_so, line_stopped}
use Rattle.q3_node.proofs.turns.do_line.Goals as goal

pub returns-clause-does : goal.returns-clause-does
returns-clause-does g c =
    λ events found. rw (c.is_end.ensures, c.go_on.ensures)
    (line_done_so g.E.End.rules c.args.end.now c.line.new.self events c.args.course.now c.args.event.now found c.in_ok-made.made
    (effects (g.O.Sink.written c.args.out.now) (g.W.Wire.told c.args.wire.now) (g.F.Files.told c.args.files.now))
    (effects (g.O.Sink.written c.line.new.out) (g.W.Wire.told c.line.new.wire) (g.F.Files.told c.line.new.files)) c.in_ok-made.ensures.does)

pub returns-in_err-made-clause-does : goal.returns-in_err-made-clause-does
returns-in_err-made-clause-does g c =
    let p = err_from_is_err_and c.from_residual.result c.from_residual.ensures.1 in
    λ events found. rw (p.1, p.2)
    (line_stopped g.E.End.rules c.args.end.now c.line.new.self events c.args.course.now c.args.course.now c.args.event.now found
    (effects (g.O.Sink.written c.args.out.now) (g.W.Wire.told c.args.wire.now) (g.F.Files.told c.args.files.now))
    (effects (g.O.Sink.written c.line.new.out) (g.W.Wire.told c.line.new.wire) (g.F.Files.told c.line.new.files)) c.in_err-made.field-0.0 c.in_err-made.ensures.does)
