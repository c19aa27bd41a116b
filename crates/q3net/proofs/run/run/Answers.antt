use Rattle.std.proofs.Common.{inl, inr}
use Rattle.std.specs.Prelude.{map}
use Rattle.std.specs.String.{string_bytes}
use Rattle.q3_command.specs.Command.{command_of}
use Rattle.q3_runs.specs.Run.{left_so}
use Rattle.q3_runs.specs.Verdict.{outside}
use Rattle.q3net.proofs.RunEnds.{prints, reports}
use Rattle.q3net.proofs.RunLooks.{touches, has_left}
use Rattle.q3net.proofs.Outside.{executes_of, files_failed, usage_of_none, four_fails, completes, decides, no_command_so, nine_fails, no_wire_passed, statuses_in}
use Rattle.q3net.proofs.RunSeeks.{seeks_as}
use Rattle.q3net.proofs.run.run.Goals as goal

pub returns-clause-prints : goal.returns-clause-prints
returns-clause-prints g c =
    prints c.texts_follow.ensures (command_of (map string_bytes c.args.words.now)) (outside (g.F.Files.told c.args.files.now) (g.W.Wire.told c.args.wire.now) (g.C.Clock.readings c.args.clock.now)) (g.F.Files.write_faults c.args.files.now) (g.F.Files.write_faults c.execute-ended.new.files)
    (g.O.Sink.written c.args.out.now) (g.O.Sink.written c.execute-ended.new.out) (g.O.Sink.written c.end.new.out) (left_so (g.W.Wire.told c.execute-ended.new.wire) (g.F.Files.told c.execute-ended.new.files)) c.execute-ended.result c.end.result c.execute-ended.ensures.executes
    c.execute-ended.ensures.file_cause c.end.ensures.took

pub returns-clause-report : goal.returns-clause-report
returns-clause-report g c =
    reports c.texts_follow.ensures (command_of (map string_bytes c.args.words.now)) (outside (g.F.Files.told c.args.files.now) (g.W.Wire.told c.args.wire.now) (g.C.Clock.readings c.args.clock.now)) (g.O.Sink.written c.args.out.now) (g.O.Sink.written c.execute-ended.new.out) (g.O.Sink.written c.end.new.out)
    (left_so (g.W.Wire.told c.execute-ended.new.wire) (g.F.Files.told c.execute-ended.new.files)) c.execute-ended.result c.end.result c.execute-ended.ensures.executes c.end.ensures.took

pub returns-clause-touches : goal.returns-clause-touches
returns-clause-touches g c =
    touches (command_of (map string_bytes c.args.words.now)) (outside (g.F.Files.told c.args.files.now) (g.W.Wire.told c.args.wire.now) (g.C.Clock.readings c.args.clock.now)) (g.F.Files.told c.execute-ended.new.files) c.execute-ended.result c.execute-ended.ensures.gives

pub returns-clause-leaves : goal.returns-clause-leaves
returns-clause-leaves g c =
    has_left (command_of (map string_bytes c.args.words.now)) (outside (g.F.Files.told c.args.files.now) (g.W.Wire.told c.args.wire.now) (g.C.Clock.readings c.args.clock.now)) (g.F.Files.told c.execute-ended.new.files) c.execute-ended.result c.end.result c.execute-ended.ensures.gives
    (elim c.end.ensures.status [ inl said ↦ inl said.0 | inr failed ↦ inr failed.0 ])

pub returns-clause-writes : goal.returns-clause-writes
returns-clause-writes g c =
    files_failed (command_of (map string_bytes c.args.words.now)) (outside (g.F.Files.told c.args.files.now) (g.W.Wire.told c.args.wire.now) (g.C.Clock.readings c.args.clock.now)) (g.O.Sink.written c.args.out.now) (g.O.Sink.written c.execute-ended.new.out) c.execute-ended.result
    (g.F.Files.write_faults c.args.files.now) (g.F.Files.write_faults c.execute-ended.new.files) (executes_of (command_of (map string_bytes c.args.words.now)) (outside (g.F.Files.told c.args.files.now) (g.W.Wire.told c.args.wire.now) (g.C.Clock.readings c.args.clock.now)) (g.O.Sink.written c.args.out.now) (g.O.Sink.written c.execute-ended.new.out) (left_so (g.W.Wire.told c.execute-ended.new.wire) (g.F.Files.told c.execute-ended.new.files)) c.execute-ended.result c.execute-ended.ensures.executes) c.execute-ended.ensures.file_cause

pub returns-clause-sought : goal.returns-clause-sought
returns-clause-sought g c =
    seeks_as c.texts_follow.ensures (command_of (map string_bytes c.args.words.now)) (outside (g.F.Files.told c.args.files.now) (g.W.Wire.told c.args.wire.now) (g.C.Clock.readings c.args.clock.now)) (g.O.Sink.written c.args.out.now) (g.O.Sink.written c.execute-ended.new.out) (g.O.Sink.written c.end.new.out)
    c.execute-ended.result c.end.result c.execute-ended.ensures.sought c.end.ensures.took

pub returns-clause-usage : goal.returns-clause-usage
returns-clause-usage g c =
    usage_of_none (command_of (map string_bytes c.args.words.now)) (outside (g.F.Files.told c.args.files.now) (g.W.Wire.told c.args.wire.now) (g.C.Clock.readings c.args.clock.now)) (g.O.Sink.written c.args.out.now) (g.O.Sink.written c.execute-ended.new.out) c.execute-ended.result c.end.result
    (g.O.Sink.faults c.execute-ended.new.out) (g.O.Sink.faults c.end.new.out) (executes_of (command_of (map string_bytes c.args.words.now)) (outside (g.F.Files.told c.args.files.now) (g.W.Wire.told c.args.wire.now) (g.C.Clock.readings c.args.clock.now)) (g.O.Sink.written c.args.out.now) (g.O.Sink.written c.execute-ended.new.out) (left_so (g.W.Wire.told c.execute-ended.new.wire) (g.F.Files.told c.execute-ended.new.files)) c.execute-ended.result c.execute-ended.ensures.executes) c.end.ensures.status

pub returns-clause-wire_fault : goal.returns-clause-wire_fault
returns-clause-wire_fault g c = nine_fails c.execute-ended.result c.end.result (g.O.Sink.faults c.execute-ended.new.out) (g.O.Sink.faults c.end.new.out) (g.W.Wire.faults c.args.wire.now) (g.W.Wire.faults c.execute-ended.new.wire) c.execute-ended.ensures.wire_cause c.end.ensures.status

pub returns-clause-no_wire_fault_passed : goal.returns-clause-no_wire_fault_passed
returns-clause-no_wire_fault_passed g c = no_wire_passed c.execute-ended.result c.end.result (g.O.Sink.faults c.execute-ended.new.out) (g.O.Sink.faults c.end.new.out) (g.W.Wire.faults c.args.wire.now) (g.W.Wire.faults c.execute-ended.new.wire) c.execute-ended.ensures.wire_cause c.end.ensures.status

pub returns-clause-statuses : goal.returns-clause-statuses
returns-clause-statuses g c = statuses_in c.execute-ended.result c.end.result (g.O.Sink.faults c.execute-ended.new.out) (g.O.Sink.faults c.end.new.out) c.end.ensures.status

pub returns-clause-decided : goal.returns-clause-decided
returns-clause-decided g c = decides (command_of (map string_bytes c.args.words.now)) (outside (g.F.Files.told c.args.files.now) (g.W.Wire.told c.args.wire.now) (g.C.Clock.readings c.args.clock.now)) (g.O.Sink.written c.args.out.now) (g.O.Sink.written c.execute-ended.new.out) c.execute-ended.result c.end.result (g.O.Sink.faults c.execute-ended.new.out) (g.O.Sink.faults c.end.new.out) (executes_of (command_of (map string_bytes c.args.words.now)) (outside (g.F.Files.told c.args.files.now) (g.W.Wire.told c.args.wire.now) (g.C.Clock.readings c.args.clock.now)) (g.O.Sink.written c.args.out.now) (g.O.Sink.written c.execute-ended.new.out) (left_so (g.W.Wire.told c.execute-ended.new.wire) (g.F.Files.told c.execute-ended.new.files)) c.execute-ended.result c.execute-ended.ensures.executes) c.end.ensures.status

pub returns-clause-no_command : goal.returns-clause-no_command
returns-clause-no_command g c = no_command_so (command_of (map string_bytes c.args.words.now)) (outside (g.F.Files.told c.args.files.now) (g.W.Wire.told c.args.wire.now) (g.C.Clock.readings c.args.clock.now)) c.end.result (decides (command_of (map string_bytes c.args.words.now)) (outside (g.F.Files.told c.args.files.now) (g.W.Wire.told c.args.wire.now) (g.C.Clock.readings c.args.clock.now)) (g.O.Sink.written c.args.out.now) (g.O.Sink.written c.execute-ended.new.out) c.execute-ended.result c.end.result (g.O.Sink.faults c.execute-ended.new.out) (g.O.Sink.faults c.end.new.out) (executes_of (command_of (map string_bytes c.args.words.now)) (outside (g.F.Files.told c.args.files.now) (g.W.Wire.told c.args.wire.now) (g.C.Clock.readings c.args.clock.now)) (g.O.Sink.written c.args.out.now) (g.O.Sink.written c.execute-ended.new.out) (left_so (g.W.Wire.told c.execute-ended.new.wire) (g.F.Files.told c.execute-ended.new.files)) c.execute-ended.result c.execute-ended.ensures.executes) c.end.ensures.status)

pub returns-clause-write_fault : goal.returns-clause-write_fault
returns-clause-write_fault g c =
    four_fails (command_of (map string_bytes c.args.words.now)) (outside (g.F.Files.told c.args.files.now) (g.W.Wire.told c.args.wire.now) (g.C.Clock.readings c.args.clock.now)) (g.O.Sink.written c.args.out.now) (g.O.Sink.written c.execute-ended.new.out) c.execute-ended.result c.end.result (g.F.Files.write_faults c.args.files.now) (g.F.Files.write_faults c.execute-ended.new.files) (g.O.Sink.faults c.args.out.now) (g.O.Sink.faults c.execute-ended.new.out) (g.O.Sink.faults c.end.new.out)
    (executes_of (command_of (map string_bytes c.args.words.now)) (outside (g.F.Files.told c.args.files.now) (g.W.Wire.told c.args.wire.now) (g.C.Clock.readings c.args.clock.now)) (g.O.Sink.written c.args.out.now) (g.O.Sink.written c.execute-ended.new.out) (left_so (g.W.Wire.told c.execute-ended.new.wire) (g.F.Files.told c.execute-ended.new.files)) c.execute-ended.result c.execute-ended.ensures.executes) c.execute-ended.ensures.file_cause c.execute-ended.ensures.write_cause c.end.ensures.status

pub returns-clause-complete : goal.returns-clause-complete
returns-clause-complete g c =
    completes (command_of (map string_bytes c.args.words.now)) (outside (g.F.Files.told c.args.files.now) (g.W.Wire.told c.args.wire.now) (g.C.Clock.readings c.args.clock.now)) (g.O.Sink.written c.args.out.now) (g.O.Sink.written c.execute-ended.new.out) c.execute-ended.result c.end.result (g.F.Files.faults c.args.files.now) (g.F.Files.faults c.execute-ended.new.files) (g.F.Files.write_faults c.args.files.now) (g.F.Files.write_faults c.execute-ended.new.files) (g.O.Sink.faults c.args.out.now) (g.O.Sink.faults c.execute-ended.new.out) (g.O.Sink.faults c.end.new.out) (g.W.Wire.faults c.args.wire.now) (g.W.Wire.faults c.execute-ended.new.wire)
    (executes_of (command_of (map string_bytes c.args.words.now)) (outside (g.F.Files.told c.args.files.now) (g.W.Wire.told c.args.wire.now) (g.C.Clock.readings c.args.clock.now)) (g.O.Sink.written c.args.out.now) (g.O.Sink.written c.execute-ended.new.out) (left_so (g.W.Wire.told c.execute-ended.new.wire) (g.F.Files.told c.execute-ended.new.files)) c.execute-ended.result c.execute-ended.ensures.executes) c.execute-ended.ensures.read_cause c.execute-ended.ensures.file_cause c.execute-ended.ensures.write_cause c.execute-ended.ensures.wire_cause c.end.ensures.status
