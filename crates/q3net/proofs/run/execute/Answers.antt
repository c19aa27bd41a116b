use Rattle.std.proofs.Common.{Some, None, [], refl}
use Rattle.q3_make.specs.Printed.{script_text}
use Rattle.q3_make.specs.Generated.{generated}
use Rattle.q3_command.specs.Command.{Help, Version, Replay, Make, Trial, Play, Index, Seek}
use Rattle.q3_runs.specs.Verdict.{outside, stops_nowhere, memory_first}
use Rattle.q3net.specs.Lines.{help_text, version_text}
use Rattle.q3net.specs.Verdict.{of_files, IsVerdict}
use Rattle.q3_runs.proofs.Ending.{text_executes}
use Rattle.q3net.proofs.RunEnds.{none_executes}
use Rattle.q3net.proofs.RunLooks.{none_given, text_given}
use Rattle.q3net.proofs.Outside.{no_file_fails, no_read_fails, no_wire_fails, wire_stays, make_makes_nothing, trial_makes_nothing, play_makes_nothing, play_wires_nothing, replay_wires_nothing, make_wires_nothing, trial_wires_nothing, make_reads_nothing, index_wires_nothing, seek_wires_nothing, seek_makes_nothing}
use Rattle.q3net.proofs.run.execute.Goals as goal

pub returns-in-None-clause-gives : goal.returns-in-None-clause-gives
returns-in-None-clause-gives g c = rw (← c.in-None.ensures.value) (none_given (outside (g.F.Files.told c.args.files.now) (g.W.Wire.told c.args.wire.now) (g.C.Clock.readings c.args.clock.now)))

pub returns-in-Some-Help-clause-gives : goal.returns-in-Some-Help-clause-gives
unfolding help_text
returns-in-Some-Help-clause-gives g c =
    let e = rw c.in-Some-Help.field-0-is at c.in-Some-Help.ensures.value in
    rw (← e) (text_given (Some Help) (outside (g.F.Files.told c.args.files.now) (g.W.Wire.told c.args.wire.now) (g.C.Clock.readings c.args.clock.now)) stops_nowhere help_text c.print.result refl)

pub returns-in-Some-Version-clause-gives : goal.returns-in-Some-Version-clause-gives
unfolding version_text
returns-in-Some-Version-clause-gives g c =
    let e = rw c.in-Some-Version.field-0-is at c.in-Some-Version.ensures.value in
    rw (← e) (text_given (Some Version) (outside (g.F.Files.told c.args.files.now) (g.W.Wire.told c.args.wire.now) (g.C.Clock.readings c.args.clock.now)) stops_nowhere version_text c.print-in-Some-Version.result refl)

pub returns-in-Some-Make-clause-gives : goal.returns-in-Some-Make-clause-gives
returns-in-Some-Make-clause-gives g c =
    let e = rw c.in-Some-Make.field-0-is at c.in-Some-Make.ensures.value in
    rw (← e) (text_given (Some (Make c.in-Some-Make.draws)) (outside (g.F.Files.told c.args.files.now) (g.W.Wire.told c.args.wire.now) (g.C.Clock.readings c.args.clock.now)) memory_first (script_text (generated c.in-Some-Make.draws.number c.in-Some-Make.draws.seed)) c.make.result refl)

pub returns-in-Some-Make-clause-read_cause : goal.returns-in-Some-Make-clause-read_cause
returns-in-Some-Make-clause-read_cause g c =
    no_read_fails (Some (Make c.in-Some-Make.draws)) (outside (g.F.Files.told c.args.files.now) (g.W.Wire.told c.args.wire.now) (g.C.Clock.readings c.args.clock.now)) (g.O.Sink.written c.args.out.now) (g.O.Sink.written c.make.new.out) c.make.result
    (g.F.Files.faults c.args.files.now) (g.F.Files.faults c.args.files.now) (make_reads_nothing (outside (g.F.Files.told c.args.files.now) (g.W.Wire.told c.args.wire.now) (g.C.Clock.readings c.args.clock.now)) c.in-Some-Make.draws)
    c.make.ensures.executes refl

pub returns-in-Some-Make-clause-file_cause : goal.returns-in-Some-Make-clause-file_cause
returns-in-Some-Make-clause-file_cause g c =
    no_file_fails (Some (Make c.in-Some-Make.draws)) (outside (g.F.Files.told c.args.files.now) (g.W.Wire.told c.args.wire.now) (g.C.Clock.readings c.args.clock.now)) (g.O.Sink.written c.args.out.now) (g.O.Sink.written c.make.new.out) c.make.result
    (g.F.Files.write_faults c.args.files.now) (g.F.Files.write_faults c.args.files.now) (make_makes_nothing (outside (g.F.Files.told c.args.files.now) (g.W.Wire.told c.args.wire.now) (g.C.Clock.readings c.args.clock.now)) c.in-Some-Make.draws)
    c.make.ensures.executes refl

pub returns-in-Some-Trial-clause-file_cause : goal.returns-in-Some-Trial-clause-file_cause
returns-in-Some-Trial-clause-file_cause g c =
    no_file_fails (Some (Trial c.in-Some-Trial.profile.now c.in-Some-Trial.draws)) (of_files (g.F.Files.told c.args.files.now)) (g.O.Sink.written c.args.out.now) (g.O.Sink.written c.trial.new.out) c.trial.result
    (g.F.Files.write_faults c.args.files.now) (g.F.Files.write_faults c.trial.new.files) (trial_makes_nothing (of_files (g.F.Files.told c.args.files.now)) c.in-Some-Trial.profile.now c.in-Some-Trial.draws)
    c.trial.ensures.executes c.trial.ensures.writes

pub returns-in-Some-Replay-clause-wire_cause : goal.returns-in-Some-Replay-clause-wire_cause
returns-in-Some-Replay-clause-wire_cause g c =
    no_wire_fails (Some (Replay c.in-Some-Replay.profile.now c.in-Some-Replay.script.now)) (of_files (g.F.Files.told c.args.files.now)) (g.O.Sink.written c.args.out.now) (g.O.Sink.written c.replay.new.out) c.replay.result (g.W.Wire.faults c.args.wire.now) (g.W.Wire.faults c.args.wire.now) (replay_wires_nothing (of_files (g.F.Files.told c.args.files.now)) c.in-Some-Replay.profile.now c.in-Some-Replay.script.now) c.replay.ensures.executes refl

pub returns-in-Some-Make-clause-wire_cause : goal.returns-in-Some-Make-clause-wire_cause
returns-in-Some-Make-clause-wire_cause g c =
    no_wire_fails (Some (Make c.in-Some-Make.draws)) (outside (g.F.Files.told c.args.files.now) (g.W.Wire.told c.args.wire.now) (g.C.Clock.readings c.args.clock.now)) (g.O.Sink.written c.args.out.now) (g.O.Sink.written c.make.new.out) c.make.result (g.W.Wire.faults c.args.wire.now) (g.W.Wire.faults c.args.wire.now) (make_wires_nothing (outside (g.F.Files.told c.args.files.now) (g.W.Wire.told c.args.wire.now) (g.C.Clock.readings c.args.clock.now)) c.in-Some-Make.draws) c.make.ensures.executes refl

pub returns-in-Some-Trial-clause-wire_cause : goal.returns-in-Some-Trial-clause-wire_cause
returns-in-Some-Trial-clause-wire_cause g c =
    no_wire_fails (Some (Trial c.in-Some-Trial.profile.now c.in-Some-Trial.draws)) (of_files (g.F.Files.told c.args.files.now)) (g.O.Sink.written c.args.out.now) (g.O.Sink.written c.trial.new.out) c.trial.result (g.W.Wire.faults c.args.wire.now) (g.W.Wire.faults c.args.wire.now) (trial_wires_nothing (of_files (g.F.Files.told c.args.files.now)) c.in-Some-Trial.profile.now c.in-Some-Trial.draws) c.trial.ensures.executes refl

pub returns-in-None-clause-executes : goal.returns-in-None-clause-executes
returns-in-None-clause-executes g c =
    rw (← c.in-None.ensures.value) (wire_stays None (outside (g.F.Files.told c.args.files.now) (g.W.Wire.told c.args.wire.now) (g.C.Clock.readings c.args.clock.now)) (g.O.Sink.written c.args.out.now) (g.O.Sink.written c.args.out.now) _ tt (none_executes c.texts_follow.ensures (outside (g.F.Files.told c.args.files.now) (g.W.Wire.told c.args.wire.now) (g.C.Clock.readings c.args.clock.now)) (g.O.Sink.written c.args.out.now)))

pub returns-in-Some-Help-clause-executes : goal.returns-in-Some-Help-clause-executes
unfolding help_text
returns-in-Some-Help-clause-executes g c =
    let e = rw c.in-Some-Help.field-0-is at c.in-Some-Help.ensures.value in
    rw (← e) (wire_stays (Some Help) (outside (g.F.Files.told c.args.files.now) (g.W.Wire.told c.args.wire.now) (g.C.Clock.readings c.args.clock.now)) (g.O.Sink.written c.args.out.now) (g.O.Sink.written c.print.new.out) c.print.result tt (text_executes (IsVerdict (outside (g.F.Files.told c.args.files.now) (g.W.Wire.told c.args.wire.now) (g.C.Clock.readings c.args.clock.now)) (Some Help)) (g.O.Sink.written c.args.out.now) (g.O.Sink.written c.print.new.out) stops_nowhere [] help_text c.print.result refl c.print.ensures.prints))

pub returns-in-Some-Version-clause-executes : goal.returns-in-Some-Version-clause-executes
unfolding version_text
returns-in-Some-Version-clause-executes g c =
    let e = rw c.in-Some-Version.field-0-is at c.in-Some-Version.ensures.value in
    rw (← e) (wire_stays (Some Version) (outside (g.F.Files.told c.args.files.now) (g.W.Wire.told c.args.wire.now) (g.C.Clock.readings c.args.clock.now)) (g.O.Sink.written c.args.out.now) (g.O.Sink.written c.print-in-Some-Version.new.out) c.print-in-Some-Version.result tt (text_executes (IsVerdict (outside (g.F.Files.told c.args.files.now) (g.W.Wire.told c.args.wire.now) (g.C.Clock.readings c.args.clock.now)) (Some Version)) (g.O.Sink.written c.args.out.now) (g.O.Sink.written c.print-in-Some-Version.new.out) stops_nowhere [] version_text c.print-in-Some-Version.result refl c.print-in-Some-Version.ensures.prints))

pub returns-in-Some-Make-clause-executes : goal.returns-in-Some-Make-clause-executes
returns-in-Some-Make-clause-executes g c =
    let e = rw c.in-Some-Make.field-0-is at c.in-Some-Make.ensures.value in
    rw (← e) (wire_stays (Some (Make c.in-Some-Make.draws)) (outside (g.F.Files.told c.args.files.now) (g.W.Wire.told c.args.wire.now) (g.C.Clock.readings c.args.clock.now)) (g.O.Sink.written c.args.out.now) (g.O.Sink.written c.make.new.out) c.make.result tt c.make.ensures.executes)

pub returns-in-Some-Replay-clause-executes : goal.returns-in-Some-Replay-clause-executes
returns-in-Some-Replay-clause-executes g c =
    let e = rw c.in-Some-Replay.field-0-is at c.in-Some-Replay.ensures.value in
    rw (← e) (wire_stays (Some (Replay c.in-Some-Replay.profile.now c.in-Some-Replay.script.now)) (outside (g.F.Files.told c.args.files.now) (g.W.Wire.told c.args.wire.now) (g.C.Clock.readings c.args.clock.now)) (g.O.Sink.written c.args.out.now) (g.O.Sink.written c.replay.new.out) c.replay.result tt c.replay.ensures.executes)

pub returns-in-Some-Trial-clause-executes : goal.returns-in-Some-Trial-clause-executes
returns-in-Some-Trial-clause-executes g c =
    let e = rw c.in-Some-Trial.field-0-is at c.in-Some-Trial.ensures.value in
    rw (← e) (wire_stays (Some (Trial c.in-Some-Trial.profile.now c.in-Some-Trial.draws)) (outside (g.F.Files.told c.args.files.now) (g.W.Wire.told c.args.wire.now) (g.C.Clock.readings c.args.clock.now)) (g.O.Sink.written c.args.out.now) (g.O.Sink.written c.trial.new.out) c.trial.result tt c.trial.ensures.executes)

pub returns-in-Some-Play-clause-file_cause : goal.returns-in-Some-Play-clause-file_cause
returns-in-Some-Play-clause-file_cause g c =
    no_file_fails (Some (Play c.in-Some-Play.profile.now c.in-Some-Play.demo.now)) (of_files (g.F.Files.told c.args.files.now)) (g.O.Sink.written c.args.out.now) (g.O.Sink.written c.play.new.out) c.play.result
    (g.F.Files.write_faults c.args.files.now) (g.F.Files.write_faults c.play.new.files) (play_makes_nothing (of_files (g.F.Files.told c.args.files.now)) c.in-Some-Play.profile.now c.in-Some-Play.demo.now)
    c.play.ensures.executes c.play.ensures.writes

pub returns-in-Some-Play-clause-wire_cause : goal.returns-in-Some-Play-clause-wire_cause
returns-in-Some-Play-clause-wire_cause g c =
    no_wire_fails (Some (Play c.in-Some-Play.profile.now c.in-Some-Play.demo.now)) (of_files (g.F.Files.told c.args.files.now)) (g.O.Sink.written c.args.out.now) (g.O.Sink.written c.play.new.out) c.play.result (g.W.Wire.faults c.args.wire.now) (g.W.Wire.faults c.args.wire.now) (play_wires_nothing (of_files (g.F.Files.told c.args.files.now)) c.in-Some-Play.profile.now c.in-Some-Play.demo.now) c.play.ensures.executes refl

pub returns-in-Some-Play-clause-executes : goal.returns-in-Some-Play-clause-executes
returns-in-Some-Play-clause-executes g c =
    let e = rw c.in-Some-Play.field-0-is at c.in-Some-Play.ensures.value in
    rw (← e) (wire_stays (Some (Play c.in-Some-Play.profile.now c.in-Some-Play.demo.now)) (outside (g.F.Files.told c.args.files.now) (g.W.Wire.told c.args.wire.now) (g.C.Clock.readings c.args.clock.now)) (g.O.Sink.written c.args.out.now) (g.O.Sink.written c.play.new.out) c.play.result tt c.play.ensures.executes)

pub returns-in-Some-Index-clause-wire_cause : goal.returns-in-Some-Index-clause-wire_cause
returns-in-Some-Index-clause-wire_cause g c =
    no_wire_fails (Some (Index c.in-Some-Index.profile.now c.in-Some-Index.demo.now c.in-Some-Index.name.now)) (of_files (g.F.Files.told c.args.files.now)) (g.O.Sink.written c.args.out.now) (g.O.Sink.written c.index.new.out) c.index.result (g.W.Wire.faults c.args.wire.now) (g.W.Wire.faults c.args.wire.now)
    (index_wires_nothing (of_files (g.F.Files.told c.args.files.now)) c.in-Some-Index.profile.now c.in-Some-Index.demo.now c.in-Some-Index.name.now) c.index.ensures.executes refl

pub returns-in-Some-Index-clause-executes : goal.returns-in-Some-Index-clause-executes
returns-in-Some-Index-clause-executes g c =
    let e = rw c.in-Some-Index.field-0-is at c.in-Some-Index.ensures.value in
    rw (← e) (wire_stays (Some (Index c.in-Some-Index.profile.now c.in-Some-Index.demo.now c.in-Some-Index.name.now)) (outside (g.F.Files.told c.args.files.now) (g.W.Wire.told c.args.wire.now) (g.C.Clock.readings c.args.clock.now)) (g.O.Sink.written c.args.out.now) (g.O.Sink.written c.index.new.out) c.index.result tt c.index.ensures.executes)

pub returns-in-Some-Seek-clause-file_cause : goal.returns-in-Some-Seek-clause-file_cause
returns-in-Some-Seek-clause-file_cause g c =
    no_file_fails (Some (Seek c.in-Some-Seek.profile.now c.in-Some-Seek.demo.now c.in-Some-Seek.name.now c.in-Some-Seek.records)) (of_files (g.F.Files.told c.args.files.now)) (g.O.Sink.written c.args.out.now) (g.O.Sink.written c.seek.new.out) c.seek.result
    (g.F.Files.write_faults c.args.files.now) (g.F.Files.write_faults c.seek.new.files) (seek_makes_nothing (of_files (g.F.Files.told c.args.files.now)) c.in-Some-Seek.profile.now c.in-Some-Seek.demo.now c.in-Some-Seek.name.now c.in-Some-Seek.records) c.seek.ensures.executes c.seek.ensures.writes

pub returns-in-Some-Seek-clause-wire_cause : goal.returns-in-Some-Seek-clause-wire_cause
returns-in-Some-Seek-clause-wire_cause g c =
    no_wire_fails (Some (Seek c.in-Some-Seek.profile.now c.in-Some-Seek.demo.now c.in-Some-Seek.name.now c.in-Some-Seek.records)) (of_files (g.F.Files.told c.args.files.now)) (g.O.Sink.written c.args.out.now) (g.O.Sink.written c.seek.new.out) c.seek.result (g.W.Wire.faults c.args.wire.now) (g.W.Wire.faults c.args.wire.now)
    (seek_wires_nothing (of_files (g.F.Files.told c.args.files.now)) c.in-Some-Seek.profile.now c.in-Some-Seek.demo.now c.in-Some-Seek.name.now c.in-Some-Seek.records) c.seek.ensures.executes refl

pub returns-in-Some-Seek-clause-executes : goal.returns-in-Some-Seek-clause-executes
returns-in-Some-Seek-clause-executes g c =
    let e = rw c.in-Some-Seek.field-0-is at c.in-Some-Seek.ensures.value in
    rw (← e) (wire_stays (Some (Seek c.in-Some-Seek.profile.now c.in-Some-Seek.demo.now c.in-Some-Seek.name.now c.in-Some-Seek.records)) (outside (g.F.Files.told c.args.files.now) (g.W.Wire.told c.args.wire.now) (g.C.Clock.readings c.args.clock.now)) (g.O.Sink.written c.args.out.now) (g.O.Sink.written c.seek.new.out) c.seek.result tt c.seek.ensures.executes)

pub returns-in-Some-Join-clause-binds : goal.returns-in-Some-Join-clause-binds
returns-in-Some-Join-clause-binds g c =
    let e = rw c.in-Some-Join.field-0-is at c.in-Some-Join.ensures.value in
    rw (← e) c.join.ensures.binds

pub returns-in-Some-Seek-clause-cheap : goal.returns-in-Some-Seek-clause-cheap
returns-in-Some-Seek-clause-cheap g c =
    let e = rw c.in-Some-Seek.field-0-is at c.in-Some-Seek.ensures.value in
    rw (← e) c.seek.ensures.cheap
