use Rattle.std.proofs.Common.{◌∙◌}
use Rattle.std.proofs.lemmas.Result.{err_from_is_err_and}
use Rattle.q3_script.specs.declared.cause.ScriptKind.TheVariants as kinds
use Rattle.q3_node.specs.Node.{new_node}
use Rattle.q3_node.specs.Running.{effects}
use Rattle.q3_node.specs.AtClient.{client_rules}
use Rattle.q3_runs.specs.Verdict.{outside, IsJoinVerdict, joined, profile_in, events_in}
use Rattle.q3_runs.proofs.Noding.{joins, one_client, no_profile_executes, no_profile_given, no_script_executes, no_script_given, join_passed, loop_failed, loop_done, loop_left, loop_all, passed_binds, node_read_cause, node_write_cause, node_wire_cause, node_file_cause, part_file_cause, no_profile_written, no_events_written}
use Rattle.q3_runs.proofs.Looking.{both_looked}
use Rattle.q3_runs.proofs.nodes.join.Goals as goal

pub returns-in_err-profile-clause-executes : goal.returns-in_err-profile-clause-executes
returns-in_err-profile-clause-executes g c =
    let p = err_from_is_err_and c.from_residual.result c.from_residual.ensures.1 in
    rw (p.1, p.2) (no_profile_executes c.texts_follow.ensures (outside (g.F.Files.told c.args.files.now) (g.W.Wire.told c.args.wire.now) (g.C.Clock.readings c.args.clock.now)) (IsJoinVerdict (outside (g.F.Files.told c.args.files.now) (g.W.Wire.told c.args.wire.now) (g.C.Clock.readings c.args.clock.now)) c.args.profile.now c.args.script.now c.args.at c.args.server) kinds.Join c.args.profile.now c.args.script.now c.args.at (joined c.args.server) (g.O.Sink.written c.args.out.now) c.in_err-profile.field-0.0 (joins (outside (g.F.Files.told c.args.files.now) (g.W.Wire.told c.args.wire.now) (g.C.Clock.readings c.args.clock.now)) c.args.profile.now c.args.script.now c.args.at c.args.server) c.in_err-profile.ensures.gets)

pub returns-in_err-profile-clause-gives : goal.returns-in_err-profile-clause-gives
returns-in_err-profile-clause-gives g c =
    let p = err_from_is_err_and c.from_residual.result c.from_residual.ensures.1 in
    rw (p.1, p.2) (no_profile_given (outside (g.F.Files.told c.args.files.now) (g.W.Wire.told c.args.wire.now) (g.C.Clock.readings c.args.clock.now)) (IsJoinVerdict (outside (g.F.Files.told c.args.files.now) (g.W.Wire.told c.args.wire.now) (g.C.Clock.readings c.args.clock.now)) c.args.profile.now c.args.script.now c.args.at c.args.server) kinds.Join c.args.profile.now c.args.script.now c.args.at (joined c.args.server) (g.F.Files.told c.load_profile.new.files) c.in_err-profile.field-0.0 (joins (outside (g.F.Files.told c.args.files.now) (g.W.Wire.told c.args.wire.now) (g.C.Clock.readings c.args.clock.now)) c.args.profile.now c.args.script.now c.args.at c.args.server) c.in_err-profile.ensures.gets c.in_err-profile.ensures.gives)

pub returns-in_err-events-clause-executes : goal.returns-in_err-events-clause-executes
returns-in_err-events-clause-executes g c =
    let p = err_from_is_err_and c.from_residual-in_err-events.result c.from_residual-in_err-events.ensures.1 in
    rw (p.1, p.2) (no_script_executes c.texts_follow.ensures (outside (g.F.Files.told c.args.files.now) (g.W.Wire.told c.args.wire.now) (g.C.Clock.readings c.args.clock.now)) (IsJoinVerdict (outside (g.F.Files.told c.args.files.now) (g.W.Wire.told c.args.wire.now) (g.C.Clock.readings c.args.clock.now)) c.args.profile.now c.args.script.now c.args.at c.args.server) kinds.Join c.args.profile.now c.args.script.now c.args.at (joined c.args.server) (g.F.Files.told c.load_profile.new.files) c.in_ok-profile.profile (g.O.Sink.written c.args.out.now) c.in_err-events.field-0.0 (joins (outside (g.F.Files.told c.args.files.now) (g.W.Wire.told c.args.wire.now) (g.C.Clock.readings c.args.clock.now)) c.args.profile.now c.args.script.now c.args.at c.args.server) c.in_ok-profile.ensures.gets c.in_ok-profile.ensures.gives c.in_err-events.ensures.gets)

pub returns-in_err-events-clause-gives : goal.returns-in_err-events-clause-gives
returns-in_err-events-clause-gives g c =
    let p = err_from_is_err_and c.from_residual-in_err-events.result c.from_residual-in_err-events.ensures.1 in
    rw (p.1, p.2) (no_script_given (outside (g.F.Files.told c.args.files.now) (g.W.Wire.told c.args.wire.now) (g.C.Clock.readings c.args.clock.now)) (IsJoinVerdict (outside (g.F.Files.told c.args.files.now) (g.W.Wire.told c.args.wire.now) (g.C.Clock.readings c.args.clock.now)) c.args.profile.now c.args.script.now c.args.at c.args.server) kinds.Join c.args.profile.now c.args.script.now c.args.at (joined c.args.server) (g.F.Files.told c.load_profile.new.files) (g.F.Files.told c.load_events.new.files) c.in_ok-profile.profile c.in_err-events.field-0.0 (joins (outside (g.F.Files.told c.args.files.now) (g.W.Wire.told c.args.wire.now) (g.C.Clock.readings c.args.clock.now)) c.args.profile.now c.args.script.now c.args.at c.args.server) c.in_ok-profile.ensures.gets c.in_ok-profile.ensures.gives c.in_err-events.ensures.gets c.in_err-events.ensures.gives)

pub returns-in_err-join_loop-clause-executes : goal.returns-in_err-join_loop-clause-executes
returns-in_err-join_loop-clause-executes g c =
    let p = err_from_is_err_and c.from_residual-in_err-join_loop.result c.from_residual-in_err-join_loop.ensures.1 in
    let one = one_client c.in_ok-profile.profile c.args.server c.in_ok-events.events.items c.in_ok-events.ensures.ordered.2 in
    let passed = join_passed (outside (g.F.Files.told c.args.files.now) (g.W.Wire.told c.args.wire.now) (g.C.Clock.readings c.args.clock.now)) c.args.profile.now c.args.script.now c.args.at c.args.server (g.F.Files.told c.load_profile.new.files) c.in_ok-profile.profile c.in_ok-events.events.items one.0 one.1 c.in_ok-profile.ensures.gets c.in_ok-profile.ensures.gives c.in_ok-events.ensures.gets in
    rw (p.1, p.2) (loop_failed c.texts_follow.ensures (outside (g.F.Files.told c.args.files.now) (g.W.Wire.told c.args.wire.now) (g.C.Clock.readings c.args.clock.now)) (IsJoinVerdict (outside (g.F.Files.told c.args.files.now) (g.W.Wire.told c.args.wire.now) (g.C.Clock.readings c.args.clock.now)) c.args.profile.now c.args.script.now c.args.at c.args.server) c.args.profile.now c.args.script.now c.args.at client_rules (new_node one.0 c.in_ok-events.events.items) (g.W.Wire.bound c.join_loop.new.wire) (g.C.Clock.readings c.join_loop.new.clock) (g.O.Sink.written c.args.out.now) (g.F.Files.told c.load_events.new.files) (effects (g.O.Sink.written c.join_loop.new.out) (g.W.Wire.told c.join_loop.new.wire) (g.F.Files.told c.join_loop.new.files)) c.in_err-join_loop.field-0.0 passed (both_looked (g.F.Files.told c.args.files.now) (g.F.Files.told c.load_profile.new.files) (g.F.Files.told c.load_events.new.files) c.args.profile.now c.args.script.now c.in_ok-profile.profile c.in_ok-events.events c.in_ok-profile.ensures.gives c.in_ok-events.ensures.gives) ((rw c.deref.ensures.value at c.in_err-join_loop.ensures.ran) one.0 one.1) c.in_err-join_loop.ensures.flushed)

pub returns-clause-executes : goal.returns-clause-executes
returns-clause-executes g c =
    let one = one_client c.in_ok-profile.profile c.args.server c.in_ok-events.events.items c.in_ok-events.ensures.ordered.2 in
    let passed = join_passed (outside (g.F.Files.told c.args.files.now) (g.W.Wire.told c.args.wire.now) (g.C.Clock.readings c.args.clock.now)) c.args.profile.now c.args.script.now c.args.at c.args.server (g.F.Files.told c.load_profile.new.files) c.in_ok-profile.profile c.in_ok-events.events.items one.0 one.1 c.in_ok-profile.ensures.gets c.in_ok-profile.ensures.gives c.in_ok-events.ensures.gets in
    loop_done (outside (g.F.Files.told c.args.files.now) (g.W.Wire.told c.args.wire.now) (g.C.Clock.readings c.args.clock.now)) (IsJoinVerdict (outside (g.F.Files.told c.args.files.now) (g.W.Wire.told c.args.wire.now) (g.C.Clock.readings c.args.clock.now)) c.args.profile.now c.args.script.now c.args.at c.args.server) c.args.profile.now c.args.script.now c.args.at client_rules (new_node one.0 c.in_ok-events.events.items) (g.W.Wire.bound c.join_loop.new.wire) (g.C.Clock.readings c.join_loop.new.clock) (g.O.Sink.written c.args.out.now) (g.F.Files.told c.load_events.new.files) (effects (g.O.Sink.written c.join_loop.new.out) (g.W.Wire.told c.join_loop.new.wire) (g.F.Files.told c.join_loop.new.files)) passed ((rw c.deref.ensures.value at c.in_ok-join_loop.ensures.ran) one.0 one.1) c.in_ok-join_loop.ensures.flushed

pub returns-in_err-join_loop-clause-binds : goal.returns-in_err-join_loop-clause-binds
returns-in_err-join_loop-clause-binds g c =
    let one = one_client c.in_ok-profile.profile c.args.server c.in_ok-events.events.items c.in_ok-events.ensures.ordered.2 in
    let passed = join_passed (outside (g.F.Files.told c.args.files.now) (g.W.Wire.told c.args.wire.now) (g.C.Clock.readings c.args.clock.now)) c.args.profile.now c.args.script.now c.args.at c.args.server (g.F.Files.told c.load_profile.new.files) c.in_ok-profile.profile c.in_ok-events.events.items one.0 one.1 c.in_ok-profile.ensures.gets c.in_ok-profile.ensures.gives c.in_ok-events.ensures.gets in
    λ bound. passed_binds (outside (g.F.Files.told c.args.files.now) (g.W.Wire.told c.args.wire.now) (g.C.Clock.readings c.args.clock.now)) (IsJoinVerdict (outside (g.F.Files.told c.args.files.now) (g.W.Wire.told c.args.wire.now) (g.C.Clock.readings c.args.clock.now)) c.args.profile.now c.args.script.now c.args.at c.args.server) c.args.profile.now c.args.script.now c.args.at _ passed

pub returns-clause-binds : goal.returns-clause-binds
returns-clause-binds g c =
    let one = one_client c.in_ok-profile.profile c.args.server c.in_ok-events.events.items c.in_ok-events.ensures.ordered.2 in
    let passed = join_passed (outside (g.F.Files.told c.args.files.now) (g.W.Wire.told c.args.wire.now) (g.C.Clock.readings c.args.clock.now)) c.args.profile.now c.args.script.now c.args.at c.args.server (g.F.Files.told c.load_profile.new.files) c.in_ok-profile.profile c.in_ok-events.events.items one.0 one.1 c.in_ok-profile.ensures.gets c.in_ok-profile.ensures.gives c.in_ok-events.ensures.gets in
    λ bound. passed_binds (outside (g.F.Files.told c.args.files.now) (g.W.Wire.told c.args.wire.now) (g.C.Clock.readings c.args.clock.now)) (IsJoinVerdict (outside (g.F.Files.told c.args.files.now) (g.W.Wire.told c.args.wire.now) (g.C.Clock.readings c.args.clock.now)) c.args.profile.now c.args.script.now c.args.at c.args.server) c.args.profile.now c.args.script.now c.args.at _ passed

pub returns-in_err-join_loop-clause-gives : goal.returns-in_err-join_loop-clause-gives
returns-in_err-join_loop-clause-gives g c =
    let p = err_from_is_err_and c.from_residual-in_err-join_loop.result c.from_residual-in_err-join_loop.ensures.1 in
    let one = one_client c.in_ok-profile.profile c.args.server c.in_ok-events.events.items c.in_ok-events.ensures.ordered.2 in
    let passed = join_passed (outside (g.F.Files.told c.args.files.now) (g.W.Wire.told c.args.wire.now) (g.C.Clock.readings c.args.clock.now)) c.args.profile.now c.args.script.now c.args.at c.args.server (g.F.Files.told c.load_profile.new.files) c.in_ok-profile.profile c.in_ok-events.events.items one.0 one.1 c.in_ok-profile.ensures.gets c.in_ok-profile.ensures.gives c.in_ok-events.ensures.gets in
    rw (p.1, p.2) (loop_left (outside (g.F.Files.told c.args.files.now) (g.W.Wire.told c.args.wire.now) (g.C.Clock.readings c.args.clock.now)) (IsJoinVerdict (outside (g.F.Files.told c.args.files.now) (g.W.Wire.told c.args.wire.now) (g.C.Clock.readings c.args.clock.now)) c.args.profile.now c.args.script.now c.args.at c.args.server) c.args.profile.now c.args.script.now c.args.at client_rules (new_node one.0 c.in_ok-events.events.items) (g.W.Wire.bound c.join_loop.new.wire) (g.C.Clock.readings c.join_loop.new.clock) (g.O.Sink.written c.args.out.now) (g.F.Files.told c.load_events.new.files) (effects (g.O.Sink.written c.join_loop.new.out) (g.W.Wire.told c.join_loop.new.wire) (g.F.Files.told c.join_loop.new.files)) c.in_err-join_loop.field-0.0 passed
    (both_looked (g.F.Files.told c.args.files.now) (g.F.Files.told c.load_profile.new.files) (g.F.Files.told c.load_events.new.files) c.args.profile.now c.args.script.now c.in_ok-profile.profile c.in_ok-events.events c.in_ok-profile.ensures.gives c.in_ok-events.ensures.gives) ((rw c.deref.ensures.value at c.in_err-join_loop.ensures.ran) one.0 one.1))

pub returns-clause-gives : goal.returns-clause-gives
returns-clause-gives g c =
    let one = one_client c.in_ok-profile.profile c.args.server c.in_ok-events.events.items c.in_ok-events.ensures.ordered.2 in
    let passed = join_passed (outside (g.F.Files.told c.args.files.now) (g.W.Wire.told c.args.wire.now) (g.C.Clock.readings c.args.clock.now)) c.args.profile.now c.args.script.now c.args.at c.args.server (g.F.Files.told c.load_profile.new.files) c.in_ok-profile.profile c.in_ok-events.events.items one.0 one.1 c.in_ok-profile.ensures.gets c.in_ok-profile.ensures.gives c.in_ok-events.ensures.gets in
    loop_all (outside (g.F.Files.told c.args.files.now) (g.W.Wire.told c.args.wire.now) (g.C.Clock.readings c.args.clock.now)) (IsJoinVerdict (outside (g.F.Files.told c.args.files.now) (g.W.Wire.told c.args.wire.now) (g.C.Clock.readings c.args.clock.now)) c.args.profile.now c.args.script.now c.args.at c.args.server) c.args.profile.now c.args.script.now c.args.at client_rules (new_node one.0 c.in_ok-events.events.items) (g.W.Wire.bound c.join_loop.new.wire) (g.C.Clock.readings c.join_loop.new.clock) (g.O.Sink.written c.args.out.now) (g.F.Files.told c.load_events.new.files) (effects (g.O.Sink.written c.join_loop.new.out) (g.W.Wire.told c.join_loop.new.wire) (g.F.Files.told c.join_loop.new.files)) passed
    (both_looked (g.F.Files.told c.args.files.now) (g.F.Files.told c.load_profile.new.files) (g.F.Files.told c.load_events.new.files) c.args.profile.now c.args.script.now c.in_ok-profile.profile c.in_ok-events.events c.in_ok-profile.ensures.gives c.in_ok-events.ensures.gives) ((rw c.deref.ensures.value at c.in_ok-join_loop.ensures.ran) one.0 one.1)

pub returns-in_err-join_loop-clause-read_cause : goal.returns-in_err-join_loop-clause-read_cause
returns-in_err-join_loop-clause-read_cause g c =
    let p = err_from_is_err_and c.from_residual-in_err-join_loop.result c.from_residual-in_err-join_loop.ensures.1 in
    rw (p.1, p.2) (node_read_cause (g.F.Files.faults c.args.files.now) (g.F.Files.faults c.join_loop.new.files) c.in_err-join_loop.field-0.0 (c.in_err-join_loop.ensures.reads ∙ c.in_ok-events.ensures.read_cause ∙ c.in_ok-profile.ensures.read_cause))

pub returns-in_err-join_loop-clause-write_cause : goal.returns-in_err-join_loop-clause-write_cause
returns-in_err-join_loop-clause-write_cause g c =
    let p = err_from_is_err_and c.from_residual-in_err-join_loop.result c.from_residual-in_err-join_loop.ensures.1 in
    rw (p.1, p.2) (node_write_cause (g.O.Sink.faults c.args.out.now) (g.O.Sink.faults c.join_loop.new.out) c.in_err-join_loop.field-0.0 c.in_err-join_loop.ensures.write_cause)

pub returns-in_err-join_loop-clause-wire_cause : goal.returns-in_err-join_loop-clause-wire_cause
returns-in_err-join_loop-clause-wire_cause g c =
    let p = err_from_is_err_and c.from_residual-in_err-join_loop.result c.from_residual-in_err-join_loop.ensures.1 in
    rw (p.1, p.2) (node_wire_cause (g.W.Wire.faults c.args.wire.now) (g.W.Wire.faults c.join_loop.new.wire) c.in_err-join_loop.field-0.0 c.in_err-join_loop.ensures.wire_cause)

pub returns-in_err-join_loop-clause-file_cause : goal.returns-in_err-join_loop-clause-file_cause
returns-in_err-join_loop-clause-file_cause g c =
    let p = err_from_is_err_and c.from_residual-in_err-join_loop.result c.from_residual-in_err-join_loop.ensures.1 in
    rw (p.1, p.2) (node_file_cause (g.F.Files.write_faults c.args.files.now) (g.F.Files.write_faults c.load_events.new.files) (g.F.Files.write_faults c.join_loop.new.files) c.in_err-join_loop.field-0.0
    (c.in_ok-events.ensures.writes ∙ c.in_ok-profile.ensures.writes) c.in_err-join_loop.ensures.file_cause)

pub returns-in_err-profile-clause-file_cause : goal.returns-in_err-profile-clause-file_cause
returns-in_err-profile-clause-file_cause g c =
    let p = err_from_is_err_and c.from_residual.result c.from_residual.ensures.1 in
    rw (p.1, p.2) (part_file_cause (profile_in c.in_err-profile.ensures.gets.0) c.in_err-profile.field-0.0 (g.F.Files.write_faults c.args.files.now) (g.F.Files.write_faults c.load_profile.new.files) c.in_err-profile.ensures.gets.2 (no_profile_written c.in_err-profile.ensures.gets.0) c.in_err-profile.ensures.writes)

pub returns-in_err-events-clause-file_cause : goal.returns-in_err-events-clause-file_cause
returns-in_err-events-clause-file_cause g c =
    let p = err_from_is_err_and c.from_residual-in_err-events.result c.from_residual-in_err-events.ensures.1 in
    rw (p.1, p.2) (part_file_cause (events_in kinds.Join c.in_err-events.ensures.gets.0) c.in_err-events.field-0.0 (g.F.Files.write_faults c.args.files.now) (g.F.Files.write_faults c.load_events.new.files) c.in_err-events.ensures.gets.2 (no_events_written kinds.Join c.in_err-events.ensures.gets.0) (c.in_err-events.ensures.writes ∙ c.in_ok-profile.ensures.writes))
