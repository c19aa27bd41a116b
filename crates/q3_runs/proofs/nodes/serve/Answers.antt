use Rattle.std.proofs.Common.{Ok, ◌∙◌}
use Rattle.std.proofs.lemmas.Result.{err_from_is_err_and}
use Rattle.q3_script.specs.declared.cause.ScriptKind.TheVariants as kinds
use Rattle.q3_server.specs.Server.{places, new_server}
use Rattle.q3_node.specs.Node.{most_turns, new_node, turns_of}
use Rattle.q3_node.specs.Running.{effects}
use Rattle.q3_node.specs.AtServer.{server_rules}
use Rattle.q3_runs.specs.Verdict.{outside, IsServeVerdict, served, profile_in, events_in}
use Rattle.q3_runs.proofs.Noding.{serves, no_profile_executes, no_profile_given, no_script_executes, no_script_given, serve_passed, served_left, still_bound, loop_failed, loop_done, passed_binds, node_read_cause, node_write_cause, node_wire_cause, node_file_cause, part_file_cause, no_profile_written, no_events_written}
use Rattle.q3_runs.proofs.Looking.{both_looked}
use Rattle.q3_runs.proofs.nodes.serve.Goals as goal

pub returns-in_err-profile-clause-executes : goal.returns-in_err-profile-clause-executes
returns-in_err-profile-clause-executes g c =
    let p = err_from_is_err_and c.from_residual.result c.from_residual.ensures.1 in
    rw (p.1, p.2) (no_profile_executes c.texts_follow.ensures (outside (g.F.Files.told c.args.files.now) (g.W.Wire.told c.args.wire.now) (g.C.Clock.readings c.args.clock.now)) (IsServeVerdict (outside (g.F.Files.told c.args.files.now) (g.W.Wire.told c.args.wire.now) (g.C.Clock.readings c.args.clock.now)) c.args.profile.now c.args.script.now c.args.at) kinds.Serve c.args.profile.now c.args.script.now c.args.at served (g.O.Sink.written c.args.out.now) c.in_err-profile.field-0.0 (serves (outside (g.F.Files.told c.args.files.now) (g.W.Wire.told c.args.wire.now) (g.C.Clock.readings c.args.clock.now)) c.args.profile.now c.args.script.now c.args.at) c.in_err-profile.ensures.gets)

pub returns-in_err-profile-clause-gives : goal.returns-in_err-profile-clause-gives
returns-in_err-profile-clause-gives g c =
    let p = err_from_is_err_and c.from_residual.result c.from_residual.ensures.1 in
    rw (p.1, p.2) (no_profile_given (outside (g.F.Files.told c.args.files.now) (g.W.Wire.told c.args.wire.now) (g.C.Clock.readings c.args.clock.now)) (IsServeVerdict (outside (g.F.Files.told c.args.files.now) (g.W.Wire.told c.args.wire.now) (g.C.Clock.readings c.args.clock.now)) c.args.profile.now c.args.script.now c.args.at) kinds.Serve c.args.profile.now c.args.script.now c.args.at served (g.F.Files.told c.load_profile.new.files) c.in_err-profile.field-0.0 (serves (outside (g.F.Files.told c.args.files.now) (g.W.Wire.told c.args.wire.now) (g.C.Clock.readings c.args.clock.now)) c.args.profile.now c.args.script.now c.args.at) c.in_err-profile.ensures.gets c.in_err-profile.ensures.gives)

pub returns-in_err-events-clause-executes : goal.returns-in_err-events-clause-executes
returns-in_err-events-clause-executes g c =
    let p = err_from_is_err_and c.from_residual-in_err-events.result c.from_residual-in_err-events.ensures.1 in
    rw (p.1, p.2) (no_script_executes c.texts_follow.ensures (outside (g.F.Files.told c.args.files.now) (g.W.Wire.told c.args.wire.now) (g.C.Clock.readings c.args.clock.now)) (IsServeVerdict (outside (g.F.Files.told c.args.files.now) (g.W.Wire.told c.args.wire.now) (g.C.Clock.readings c.args.clock.now)) c.args.profile.now c.args.script.now c.args.at) kinds.Serve c.args.profile.now c.args.script.now c.args.at served (g.F.Files.told c.load_profile.new.files) c.in_ok-profile.profile (g.O.Sink.written c.args.out.now) c.in_err-events.field-0.0 (serves (outside (g.F.Files.told c.args.files.now) (g.W.Wire.told c.args.wire.now) (g.C.Clock.readings c.args.clock.now)) c.args.profile.now c.args.script.now c.args.at) c.in_ok-profile.ensures.gets c.in_ok-profile.ensures.gives c.in_err-events.ensures.gets)

pub returns-in_err-events-clause-gives : goal.returns-in_err-events-clause-gives
returns-in_err-events-clause-gives g c =
    let p = err_from_is_err_and c.from_residual-in_err-events.result c.from_residual-in_err-events.ensures.1 in
    rw (p.1, p.2) (no_script_given (outside (g.F.Files.told c.args.files.now) (g.W.Wire.told c.args.wire.now) (g.C.Clock.readings c.args.clock.now)) (IsServeVerdict (outside (g.F.Files.told c.args.files.now) (g.W.Wire.told c.args.wire.now) (g.C.Clock.readings c.args.clock.now)) c.args.profile.now c.args.script.now c.args.at) kinds.Serve c.args.profile.now c.args.script.now c.args.at served (g.F.Files.told c.load_profile.new.files) (g.F.Files.told c.load_events.new.files) c.in_ok-profile.profile c.in_err-events.field-0.0 (serves (outside (g.F.Files.told c.args.files.now) (g.W.Wire.told c.args.wire.now) (g.C.Clock.readings c.args.clock.now)) c.args.profile.now c.args.script.now c.args.at) c.in_ok-profile.ensures.gets c.in_ok-profile.ensures.gives c.in_err-events.ensures.gets c.in_err-events.ensures.gives)

pub returns-in_err-serve_loop-clause-executes : goal.returns-in_err-serve_loop-clause-executes
returns-in_err-serve_loop-clause-executes g c =
    let p = err_from_is_err_and c.from_residual-in_err-serve_loop.result c.from_residual-in_err-serve_loop.ensures.1 in
    let passed = serve_passed (outside (g.F.Files.told c.args.files.now) (g.W.Wire.told c.args.wire.now) (g.C.Clock.readings c.args.clock.now)) c.args.profile.now c.args.script.now c.args.at (g.F.Files.told c.load_profile.new.files) c.in_ok-profile.profile c.in_ok-events.events.items c.in_ok-profile.ensures.gets c.in_ok-profile.ensures.gives c.in_ok-events.ensures.gets in
    rw (p.1, p.2) (loop_failed c.texts_follow.ensures (outside (g.F.Files.told c.args.files.now) (g.W.Wire.told c.args.wire.now) (g.C.Clock.readings c.args.clock.now)) (IsServeVerdict (outside (g.F.Files.told c.args.files.now) (g.W.Wire.told c.args.wire.now) (g.C.Clock.readings c.args.clock.now)) c.args.profile.now c.args.script.now c.args.at) c.args.profile.now c.args.script.now c.args.at server_rules (new_node (new_server c.in_ok-profile.profile places) c.in_ok-events.events.items) (g.W.Wire.bound c.serve_loop.new.wire) (g.C.Clock.readings c.serve_loop.new.clock) (g.O.Sink.written c.args.out.now) (g.F.Files.told c.load_events.new.files) (effects (g.O.Sink.written c.serve_loop.new.out) (g.W.Wire.told c.serve_loop.new.wire) (g.F.Files.told c.load_events.new.files)) c.in_err-serve_loop.field-0.0 passed (both_looked (g.F.Files.told c.args.files.now) (g.F.Files.told c.load_profile.new.files) (g.F.Files.told c.load_events.new.files) c.args.profile.now c.args.script.now c.in_ok-profile.profile c.in_ok-events.events c.in_ok-profile.ensures.gives c.in_ok-events.ensures.gives) (still_bound server_rules (new_node (new_server c.in_ok-profile.profile places) c.in_ok-events.events.items) c.args.at (g.W.Wire.bound c.serve_loop.new.wire) (g.C.Clock.readings c.args.clock.now) (g.C.Clock.readings c.serve_loop.new.clock) (g.O.Sink.written c.args.out.now) (g.O.Sink.written c.serve_loop.new.out) (g.W.Wire.told c.args.wire.now) (g.W.Wire.told c.serve_loop.new.wire) (g.F.Files.told c.load_events.new.files) _ (c.server_is_frugal.ensures.acts most_turns (new_node (new_server c.in_ok-profile.profile places) c.in_ok-events.events.items)) (rw c.deref.ensures.value at c.in_err-serve_loop.ensures.ran)) c.in_err-serve_loop.ensures.flushed)

pub returns-clause-executes : goal.returns-clause-executes
returns-clause-executes g c =
    let passed = serve_passed (outside (g.F.Files.told c.args.files.now) (g.W.Wire.told c.args.wire.now) (g.C.Clock.readings c.args.clock.now)) c.args.profile.now c.args.script.now c.args.at (g.F.Files.told c.load_profile.new.files) c.in_ok-profile.profile c.in_ok-events.events.items c.in_ok-profile.ensures.gets c.in_ok-profile.ensures.gives c.in_ok-events.ensures.gets in
    loop_done (outside (g.F.Files.told c.args.files.now) (g.W.Wire.told c.args.wire.now) (g.C.Clock.readings c.args.clock.now)) (IsServeVerdict (outside (g.F.Files.told c.args.files.now) (g.W.Wire.told c.args.wire.now) (g.C.Clock.readings c.args.clock.now)) c.args.profile.now c.args.script.now c.args.at) c.args.profile.now c.args.script.now c.args.at server_rules (new_node (new_server c.in_ok-profile.profile places) c.in_ok-events.events.items) (g.W.Wire.bound c.serve_loop.new.wire) (g.C.Clock.readings c.serve_loop.new.clock) (g.O.Sink.written c.args.out.now) (g.F.Files.told c.load_events.new.files) (effects (g.O.Sink.written c.serve_loop.new.out) (g.W.Wire.told c.serve_loop.new.wire) (g.F.Files.told c.load_events.new.files)) passed (still_bound server_rules (new_node (new_server c.in_ok-profile.profile places) c.in_ok-events.events.items) c.args.at (g.W.Wire.bound c.serve_loop.new.wire) (g.C.Clock.readings c.args.clock.now) (g.C.Clock.readings c.serve_loop.new.clock) (g.O.Sink.written c.args.out.now) (g.O.Sink.written c.serve_loop.new.out) (g.W.Wire.told c.args.wire.now) (g.W.Wire.told c.serve_loop.new.wire) (g.F.Files.told c.load_events.new.files) _ (c.server_is_frugal.ensures.acts most_turns (new_node (new_server c.in_ok-profile.profile places) c.in_ok-events.events.items)) (rw c.deref.ensures.value at c.in_ok-serve_loop.ensures.ran)) c.in_ok-serve_loop.ensures.flushed

pub returns-in_err-serve_loop-clause-binds : goal.returns-in_err-serve_loop-clause-binds
returns-in_err-serve_loop-clause-binds g c =
    let passed = serve_passed (outside (g.F.Files.told c.args.files.now) (g.W.Wire.told c.args.wire.now) (g.C.Clock.readings c.args.clock.now)) c.args.profile.now c.args.script.now c.args.at (g.F.Files.told c.load_profile.new.files) c.in_ok-profile.profile c.in_ok-events.events.items c.in_ok-profile.ensures.gets c.in_ok-profile.ensures.gives c.in_ok-events.ensures.gets in
    λ bound. passed_binds (outside (g.F.Files.told c.args.files.now) (g.W.Wire.told c.args.wire.now) (g.C.Clock.readings c.args.clock.now)) (IsServeVerdict (outside (g.F.Files.told c.args.files.now) (g.W.Wire.told c.args.wire.now) (g.C.Clock.readings c.args.clock.now)) c.args.profile.now c.args.script.now c.args.at) c.args.profile.now c.args.script.now c.args.at _ passed

pub returns-clause-binds : goal.returns-clause-binds
returns-clause-binds g c =
    let passed = serve_passed (outside (g.F.Files.told c.args.files.now) (g.W.Wire.told c.args.wire.now) (g.C.Clock.readings c.args.clock.now)) c.args.profile.now c.args.script.now c.args.at (g.F.Files.told c.load_profile.new.files) c.in_ok-profile.profile c.in_ok-events.events.items c.in_ok-profile.ensures.gets c.in_ok-profile.ensures.gives c.in_ok-events.ensures.gets in
    λ bound. passed_binds (outside (g.F.Files.told c.args.files.now) (g.W.Wire.told c.args.wire.now) (g.C.Clock.readings c.args.clock.now)) (IsServeVerdict (outside (g.F.Files.told c.args.files.now) (g.W.Wire.told c.args.wire.now) (g.C.Clock.readings c.args.clock.now)) c.args.profile.now c.args.script.now c.args.at) c.args.profile.now c.args.script.now c.args.at _ passed

pub returns-in_err-serve_loop-clause-gives : goal.returns-in_err-serve_loop-clause-gives
returns-in_err-serve_loop-clause-gives g c =
    let passed = serve_passed (outside (g.F.Files.told c.args.files.now) (g.W.Wire.told c.args.wire.now) (g.C.Clock.readings c.args.clock.now)) c.args.profile.now c.args.script.now c.args.at (g.F.Files.told c.load_profile.new.files) c.in_ok-profile.profile c.in_ok-events.events.items c.in_ok-profile.ensures.gets c.in_ok-profile.ensures.gives c.in_ok-events.ensures.gets in
    served_left (outside (g.F.Files.told c.args.files.now) (g.W.Wire.told c.args.wire.now) (g.C.Clock.readings c.args.clock.now)) (IsServeVerdict (outside (g.F.Files.told c.args.files.now) (g.W.Wire.told c.args.wire.now) (g.C.Clock.readings c.args.clock.now)) c.args.profile.now c.args.script.now c.args.at) c.args.profile.now c.args.script.now c.args.at (turns_of most_turns server_rules (new_node (new_server c.in_ok-profile.profile places) c.in_ok-events.events.items)) (g.F.Files.told c.load_events.new.files) _ passed
    (both_looked (g.F.Files.told c.args.files.now) (g.F.Files.told c.load_profile.new.files) (g.F.Files.told c.load_events.new.files) c.args.profile.now c.args.script.now c.in_ok-profile.profile c.in_ok-events.events c.in_ok-profile.ensures.gives c.in_ok-events.ensures.gives) (c.server_is_frugal.ensures.acts most_turns (new_node (new_server c.in_ok-profile.profile places) c.in_ok-events.events.items))

pub returns-clause-gives : goal.returns-clause-gives
returns-clause-gives g c =
    let passed = serve_passed (outside (g.F.Files.told c.args.files.now) (g.W.Wire.told c.args.wire.now) (g.C.Clock.readings c.args.clock.now)) c.args.profile.now c.args.script.now c.args.at (g.F.Files.told c.load_profile.new.files) c.in_ok-profile.profile c.in_ok-events.events.items c.in_ok-profile.ensures.gets c.in_ok-profile.ensures.gives c.in_ok-events.ensures.gets in
    served_left (outside (g.F.Files.told c.args.files.now) (g.W.Wire.told c.args.wire.now) (g.C.Clock.readings c.args.clock.now)) (IsServeVerdict (outside (g.F.Files.told c.args.files.now) (g.W.Wire.told c.args.wire.now) (g.C.Clock.readings c.args.clock.now)) c.args.profile.now c.args.script.now c.args.at) c.args.profile.now c.args.script.now c.args.at (turns_of most_turns server_rules (new_node (new_server c.in_ok-profile.profile places) c.in_ok-events.events.items)) (g.F.Files.told c.load_events.new.files) (Ok tt) passed
    (both_looked (g.F.Files.told c.args.files.now) (g.F.Files.told c.load_profile.new.files) (g.F.Files.told c.load_events.new.files) c.args.profile.now c.args.script.now c.in_ok-profile.profile c.in_ok-events.events c.in_ok-profile.ensures.gives c.in_ok-events.ensures.gives) (c.server_is_frugal.ensures.acts most_turns (new_node (new_server c.in_ok-profile.profile places) c.in_ok-events.events.items))

pub returns-in_err-serve_loop-clause-read_cause : goal.returns-in_err-serve_loop-clause-read_cause
returns-in_err-serve_loop-clause-read_cause g c =
    let p = err_from_is_err_and c.from_residual-in_err-serve_loop.result c.from_residual-in_err-serve_loop.ensures.1 in
    rw (p.1, p.2) (node_read_cause (g.F.Files.faults c.args.files.now) (g.F.Files.faults c.load_events.new.files) c.in_err-serve_loop.field-0.0 (c.in_ok-events.ensures.read_cause ∙ c.in_ok-profile.ensures.read_cause))

pub returns-in_err-serve_loop-clause-write_cause : goal.returns-in_err-serve_loop-clause-write_cause
returns-in_err-serve_loop-clause-write_cause g c =
    let p = err_from_is_err_and c.from_residual-in_err-serve_loop.result c.from_residual-in_err-serve_loop.ensures.1 in
    rw (p.1, p.2) (node_write_cause (g.O.Sink.faults c.args.out.now) (g.O.Sink.faults c.serve_loop.new.out) c.in_err-serve_loop.field-0.0 c.in_err-serve_loop.ensures.write_cause)

pub returns-in_err-serve_loop-clause-wire_cause : goal.returns-in_err-serve_loop-clause-wire_cause
returns-in_err-serve_loop-clause-wire_cause g c =
    let p = err_from_is_err_and c.from_residual-in_err-serve_loop.result c.from_residual-in_err-serve_loop.ensures.1 in
    rw (p.1, p.2) (node_wire_cause (g.W.Wire.faults c.args.wire.now) (g.W.Wire.faults c.serve_loop.new.wire) c.in_err-serve_loop.field-0.0 c.in_err-serve_loop.ensures.wire_cause)

pub returns-in_err-serve_loop-clause-file_cause : goal.returns-in_err-serve_loop-clause-file_cause
returns-in_err-serve_loop-clause-file_cause g c =
    let p = err_from_is_err_and c.from_residual-in_err-serve_loop.result c.from_residual-in_err-serve_loop.ensures.1 in
    rw (p.1, p.2) (node_file_cause (g.F.Files.write_faults c.args.files.now) (g.F.Files.write_faults c.load_events.new.files) (g.F.Files.write_faults c.load_events.new.files) c.in_err-serve_loop.field-0.0
    (c.in_ok-events.ensures.writes ∙ c.in_ok-profile.ensures.writes) (c.in_err-serve_loop.ensures.file_cause (g.F.Files.write_faults c.load_events.new.files)))

pub returns-in_err-profile-clause-file_cause : goal.returns-in_err-profile-clause-file_cause
returns-in_err-profile-clause-file_cause g c =
    let p = err_from_is_err_and c.from_residual.result c.from_residual.ensures.1 in
    rw (p.1, p.2) (part_file_cause (profile_in c.in_err-profile.ensures.gets.0) c.in_err-profile.field-0.0 (g.F.Files.write_faults c.args.files.now) (g.F.Files.write_faults c.load_profile.new.files) c.in_err-profile.ensures.gets.2 (no_profile_written c.in_err-profile.ensures.gets.0) c.in_err-profile.ensures.writes)

pub returns-in_err-events-clause-file_cause : goal.returns-in_err-events-clause-file_cause
returns-in_err-events-clause-file_cause g c =
    let p = err_from_is_err_and c.from_residual-in_err-events.result c.from_residual-in_err-events.ensures.1 in
    rw (p.1, p.2) (part_file_cause (events_in kinds.Serve c.in_err-events.ensures.gets.0) c.in_err-events.field-0.0 (g.F.Files.write_faults c.args.files.now) (g.F.Files.write_faults c.load_events.new.files) c.in_err-events.ensures.gets.2 (no_events_written kinds.Serve c.in_err-events.ensures.gets.0) (c.in_err-events.ensures.writes ∙ c.in_ok-profile.ensures.writes))
