use Rattle.std.proofs.Common.{ℕ, List, Ok, Err, refl, subst, ◌∙◌, arith}
use Rattle.std.proofs.lemmas.Result.{err_from_is_err_and}
use Rattle.q3_script.specs.declared.event.Event.{Event}
use Rattle.q3_world.specs.World.{opening, answers}
use Rattle.q3_io.specs.Faults.{HasCause}
use Rattle.q3_world.specs.Files.{acts_from, ending_acts, by_files}
use Rattle.q3net.specs.Run.{AddsLines, DoesFirst}
use Rattle.q3_runs.proofs.Looking.{both_looked}
use Rattle.q3net.proofs.Replaying.{profile_ended, events_ended, both_read, memory_ended, steps_ended, steps_done, finish_failed, profile_gives, script_gives, memory_left, steps_some, ends_some, steps_left, finish_left, all_done, nothing_sent, step_read_cause, step_write_cause, step_file_cause}
use Rattle.q3net.proofs.replay.replay.Goals as goal

pub returns-in_err-profile-clause-executes : goal.returns-in_err-profile-clause-executes
returns-in_err-profile-clause-executes g c =
    let p = err_from_is_err_and c.from_residual.result c.from_residual.ensures.1 in
    rw (p.1, p.2) (profile_ended c.texts_follow.ensures (g.F.Files.told c.args.files.now) c.args.profile.now c.args.script.now (g.O.Sink.written c.args.out.now) c.in_err-profile.field-0.0 c.in_err-profile.ensures.gets)

pub returns-in_err-profile-clause-gives : goal.returns-in_err-profile-clause-gives
returns-in_err-profile-clause-gives g c =
    let p = err_from_is_err_and c.from_residual.result c.from_residual.ensures.1 in
    rw (p.1, p.2) (profile_gives (g.F.Files.told c.args.files.now) (g.F.Files.told c.load_profile.new.files) c.args.profile.now c.args.script.now c.in_err-profile.field-0.0
    c.in_err-profile.ensures.gets c.in_err-profile.ensures.gives)

pub returns-in_err-events-clause-executes : goal.returns-in_err-events-clause-executes
returns-in_err-events-clause-executes g c =
    let p = err_from_is_err_and c.from_residual-in_err-events.result c.from_residual-in_err-events.ensures.1 in
    rw (p.1, p.2) (events_ended c.texts_follow.ensures (g.F.Files.told c.args.files.now) (g.F.Files.told c.load_profile.new.files) c.args.profile.now c.args.script.now c.in_ok-profile.profile (g.O.Sink.written c.args.out.now) c.in_err-events.field-0.0
    c.in_ok-profile.ensures.gets c.in_ok-profile.ensures.gives c.in_err-events.ensures.gets)

pub returns-in_err-events-clause-gives : goal.returns-in_err-events-clause-gives
returns-in_err-events-clause-gives g c =
    let p = err_from_is_err_and c.from_residual-in_err-events.result c.from_residual-in_err-events.ensures.1 in
    rw (p.1, p.2) (script_gives (g.F.Files.told c.args.files.now) (g.F.Files.told c.load_profile.new.files) (g.F.Files.told c.load_events.new.files) c.args.profile.now c.args.script.now c.in_ok-profile.profile c.in_err-events.field-0.0
    c.in_ok-profile.ensures.gets c.in_ok-profile.ensures.gives c.in_err-events.ensures.gets c.in_err-events.ensures.gives)

pub returns-in_err-world-clause-executes : goal.returns-in_err-world-clause-executes
returns-in_err-world-clause-executes g c =
    let p = err_from_is_err_and c.from_residual-in_err-world.result c.from_residual-in_err-world.ensures.1 in
    let read = both_read (g.F.Files.told c.args.files.now) (g.F.Files.told c.load_profile.new.files) c.args.profile.now c.args.script.now c.in_ok-profile.profile c.in_ok-events.events.items
    c.in_ok-profile.ensures.gets c.in_ok-profile.ensures.gives c.in_ok-events.ensures.gets in
    rw (p.1, p.2) (memory_ended c.texts_follow.ensures (g.F.Files.told c.args.files.now) c.args.profile.now c.args.script.now c.in_ok-profile.profile c.in_ok-events.events.items (g.O.Sink.written c.args.out.now) read)

pub step_all-requires-clause-few : goal.step_all-requires-clause-few
step_all-requires-clause-few g c =
    omega (arith, nothing_sent c.in_ok-profile.profile c.in_ok-world.world.kept c.in_ok-world.ensures.stands, c.in_ok-events.ensures.few, c.deref.ensures.len)

pub returns-in-Err-clause-executes : goal.returns-in-Err-clause-executes
returns-in-Err-clause-executes g c =
    let read = both_read (g.F.Files.told c.args.files.now) (g.F.Files.told c.load_profile.new.files) c.args.profile.now c.args.script.now c.in_ok-profile.profile c.in_ok-events.events.items
    c.in_ok-profile.ensures.gets c.in_ok-profile.ensures.gives c.in_ok-events.ensures.gets in
    rw c.step_fault.ensures (steps_ended (g.F.Files.told c.args.files.now) c.args.profile.now c.args.script.now c.in_ok-profile.profile c.in_ok-events.events.items (g.O.Sink.written c.args.out.now)
    (g.O.Sink.written c.step_all.new.out) c.in-Err.e read (subst (λ (events : List Event). AddsLines (answers c.in_ok-profile.profile (opening c.in_ok-profile.profile) events) (g.O.Sink.written c.args.out.now) (g.O.Sink.written c.step_all.new.out) (Err c.in-Err.e))
    c.deref.ensures.value (c.in-Err.ensures.adds c.in_ok-profile.profile (opening c.in_ok-profile.profile) c.in_ok-world.ensures.stands))
    (steps_some (g.F.Files.told c.load_events.new.files) (g.F.Files.told c.step_all.new.files) c.in_ok-profile.profile c.in_ok-events.events.items c.in_ok-world.world.kept (ending_acts c.step_all.new.world.kept.ends)
    (Err c.in-Err.e) c.in_ok-world.ensures.stands
    (subst (λ (events : List Event). DoesFirst (g.F.Files.told c.load_events.new.files) (g.F.Files.told c.step_all.new.files) (acts_from c.in_ok-world.world.kept events) (ending_acts c.step_all.new.world.kept.ends) (Err c.in-Err.e)) c.deref.ensures.value c.in-Err.ensures.files)))

pub returns-clause-executes : goal.returns-clause-executes
returns-clause-executes g c =
    let read = both_read (g.F.Files.told c.args.files.now) (g.F.Files.told c.load_profile.new.files) c.args.profile.now c.args.script.now c.in_ok-profile.profile c.in_ok-events.events.items
    c.in_ok-profile.ensures.gets c.in_ok-profile.ensures.gives c.in_ok-events.ensures.gets in
    steps_done (g.F.Files.told c.args.files.now) c.args.profile.now c.args.script.now c.in_ok-profile.profile c.in_ok-events.events.items (g.O.Sink.written c.args.out.now)
    (g.O.Sink.written c.step_all.new.out) read (rw c.deref.ensures.value at (c.in_default.ensures.adds c.in_ok-profile.profile (opening c.in_ok-profile.profile) c.in_ok-world.ensures.stands))

pub returns-in_default-finish-clause-executes : goal.returns-in_default-finish-clause-executes
returns-in_default-finish-clause-executes g c =
    let read = both_read (g.F.Files.told c.args.files.now) (g.F.Files.told c.load_profile.new.files) c.args.profile.now c.args.script.now c.in_ok-profile.profile c.in_ok-events.events.items
    c.in_ok-profile.ensures.gets c.in_ok-profile.ensures.gives c.in_ok-events.ensures.gets in
    finish_failed (g.F.Files.told c.args.files.now) c.args.profile.now c.args.script.now c.in_ok-profile.profile c.in_ok-events.events.items (g.O.Sink.written c.args.out.now)
    (g.O.Sink.written c.step_all.new.out) read (rw c.deref.ensures.value at (c.in_default.ensures.adds c.in_ok-profile.profile (opening c.in_ok-profile.profile) c.in_ok-world.ensures.stands))
    (ends_some (g.F.Files.told c.load_events.new.files) (g.F.Files.told c.step_all.new.files) c.in_ok-profile.profile c.in_ok-events.events.items c.in_ok-world.world.kept (ending_acts c.step_all.new.world.kept.ends) c.in_ok-world.ensures.stands
    (subst (λ (events : List Event). DoesFirst (g.F.Files.told c.load_events.new.files) (g.F.Files.told c.step_all.new.files) (acts_from c.in_ok-world.world.kept events) (ending_acts c.step_all.new.world.kept.ends) (Ok tt)) c.deref.ensures.value c.in_default.ensures.files)
    (c.in_default-finish.ensures.files.some refl))

pub returns-in_err-world-clause-gives : goal.returns-in_err-world-clause-gives
returns-in_err-world-clause-gives g c =
    let p = err_from_is_err_and c.from_residual-in_err-world.result c.from_residual-in_err-world.ensures.1 in
    let read = both_read (g.F.Files.told c.args.files.now) (g.F.Files.told c.load_profile.new.files) c.args.profile.now c.args.script.now c.in_ok-profile.profile c.in_ok-events.events.items
    c.in_ok-profile.ensures.gets c.in_ok-profile.ensures.gives c.in_ok-events.ensures.gets in
    let looked = both_looked (g.F.Files.told c.args.files.now) (g.F.Files.told c.load_profile.new.files) (g.F.Files.told c.load_events.new.files) c.args.profile.now c.args.script.now c.in_ok-profile.profile c.in_ok-events.events
    c.in_ok-profile.ensures.gives c.in_ok-events.ensures.gives in
    rw (p.1, p.2) (memory_left (g.F.Files.told c.args.files.now) (g.F.Files.told c.load_events.new.files) c.args.profile.now c.args.script.now c.in_ok-profile.profile c.in_ok-events.events.items read looked)

pub returns-in-Err-clause-gives : goal.returns-in-Err-clause-gives
returns-in-Err-clause-gives g c =
    let read = both_read (g.F.Files.told c.args.files.now) (g.F.Files.told c.load_profile.new.files) c.args.profile.now c.args.script.now c.in_ok-profile.profile c.in_ok-events.events.items
    c.in_ok-profile.ensures.gets c.in_ok-profile.ensures.gives c.in_ok-events.ensures.gets in
    let looked = both_looked (g.F.Files.told c.args.files.now) (g.F.Files.told c.load_profile.new.files) (g.F.Files.told c.load_events.new.files) c.args.profile.now c.args.script.now c.in_ok-profile.profile c.in_ok-events.events
    c.in_ok-profile.ensures.gives c.in_ok-events.ensures.gives in
    let does = subst (λ (events : List Event). DoesFirst (g.F.Files.told c.load_events.new.files) (g.F.Files.told c.step_all.new.files) (acts_from c.in_ok-world.world.kept events) (ending_acts c.step_all.new.world.kept.ends) (Err c.in-Err.e)) c.deref.ensures.value c.in-Err.ensures.files in
    rw c.step_fault.ensures (steps_left (g.F.Files.told c.args.files.now) (g.F.Files.told c.load_events.new.files) (g.F.Files.told c.step_all.new.files) c.args.profile.now c.args.script.now c.in_ok-profile.profile c.in_ok-events.events.items
    c.in_ok-world.world.kept (ending_acts c.step_all.new.world.kept.ends) c.in-Err.e read looked c.in_ok-world.ensures.stands does)

pub returns-in_default-finish-clause-gives : goal.returns-in_default-finish-clause-gives
returns-in_default-finish-clause-gives g c =
    let read = both_read (g.F.Files.told c.args.files.now) (g.F.Files.told c.load_profile.new.files) c.args.profile.now c.args.script.now c.in_ok-profile.profile c.in_ok-events.events.items
    c.in_ok-profile.ensures.gets c.in_ok-profile.ensures.gives c.in_ok-events.ensures.gets in
    let looked = both_looked (g.F.Files.told c.args.files.now) (g.F.Files.told c.load_profile.new.files) (g.F.Files.told c.load_events.new.files) c.args.profile.now c.args.script.now c.in_ok-profile.profile c.in_ok-events.events
    c.in_ok-profile.ensures.gives c.in_ok-events.ensures.gives in
    let does = subst (λ (events : List Event). DoesFirst (g.F.Files.told c.load_events.new.files) (g.F.Files.told c.step_all.new.files) (acts_from c.in_ok-world.world.kept events) (ending_acts c.step_all.new.world.kept.ends) (Ok tt)) c.deref.ensures.value c.in_default.ensures.files in
    finish_left (g.F.Files.told c.args.files.now) (g.F.Files.told c.load_events.new.files) (g.F.Files.told c.step_all.new.files) (g.F.Files.told c.finish.new.files) c.args.profile.now c.args.script.now c.in_ok-profile.profile c.in_ok-events.events.items
    c.in_ok-world.world.kept (ending_acts c.step_all.new.world.kept.ends) c.in_default-finish.field-0 read looked c.in_ok-world.ensures.stands does c.in_default-finish.ensures.files.acts_on

pub returns-clause-gives : goal.returns-clause-gives
returns-clause-gives g c =
    let read = both_read (g.F.Files.told c.args.files.now) (g.F.Files.told c.load_profile.new.files) c.args.profile.now c.args.script.now c.in_ok-profile.profile c.in_ok-events.events.items
    c.in_ok-profile.ensures.gets c.in_ok-profile.ensures.gives c.in_ok-events.ensures.gets in
    let looked = both_looked (g.F.Files.told c.args.files.now) (g.F.Files.told c.load_profile.new.files) (g.F.Files.told c.load_events.new.files) c.args.profile.now c.args.script.now c.in_ok-profile.profile c.in_ok-events.events
    c.in_ok-profile.ensures.gives c.in_ok-events.ensures.gives in
    let does = subst (λ (events : List Event). DoesFirst (g.F.Files.told c.load_events.new.files) (g.F.Files.told c.step_all.new.files) (acts_from c.in_ok-world.world.kept events) (ending_acts c.step_all.new.world.kept.ends) (Ok tt)) c.deref.ensures.value c.in_default.ensures.files in
    all_done (g.F.Files.told c.args.files.now) (g.F.Files.told c.load_events.new.files) (g.F.Files.told c.step_all.new.files) (g.F.Files.told c.finish.new.files) c.args.profile.now c.args.script.now c.in_ok-profile.profile c.in_ok-events.events.items
    c.in_ok-world.world.kept (ending_acts c.step_all.new.world.kept.ends) read looked c.in_ok-world.ensures.stands does c.in-Ok.ensures.files.acts_on

pub returns-in-Err-clause-read_cause : goal.returns-in-Err-clause-read_cause
returns-in-Err-clause-read_cause g c =
    rw c.step_fault.ensures (step_read_cause (g.F.Files.faults c.args.files.now) (g.F.Files.faults c.step_all.new.files) c.in-Err.e
    (c.step_all.ensures.reads ∙ (c.in_ok-events.ensures.read_cause ∙ c.in_ok-profile.ensures.read_cause)))

pub returns-in-Err-clause-write_cause : goal.returns-in-Err-clause-write_cause
returns-in-Err-clause-write_cause g c =
    rw c.step_fault.ensures (step_write_cause (g.O.Sink.faults c.args.out.now) (g.O.Sink.faults c.step_all.new.out) c.in-Err.e c.in-Err.ensures.cause)

pub returns-in-Err-clause-file_cause : goal.returns-in-Err-clause-file_cause
returns-in-Err-clause-file_cause g c =
    rw c.step_fault.ensures (step_file_cause (g.F.Files.write_faults c.args.files.now) (g.F.Files.write_faults c.step_all.new.files) c.in-Err.e
    (subst (λ (n : ℕ). HasCause n (g.F.Files.write_faults c.step_all.new.files) (by_files (Err c.in-Err.e))) (c.in_ok-events.ensures.writes ∙ c.in_ok-profile.ensures.writes) c.in-Err.ensures.file_cause))
