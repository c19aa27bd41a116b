use Rattle.std.proofs.Common.{ap, ◌∙◌, arith, refl}
use Rattle.std.proofs.lemmas.Result.{err_from_is_err_and}
use Rattle.q3_make.specs.Generated.{generated}
use Rattle.q3_counts.specs.Counts.{counted_all}
use Rattle.q3_world.specs.World.{opening, answers}
use Rattle.q3net.specs.Summary.{summary_text}
use Rattle.q3net.proofs.RunLooks.{trial_gives, trial_gave}
use Rattle.q3net.proofs.Replaying.{nothing_sent}
use Rattle.q3net.proofs.Trying.{trial_refused, trial_stopped, summed, trial_done}
use Rattle.q3net.proofs.generated.trial.Goals as goal

pub returns-in_err-profile-clause-executes : goal.returns-in_err-profile-clause-executes
returns-in_err-profile-clause-executes g c =
    let p = err_from_is_err_and c.from_residual.result c.from_residual.ensures.1 in
    rw (p.1, p.2) (trial_refused c.texts_follow.ensures (g.F.Files.told c.args.files.now) c.args.profile.now c.args.draws (g.O.Sink.written c.args.out.now) c.in_err-profile.field-0.0 c.in_err-profile.ensures.gets)

pub returns-in_err-profile-clause-gives : goal.returns-in_err-profile-clause-gives
returns-in_err-profile-clause-gives g c =
    let p = err_from_is_err_and c.from_residual.result c.from_residual.ensures.1 in
    rw (p.1, p.2) (trial_gives (g.F.Files.told c.args.files.now) (g.F.Files.told c.load_profile.new.files) c.args.profile.now c.args.draws c.in_err-profile.field-0.0 c.in_err-profile.ensures.gives)

pub returns-in_err-world-clause-executes : goal.returns-in_err-world-clause-executes
returns-in_err-world-clause-executes g c =
    let p = err_from_is_err_and c.from_residual-in_err-world.result c.from_residual-in_err-world.ensures.1 in
    rw (p.1, p.2) (trial_stopped c.texts_follow.ensures (g.F.Files.told c.args.files.now) c.args.profile.now c.args.draws c.in_ok-profile.profile (g.O.Sink.written c.args.out.now) c.in_ok-profile.ensures.gets)

pub returns-in_err-world-clause-gives : goal.returns-in_err-world-clause-gives
returns-in_err-world-clause-gives g c =
    trial_gave (g.F.Files.told c.args.files.now) (g.F.Files.told c.load_profile.new.files) c.args.profile.now c.args.draws c.in_ok-profile.profile _ c.in_ok-profile.ensures.gives

pub try_script-requires-clause-few : goal.try_script-requires-clause-few
try_script-requires-clause-few g c = omega (arith, nothing_sent c.in_ok-profile.profile c.in_ok-world.world.kept c.in_ok-world.ensures.stands)

pub returns-in_err-try_script-clause-executes : goal.returns-in_err-try_script-clause-executes
returns-in_err-try_script-clause-executes g c =
    let p = err_from_is_err_and c.from_residual-in_err-try_script.result c.from_residual-in_err-try_script.ensures.1 in
    rw (p.1, p.2) (trial_stopped c.texts_follow.ensures (g.F.Files.told c.args.files.now) c.args.profile.now c.args.draws c.in_ok-profile.profile (g.O.Sink.written c.args.out.now) c.in_ok-profile.ensures.gets)

pub returns-in_err-try_script-clause-gives : goal.returns-in_err-try_script-clause-gives
returns-in_err-try_script-clause-gives g c =
    trial_gave (g.F.Files.told c.args.files.now) (g.F.Files.told c.load_profile.new.files) c.args.profile.now c.args.draws c.in_ok-profile.profile _ c.in_ok-profile.ensures.gives

pub returns-clause-executes : goal.returns-clause-executes
returns-clause-executes g c =
    let by = c.in_ok-profile.profile in
    let counts = c.in_ok-try_script.ensures.counts by (counted_all c.in_ok-world.world.counts (answers by (opening by) (generated c.args.draws.number c.args.draws.seed)))
    (record { whole = opening by; stands = c.in_ok-world.ensures.stands; sum = refl }) in
    let text = ap summary_text c.counts.ensures ∙ summed by c.args.draws c.in_ok-world.world.counts c.try_script.new.world.counts c.in_ok-world.ensures.counts counts in
    trial_done (g.F.Files.told c.args.files.now) c.args.profile.now c.args.draws by (summary_text c.counts.result) (g.O.Sink.written c.args.out.now) (g.O.Sink.written c.print_summary.new.out) c.print_summary.result
    c.in_ok-profile.ensures.gets text c.print_summary.ensures.prints

pub returns-clause-gives : goal.returns-clause-gives
returns-clause-gives g c =
    trial_gave (g.F.Files.told c.args.files.now) (g.F.Files.told c.load_profile.new.files) c.args.profile.now c.args.draws c.in_ok-profile.profile _ c.in_ok-profile.ensures.gives

pub returns-in_err-try_script-clause-read_cause : goal.returns-in_err-try_script-clause-read_cause
returns-in_err-try_script-clause-read_cause g c =
    let p = err_from_is_err_and c.from_residual-in_err-try_script.result c.from_residual-in_err-try_script.ensures.1 in
    rw (p.1, p.2) c.in_ok-profile.ensures.read_cause

pub returns-in_err-try_script-clause-write_cause : goal.returns-in_err-try_script-clause-write_cause
returns-in_err-try_script-clause-write_cause g c =
    let p = err_from_is_err_and c.from_residual-in_err-try_script.result c.from_residual-in_err-try_script.ensures.1 in
    rw (p.1, p.2) refl
