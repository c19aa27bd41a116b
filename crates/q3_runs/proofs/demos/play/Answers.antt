use Rattle.std.proofs.Common.{ℕ, Ok, Err, subst, ◌∙◌}
use Rattle.std.proofs.lemmas.Result.{err_from_is_err_and}
use Rattle.q3_demo.specs.Running.{ReadCause as DemoReadCause}
use Rattle.q3_runs.proofs.Demoing.{play_unprofiled, play_unfound, play_ended, play_gives_profile, play_gives_demo, play_gives_all, play_read_cause, play_write_cause}
use Rattle.q3_runs.proofs.demos.play.Goals as goal

pub returns-in_err-profile-clause-executes : goal.returns-in_err-profile-clause-executes
returns-in_err-profile-clause-executes g c =
    let p = err_from_is_err_and c.from_residual.result c.from_residual.ensures.1 in
    rw (p.1, p.2) (play_unprofiled c.texts_follow.ensures (g.F.Files.told c.args.files.now) c.args.profile.now c.args.demo.now (g.O.Sink.written c.args.out.now) c.in_err-profile.field-0.0 c.in_err-profile.ensures.gets)

pub returns-in_err-profile-clause-gives : goal.returns-in_err-profile-clause-gives
returns-in_err-profile-clause-gives g c =
    let p = err_from_is_err_and c.from_residual.result c.from_residual.ensures.1 in
    rw (p.1, p.2) (play_gives_profile (g.F.Files.told c.args.files.now) (g.F.Files.told c.load_profile.new.files) c.args.profile.now c.args.demo.now c.in_err-profile.field-0.0 c.in_err-profile.ensures.gets c.in_err-profile.ensures.gives)

pub returns-in_err-file-clause-executes : goal.returns-in_err-file-clause-executes
returns-in_err-file-clause-executes g c =
    let p = err_from_is_err_and c.from_residual-in_err-file.result c.from_residual-in_err-file.ensures.1 in
    rw (p.1, p.2) (play_unfound c.texts_follow.ensures (g.F.Files.told c.args.files.now) c.args.profile.now c.args.demo.now c.in_ok-profile.profile (g.O.Sink.written c.args.out.now) c.in_err-file.field-0.0 c.in_ok-profile.ensures.gets c.in_err-file.ensures.finds)

pub returns-in_err-file-clause-gives : goal.returns-in_err-file-clause-gives
returns-in_err-file-clause-gives g c =
    let p = err_from_is_err_and c.from_residual-in_err-file.result c.from_residual-in_err-file.ensures.1 in
    rw (p.1, p.2) (play_gives_demo (g.F.Files.told c.args.files.now) (g.F.Files.told c.load_profile.new.files) (g.F.Files.told c.find_file.new.files) c.args.profile.now c.args.demo.now c.in_ok-profile.profile c.in_err-file.field-0.0 c.in_ok-profile.ensures.gets c.in_ok-profile.ensures.gives c.in_err-file.ensures.gives)

pub returns-in_err-play-clause-executes : goal.returns-in_err-play-clause-executes
returns-in_err-play-clause-executes g c =
    let p = err_from_is_err_and c.from_residual-in_err-play.result c.from_residual-in_err-play.ensures.1 in
    rw (p.1, p.2) (play_ended c.texts_follow.ensures (g.F.Files.told c.args.files.now) (g.F.Files.told c.load_profile.new.files) (g.F.Files.told c.find_file.new.files) c.args.profile.now c.args.demo.now c.in_ok-profile.profile c.in_ok-file.file
    (g.O.Sink.written c.args.out.now) (g.O.Sink.written c.play.new.out) (Err c.in_err-play.field-0.0) c.in_ok-profile.ensures.gets c.in_ok-profile.ensures.gives c.in_ok-file.ensures.finds c.in_err-play.ensures.plays)

pub returns-in_err-play-clause-gives : goal.returns-in_err-play-clause-gives
returns-in_err-play-clause-gives g c =
    play_gives_all (g.F.Files.told c.args.files.now) (g.F.Files.told c.load_profile.new.files) (g.F.Files.told c.find_file.new.files) (g.F.Files.told c.play.new.files) c.args.profile.now c.args.demo.now c.in_ok-profile.profile c.in_ok-file.file _
    c.in_ok-profile.ensures.gets c.in_ok-profile.ensures.gives c.in_ok-file.ensures.gives c.play.ensures.asks

pub returns-clause-executes : goal.returns-clause-executes
returns-clause-executes g c =
    play_ended c.texts_follow.ensures (g.F.Files.told c.args.files.now) (g.F.Files.told c.load_profile.new.files) (g.F.Files.told c.find_file.new.files) c.args.profile.now c.args.demo.now c.in_ok-profile.profile c.in_ok-file.file
    (g.O.Sink.written c.args.out.now) (g.O.Sink.written c.play.new.out) (Ok tt) c.in_ok-profile.ensures.gets c.in_ok-profile.ensures.gives c.in_ok-file.ensures.finds c.in_ok-play.ensures.plays

pub returns-clause-gives : goal.returns-clause-gives
returns-clause-gives g c =
    play_gives_all (g.F.Files.told c.args.files.now) (g.F.Files.told c.load_profile.new.files) (g.F.Files.told c.find_file.new.files) (g.F.Files.told c.play.new.files) c.args.profile.now c.args.demo.now c.in_ok-profile.profile c.in_ok-file.file (Ok tt)
    c.in_ok-profile.ensures.gets c.in_ok-profile.ensures.gives c.in_ok-file.ensures.gives c.play.ensures.asks

pub returns-in_err-play-clause-read_cause : goal.returns-in_err-play-clause-read_cause
returns-in_err-play-clause-read_cause g c =
    let p = err_from_is_err_and c.from_residual-in_err-play.result c.from_residual-in_err-play.ensures.1 in
    rw (p.1, p.2) (play_read_cause (g.F.Files.faults c.args.files.now) (g.F.Files.faults c.play.new.files) c.in_err-play.field-0.0
    (subst (λ (n : ℕ). DemoReadCause {T = Unit {0}} n (g.F.Files.faults c.play.new.files) (Err c.in_err-play.field-0.0)) (c.in_ok-file.ensures.cause ∙ c.in_ok-profile.ensures.read_cause) c.in_err-play.ensures.read_cause))

pub returns-in_err-play-clause-write_cause : goal.returns-in_err-play-clause-write_cause
returns-in_err-play-clause-write_cause g c =
    let p = err_from_is_err_and c.from_residual-in_err-play.result c.from_residual-in_err-play.ensures.1 in
    rw (p.1, p.2) (play_write_cause (g.O.Sink.faults c.args.out.now) (g.O.Sink.faults c.play.new.out) c.in_err-play.field-0.0 c.in_err-play.ensures.write_cause)
