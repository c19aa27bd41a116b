use Rattle.std.proofs.Common.{ℕ, [], ◌∷◌, Err, refl, subst, ◌∙◌, inr}
use Rattle.std.proofs.lemmas.Result.{err_from_is_err_and}
use Rattle.q3_index.specs.declared.build.Built.{Built}
use Rattle.q3_index.specs.Running.{BuildCause, BuildWrites}
use Rattle.q3_runs.proofs.Looking.{gave}
use Rattle.q3_runs.proofs.Numbered.{builds_apart}
use Rattle.q3_runs.proofs.Indexing.{index_unprofiled, index_ended, index_unwritten, index_refused, index_printed, index_gives_profile, index_gives_demo, index_gives_none, index_gives_refused, index_gives_all, build_read_cause, build_file_cause, build_write_cause}
use Rattle.q3_runs.proofs.demos.index.Goals as goal

pub returns-in_err-profile-clause-executes : goal.returns-in_err-profile-clause-executes
returns-in_err-profile-clause-executes g c =
    let p = err_from_is_err_and c.from_residual.result c.from_residual.ensures.1 in
    rw (p.1, p.2) (index_unprofiled c.texts_follow.ensures (g.F.Files.told c.args.files.now) c.args.profile.now c.args.demo.now c.args.index.now (g.O.Sink.written c.args.out.now) c.in_err-profile.field-0.0 c.in_err-profile.ensures.gets)

pub returns-in_err-profile-clause-gives : goal.returns-in_err-profile-clause-gives
returns-in_err-profile-clause-gives g c =
    let p = err_from_is_err_and c.from_residual.result c.from_residual.ensures.1 in
    rw (p.1, p.2) (index_gives_profile (g.F.Files.told c.args.files.now) (g.F.Files.told c.load_profile.new.files) c.args.profile.now c.args.demo.now c.args.index.now c.in_err-profile.field-0.0 c.in_err-profile.ensures.gets c.in_err-profile.ensures.gives)

pub returns-in_err-demo-clause-executes : goal.returns-in_err-demo-clause-executes
returns-in_err-demo-clause-executes g c =
    let p = err_from_is_err_and c.from_residual-in_err-demo.result c.from_residual-in_err-demo.ensures.1 in
    rw (p.1, p.2) (index_ended c.texts_follow.ensures (g.F.Files.told c.args.files.now) c.args.profile.now c.args.demo.now c.args.index.now c.in_ok-profile.profile (g.O.Sink.written c.args.out.now) c.in_err-demo.field-0.0 c.in_ok-profile.ensures.gets (inr c.in_err-demo.ensures.finds))

pub returns-in_err-demo-clause-gives : goal.returns-in_err-demo-clause-gives
returns-in_err-demo-clause-gives g c =
    let p = err_from_is_err_and c.from_residual-in_err-demo.result c.from_residual-in_err-demo.ensures.1 in
    rw (p.1, p.2) (index_gives_demo (g.F.Files.told c.args.files.now) (g.F.Files.told c.load_profile.new.files) (g.F.Files.told c.find_file.new.files) c.args.profile.now c.args.demo.now c.args.index.now c.in_ok-profile.profile c.in_err-demo.field-0.0 c.in_ok-profile.ensures.gets c.in_ok-profile.ensures.gives c.in_err-demo.ensures.gives c.in_err-demo.ensures.finds)

pub returns-in_err-index-clause-executes : goal.returns-in_err-index-clause-executes
returns-in_err-index-clause-executes g c =
    let p = err_from_is_err_and c.from_residual-in_err-index.result c.from_residual-in_err-index.ensures.1 in
    rw (p.1, p.2) (index_unwritten c.texts_follow.ensures (g.F.Files.told c.args.files.now) c.args.profile.now c.args.demo.now c.args.index.now c.in_ok-profile.profile (g.O.Sink.written c.args.out.now) c.in_err-index.field-0.0 c.in_ok-profile.ensures.gets c.in_err-index.ensures.fault)

pub returns-in_err-index-clause-gives : goal.returns-in_err-index-clause-gives
returns-in_err-index-clause-gives g c =
    let p = err_from_is_err_and c.from_residual-in_err-index.result c.from_residual-in_err-index.ensures.1 in
    rw (p.1, p.2) (index_gives_none (g.F.Files.told c.args.files.now) (g.F.Files.told c.load_profile.new.files) (g.F.Files.told c.find_file.new.files) (g.F.Files.told c.make_file.new.files) c.args.profile.now c.args.demo.now c.args.index.now c.in_ok-profile.profile c.in_ok-demo.demo (record {}) c.in_err-index.field-0.0 c.in_ok-profile.ensures.gets c.in_ok-profile.ensures.gives c.in_ok-demo.ensures.gives c.in_ok-demo.ensures.looks
    c.in_err-index.ensures.creates c.in_err-index.ensures.fault)

pub build_index-requires-clause-other : goal.build_index-requires-clause-other
build_index-requires-clause-other g c =
    λ told is.
    let may = builds_apart (g.F.Files.told c.args.files.now) (g.F.Files.told c.load_profile.new.files) (g.F.Files.told c.find_file.new.files) (g.F.Files.told c.make_file.new.files) c.args.profile.now c.args.demo.now c.args.index.now c.in_ok-demo.demo c.in_ok-index.index c.requires.other (gave c.in_ok-profile.profile (c.args.profile.now ∷ []) (g.F.Files.told c.args.files.now) (g.F.Files.told c.load_profile.new.files) c.in_ok-profile.ensures.gives) c.in_ok-demo.ensures.looks c.in_ok-index.ensures.creates told is in
    (may.apart, may.empty)

pub returns-in-Err-clause-executes : goal.returns-in-Err-clause-executes
returns-in-Err-clause-executes g c =
    rw c.build_fault.ensures (index_refused c.texts_follow.ensures (g.F.Files.told c.args.files.now) (g.F.Files.told c.load_profile.new.files) (g.F.Files.told c.find_file.new.files) (g.F.Files.told c.make_file.new.files) (g.F.Files.told c.build_index.new.files) c.args.profile.now c.args.demo.now c.args.index.now c.in_ok-profile.profile c.in_ok-demo.demo c.in_ok-index.index (g.O.Sink.written c.args.out.now) c.in-Err.e c.requires.other c.in_ok-profile.ensures.gets c.in_ok-profile.ensures.gives c.in_ok-demo.ensures.looks c.in_ok-index.ensures.creates
    c.in-Err.ensures.builds)

pub returns-in-Err-clause-gives : goal.returns-in-Err-clause-gives
returns-in-Err-clause-gives g c =
    rw c.build_fault.ensures (index_gives_refused (g.F.Files.told c.args.files.now) (g.F.Files.told c.load_profile.new.files) (g.F.Files.told c.find_file.new.files) (g.F.Files.told c.make_file.new.files) (g.F.Files.told c.build_index.new.files) c.args.profile.now c.args.demo.now c.args.index.now c.in_ok-profile.profile c.in_ok-demo.demo c.in_ok-index.index c.in-Err.e c.requires.other c.in_ok-profile.ensures.gets c.in_ok-profile.ensures.gives c.in_ok-demo.ensures.looks c.in_ok-index.ensures.creates c.build_index.ensures.untold
    c.in-Err.ensures.builds)

pub returns-in-Err-clause-read_cause : goal.returns-in-Err-clause-read_cause
returns-in-Err-clause-read_cause g c =
    rw c.build_fault.ensures (build_read_cause (g.F.Files.faults c.args.files.now) (g.F.Files.faults c.build_index.new.files) c.in-Err.e
    (subst (λ (n : ℕ). BuildCause {T = Built} n (g.F.Files.faults c.build_index.new.files) (Err c.in-Err.e)) (c.in_ok-index.ensures.others ∙ (c.in_ok-demo.ensures.cause ∙ c.in_ok-profile.ensures.read_cause)) c.in-Err.ensures.cause))

pub returns-in-Err-clause-file_cause : goal.returns-in-Err-clause-file_cause
returns-in-Err-clause-file_cause g c =
    rw c.build_fault.ensures (build_file_cause (g.F.Files.write_faults c.args.files.now) (g.F.Files.write_faults c.build_index.new.files) c.in-Err.e
    (subst (λ (n : ℕ). BuildWrites {T = Built} n (g.F.Files.write_faults c.build_index.new.files) (Err c.in-Err.e)) (c.in_ok-index.ensures.cause.ok refl ∙ (c.in_ok-demo.ensures.writes ∙ c.in_ok-profile.ensures.writes)) c.in-Err.ensures.writes))

pub returns-in-Err-clause-write_cause : goal.returns-in-Err-clause-write_cause
returns-in-Err-clause-write_cause g c =
    rw c.build_fault.ensures (build_write_cause (g.O.Sink.faults c.args.out.now) c.in-Err.e)

pub returns-clause-executes : goal.returns-clause-executes
returns-clause-executes g c =
    index_printed (g.F.Files.told c.args.files.now) (g.F.Files.told c.load_profile.new.files) (g.F.Files.told c.find_file.new.files) (g.F.Files.told c.make_file.new.files) (g.F.Files.told c.build_index.new.files) c.args.profile.now c.args.demo.now c.args.index.now c.in_ok-profile.profile c.in_ok-demo.demo c.in_ok-index.index c.in-Ok.built (g.O.Sink.written c.args.out.now) (g.O.Sink.written c.print_built.new.out) c.print_built.result c.requires.other c.in_ok-profile.ensures.gets c.in_ok-profile.ensures.gives c.in_ok-demo.ensures.looks c.in_ok-index.ensures.creates
    c.in-Ok.ensures.builds c.print_built.ensures.prints

pub returns-clause-gives : goal.returns-clause-gives
returns-clause-gives g c =
    index_gives_all (g.F.Files.told c.args.files.now) (g.F.Files.told c.load_profile.new.files) (g.F.Files.told c.find_file.new.files) (g.F.Files.told c.make_file.new.files) (g.F.Files.told c.build_index.new.files) c.args.profile.now c.args.demo.now c.args.index.now c.in_ok-profile.profile c.in_ok-demo.demo c.in_ok-index.index c.in-Ok.built c.print_built.result c.requires.other c.in_ok-profile.ensures.gets c.in_ok-profile.ensures.gives c.in_ok-demo.ensures.looks c.in_ok-index.ensures.creates c.build_index.ensures.untold
    c.in-Ok.ensures.builds
