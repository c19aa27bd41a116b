use Rattle.std.proofs.lemmas.Result.{err_from_is_err_and}
use Rattle.q3_profile.specs.declared.profile.Profile.{Profile}
use Rattle.q3_runs.specs.Verdict.{profile_in}
use Rattle.q3_runs.proofs.Loading.{unread, profile_refused, profile_passed}
use Rattle.q3_runs.proofs.input.load_profile.Goals as goal

pub returns-in_err-bytes-clause-gets : goal.returns-in_err-bytes-clause-gets
returns-in_err-bytes-clause-gets g c =
    let p = err_from_is_err_and c.from_residual.result c.from_residual.ensures.1 in
    rw (p.1, p.2) (unread Profile profile_in 1048576 (g.F.Files.told c.args.files.now) c.args.name.now c.in_err-bytes.field-0.0 c.in_err-bytes.ensures.reads)

pub returns-in_err-parse_profile-clause-gets : goal.returns-in_err-parse_profile-clause-gets
returns-in_err-parse_profile-clause-gets g c =
    let p = err_from_is_err_and c.from_residual-in_err-parse_profile.result c.from_residual-in_err-parse_profile.ensures.1 in
    rw (p.1, p.2) (profile_refused (g.F.Files.told c.args.files.now) c.args.name.now c.in_ok-bytes.bytes.items c.in_err-parse_profile.field-0.0
    c.in_ok-bytes.ensures.reads (rw (← c.deref.ensures.value) c.in_err-parse_profile.ensures.exact))

pub returns-clause-gets : goal.returns-clause-gets
returns-clause-gets g c =
    profile_passed (g.F.Files.told c.args.files.now) c.args.name.now c.in_ok-bytes.bytes.items c.in_ok-parse_profile.field-0
    c.in_ok-bytes.ensures.reads (rw (← c.deref.ensures.value) c.in_ok-parse_profile.ensures.exact)
