use Rattle.std.proofs.Common.{List}
use Rattle.std.proofs.lemmas.Result.{err_from_is_err_and}
use Rattle.q3_script.specs.declared.event.Event.{Event}
use Rattle.q3_runs.specs.Verdict.{events_in}
use Rattle.q3_runs.proofs.Loading.{unread, script_refused}
use Rattle.q3_runs.proofs.input.load_events.Goals as goal

pub returns-in_err-bytes-clause-gets : goal.returns-in_err-bytes-clause-gets
returns-in_err-bytes-clause-gets g c =
    let p = err_from_is_err_and c.from_residual.result c.from_residual.ensures.1 in
    rw (p.1, p.2) (unread (List Event) (events_in c.args.kind) 67108864 (g.F.Files.told c.args.files.now) c.args.name.now c.in_err-bytes.field-0.0 c.in_err-bytes.ensures.reads)

pub returns-in_err-read_script-clause-gets : goal.returns-in_err-read_script-clause-gets
returns-in_err-read_script-clause-gets g c =
    let p = err_from_is_err_and c.from_residual-in_err-read_script.result c.from_residual-in_err-read_script.ensures.1 in
    rw (p.1, p.2) (script_refused c.args.kind (g.F.Files.told c.args.files.now) c.args.name.now c.in_ok-bytes.bytes.items c.in_err-read_script.field-0.0
    c.in_ok-bytes.ensures.reads (rw (← c.deref.ensures.value) c.in_err-read_script.ensures.exact))
