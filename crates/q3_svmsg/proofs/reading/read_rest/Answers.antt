use Rattle.std.proofs.lemmas.Result.{err_from_is_err_and}
use Rattle.q3_svmsg.specs.Values.{game_of, told_of}
use Rattle.q3_svmsg.proofs.Faults.{snapshot_fault}
use Rattle.q3_svmsg.proofs.reading.read_rest.Goals as goal

pub returns-in_err-into-in-7-clause-reads : goal.returns-in_err-into-in-7-clause-reads
returns-in_err-into-in-7-clause-reads g c =
    let p = err_from_is_err_and c.from_residual-in_err-into-in-7.result c.from_residual-in_err-into-in-7.ensures.1 in
    let profile = record c.args.profile.now { code = c.args.r.now.words } in
    let read = c.in_err-into-in-7.ensures.reads (game_of c.args.into.now) in
    rw (p.1, p.2) (record {
      value = snapshot_fault profile _ c.args.number c.args.operation (told_of c.args.into.now) c.args.r.now.left c.in_err-into-in-7.field-0.0 c.in-7.is read.value;
      words = read.words;
      place = read.place;
    })
