use Rattle.std.proofs.Common.{sym}
use Rattle.std.proofs.lemmas.Result.{err_from_is_err_and}
use Rattle.q3_entity.specs.Entities.{run_of}
use Rattle.q3_entity.proofs.Gone.{is_first}
use Rattle.q3_entity.proofs.list_writing.write_entry.Goals as goal

pub returns-in_err-write_entity-clause-writes : goal.returns-in_err-write_entity-clause-writes
returns-in_err-write_entity-clause-writes c =
    let p = err_from_is_err_and c.from_residual.result c.from_residual.ensures.1 in
    let found = rw c.in-Some.is at c.take_number.ensures in
    let first = is_first c.args.w.now.words c.args.table.now c.args.baselines.now (run_of c.args.base) c.args.entity.now c.in-Some.from.now (run_of c.take_number.result.1) (sym found) in
    rw (first.text, p.1, p.2) c.in_err-write_entity.ensures

pub returns-in-Some-clause-writes : goal.returns-in-Some-clause-writes
returns-in-Some-clause-writes c =
    let found = rw c.in-Some.is at c.take_number.ensures in
    let first = is_first c.args.w.now.words c.args.table.now c.args.baselines.now (run_of c.args.base) c.args.entity.now c.in-Some.from.now (run_of c.take_number.result.1) (sym found) in
    rw first.text c.in_ok-write_entity.ensures

pub returns-in-Some-clause-left : goal.returns-in-Some-clause-left
returns-in-Some-clause-left c =
    let found = rw c.in-Some.is at c.take_number.ensures in
    let first = is_first c.args.w.now.words c.args.table.now c.args.baselines.now (run_of c.args.base) c.args.entity.now c.in-Some.from.now (run_of c.take_number.result.1) (sym found) in
    sym first.left
