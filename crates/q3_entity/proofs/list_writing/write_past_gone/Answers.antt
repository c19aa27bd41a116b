use Rattle.std.proofs.Common.{Some, ap, ◌∙◌}
use Rattle.std.proofs.lemmas.Result.{err_from_is_err_and}
use Rattle.q3_entity.specs.Entities.{run_of}
use Rattle.q3_entity.specs.Lists.{piece}
use Rattle.q3_entity.specs.Runs.{taken, from_number}
use Rattle.q3_entity.proofs.list_writing.write_past_gone.Goals as goal

pub returns-in_err-write_present-clause-writes : goal.returns-in_err-write_present-clause-writes
returns-in_err-write_present-clause-writes c =
    let to = c.args.entity.now in
    let left = from_number to.number (run_of c.args.base) in
    let found = ap (λ p. p.0) c.take_number.ensures ∙ ap (λ run. (taken to.number run).0) c.in_ok-left.ensures.left in
    let p = err_from_is_err_and c.from_residual-in_err-write_present.result c.from_residual-in_err-write_present.ensures.1 in
    rw (p.1, p.2)
    (c.texts_are_written.ensures.next (λ ws. piece ws c.args.table.now c.args.baselines.now to.number (taken to.number left).0 (Some to)) c.in_ok-left.ensures.writes (rw found at c.in_err-write_present.ensures))

pub returns-clause-writes : goal.returns-clause-writes
returns-clause-writes c =
    let to = c.args.entity.now in
    let left = from_number to.number (run_of c.args.base) in
    let found = ap (λ p. p.0) c.take_number.ensures ∙ ap (λ run. (taken to.number run).0) c.in_ok-left.ensures.left in
    c.texts_are_written.ensures.next (λ ws. piece ws c.args.table.now c.args.baselines.now to.number (taken to.number left).0 (Some to)) c.in_ok-left.ensures.writes (rw found at c.in_ok-write_present.ensures)
