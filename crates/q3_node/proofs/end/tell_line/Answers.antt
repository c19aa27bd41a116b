use Rattle.std.proofs.lemmas.Result.{err_from_is_err_and}
use Rattle.q3_node.proofs.Parts.{nothing_done}
use Rattle.q3_node.proofs.end.tell_line.Goals as goal

pub returns-in_err-tell-clause-files : goal.returns-in_err-tell-clause-files
returns-in_err-tell-clause-files g c =
    let p = err_from_is_err_and c.from_residual.result c.from_residual.ensures.1 in
    λ told. rw (p.1, p.2, c.in_err-tell.ensures.only) (nothing_done told)
