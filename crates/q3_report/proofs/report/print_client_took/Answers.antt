use Rattle.std.proofs.Common.{Bool, ◌++◌, ap, refl}
use Rattle.std.proofs.lemmas.Result.{err_from_is_err_and}
use Rattle.q3_report.specs.ClientLines.{client_text}
use Rattle.q3_report.specs.AnswerLines.{ended_text}
use Rattle.q3_report.proofs.report.print_client_took.Goals as goal

pub returns-in_err-print_took-clause-adds : goal.returns-in_err-print_took-clause-adds
returns-in_err-print_took-clause-adds g c =
    let p = err_from_is_err_and c.from_residual.result c.from_residual.ensures.1 in
    rw p.1 (c.texts_follow.ensures.early (ended_text c.args.ended) c.in_err-print_took.ensures.adds refl)

pub returns-clause-adds : goal.returns-clause-adds
returns-clause-adds g c =
    c.texts_follow.ensures.more c.in_ok-print_took.ensures.adds c.write_all.ensures.adds
    (ap (λ (ended : Bool). client_text c.args.client.now.state c.args.c c.args.took.now c.args.log.now.commands ++ ended_text ended) c.if-not-ended.false)
