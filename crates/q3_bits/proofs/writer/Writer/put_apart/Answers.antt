use Rattle.std.proofs.Common.{◌++◌}
use Rattle.std.proofs.lemmas.Result.{err_from_is_err_and}
use Rattle.q3_bits.specs.Words.{field_bits}
use Rattle.q3_bits.proofs.Texts.{Writes-next, Writes-refused}
use Rattle.q3_bits.proofs.writer.Writer.put_apart.Goals as goal

pub returns-in_err-put : goal.returns-in_err-put
returns-in_err-put c =
    let words = c.args.self.now.words in
    let p = err_from_is_err_and c.from_residual.result c.from_residual.ensures.1 in
    rw (p.1, p.2) (Writes-refused (field_bits words c.args.mark.1 c.args.mark.0 ++ field_bits words c.args.last.1 c.args.last.0) c.in_err-put.ensures.writes)

pub returns : goal.returns
returns c = Writes-next (λ ws. field_bits ws c.args.mark.1 c.args.mark.0 ++ field_bits ws c.args.last.1 c.args.last.0) c.in_ok-put.ensures.writes c.put_marked.ensures.writes
