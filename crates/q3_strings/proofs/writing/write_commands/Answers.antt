use Rattle.std.proofs.lemmas.Result.{err_from_is_err_and}
use Rattle.q3_strings.specs.Commands.{commands_bits}
use Rattle.q3_strings.proofs.Rows.{commands-both}
use Rattle.q3_strings.proofs.writing.write_commands.Goals as goal

pub returns-in_err-write_row : goal.returns-in_err-write_row
returns-in_err-write_row c =
    let words = c.args.w.now.words in
    let operation = c.args.operation in
    let p = err_from_is_err_and c.from_residual.result c.from_residual.ensures.1 in
    rw (commands-both words operation c.args.commands, p.1, p.2)
    (c.texts_are_written.ensures.refused (commands_bits words operation c.args.commands.tail.now) c.in_err-write_row.ensures)

pub returns : goal.returns
returns c =
    rw (commands-both c.args.w.now.words c.args.operation c.args.commands)
    (c.texts_are_written.ensures.next (λ ws. commands_bits ws c.args.operation c.args.commands.tail.now) c.in_ok-write_row.ensures c.write_row-2.ensures)
