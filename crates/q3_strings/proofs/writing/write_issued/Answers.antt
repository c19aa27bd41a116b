use Rattle.q3_strings.specs.Texts.{command_bits}
use Rattle.q3_strings.proofs.writing.write_issued.Goals as goal

pub returns : goal.returns
returns c =
    c.texts_are_written.ensures.next (λ ws. command_bits ws c.args.command.now) (rw c.from.ensures at c.in_ok-put_all.ensures) c.write_command.ensures
