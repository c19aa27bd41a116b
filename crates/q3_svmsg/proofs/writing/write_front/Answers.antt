use Rattle.q3_text.specs.Commands.{commands_of}
use Rattle.q3_strings.specs.Commands.{commands_bits}
use Rattle.q3_svmsg.proofs.writing.write_front.Goals as goal

pub returns : goal.returns
returns c =
    c.texts_are_written.ensures.next (λ ws. commands_bits ws 5 (commands_of c.args.commands)) c.in_ok-put_all.ensures c.write_commands.ensures
