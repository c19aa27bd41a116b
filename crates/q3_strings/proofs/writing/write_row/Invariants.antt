use Rattle.std.proofs.Common.{drop}
use Rattle.q3_bits.specs.Streams.{HasWritten}
use Rattle.q3_strings.specs.Commands.{commands_bits}
use Rattle.q3_strings.proofs.writing.write_row.Given as goal

-- so many commands were written
abbrev pub invariant-loop-command : goal.invariant-loop-command
invariant-loop-command l =
    HasWritten l.fn.w l.w (commands_bits l.fn.w.words l.operation (drop l.command-index l.commands)) (commands_bits l.fn.w.words l.operation l.commands)
