use Rattle.std.proofs.Common.{drop}
use Rattle.q3_bits.specs.Streams.{HasWritten}
use Rattle.q3_clmsg.specs.Moves.{no_move, moves_bits}
use Rattle.q3_clmsg.proofs.moves.write_moves.Given as goal

-- so many moves were written
abbrev pub invariant-loop-one : goal.invariant-loop-one
invariant-loop-one l =
    HasWritten l.fn.w l.w (moves_bits l.fn.w.words l.key l.from (drop l.one-index l.moves)) (moves_bits l.fn.w.words l.key no_move l.moves)
