use Rattle.std.proofs.Common.{◌≡◌, ◌-◌, length}
use Rattle.q3_clmsg.specs.Moves.{no_move, moves_at}
use Rattle.q3_clmsg.proofs.Fronts.{HasFront}
use Rattle.q3_clmsg.proofs.moves.read_moves.Given as goal

-- so many moves were read
abbrev pub invariant-loop : goal.invariant-loop
invariant-loop l = record {
  count : length l.into.items ≡ l.counter;
  reads : HasFront l.fn.r l.r l.into.items (moves_at l.fn.r.words l.key (l.count - l.counter) l.from l.r.left) (moves_at l.fn.r.words l.key l.count no_move l.fn.r.left);
}
