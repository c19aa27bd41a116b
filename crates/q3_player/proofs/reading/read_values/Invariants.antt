use Rattle.std.proofs.Common.{◌/◌, ◌^◌, drop}
use Rattle.q3_bits.specs.InPlace.{HasRead}
use Rattle.q3_player.specs.Delta.{values_at}
use Rattle.q3_player.proofs.reading.read_values.Given as goal

-- so many places were read
abbrev pub invariant-loop-k : goal.invariant-loop-k
invariant-loop-k l =
    HasRead l.fn.r l.r l.k l.fn.values l.values (values_at l.fn.r.words l.kind (l.mask / 2 ^ l.k) (drop l.k l.fn.values) l.r.left) (values_at l.fn.r.words l.kind (l.mask / 2 ^ 0) l.fn.values l.fn.r.left)
