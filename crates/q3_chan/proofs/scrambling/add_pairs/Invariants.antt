use Rattle.std.proofs.Common.{ℕ, ◌+◌, ◌*◌}
use Rattle.q3_chan.specs.Scrambling.{GoesOn, Went}
use Rattle.q3_chan.proofs.scrambling.add_pairs.Given as goal

abbrev pub invariant-loop-pair : goal.invariant-loop-pair
invariant-loop-pair l = (keys : ℕ → ℕ) → GoesOn keys l.place l.fn.key l.text → Went keys l.place l.initial.bytes (l.place + 2 * l.pair) l.key l.bytes
