use Rattle.std.proofs.Common.{◌-◌, length}
use Rattle.q3_chan.proofs.Keys.{IsGoingThrough}
use Rattle.q3_chan.proofs.scrambling.add_text.Given as goal

abbrev pub invariant-loop-place : goal.invariant-loop-place
invariant-loop-place l = IsGoingThrough l.from l.fn.start l.text l.initial.bytes l.place l.key l.bytes

abbrev pub decreases-loop-place : goal.decreases-loop-place
decreases-loop-place l = length l.initial.bytes - l.place
