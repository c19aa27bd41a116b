use Rattle.std.proofs.Common.{[]}
use Rattle.q3_chan.specs.Scrambling.{Went}
use Rattle.q3_chan.proofs.Keys.{key_before}
use Rattle.q3_chan.proofs.scrambling.add_start.Given as goal

abbrev pub invariant-loop-place : goal.invariant-loop-place
invariant-loop-place l = Went (key_before l.from l.start []) l.from l.initial.bytes l.place l.start l.bytes
