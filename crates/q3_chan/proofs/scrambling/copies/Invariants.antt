use Rattle.std.proofs.Common.{◌≡◌, ℕ, ◌<◌, ◌%◌, length, get_or}
use Rattle.q3_chan.proofs.scrambling.copies.Given as goal

abbrev pub invariant-loop-place : goal.invariant-loop-place
invariant-loop-place l = (length l.copies.items ≡ l.place)
    × ((k : ℕ) → k < l.place → get_or l.copies.items k 0 ≡ get_or l.text (k % length l.text) 0)
