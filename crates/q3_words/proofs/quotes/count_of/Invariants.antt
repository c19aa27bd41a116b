use Rattle.std.proofs.Common.{◌≡◌, ◌<◌, ◌+◌, ◌^◌, ℕ, List, length}
use Rattle.q3_words.specs.Quotes.{unquoted_at}
use Rattle.q3_words.proofs.Coming.{HasCome}
use Rattle.q3_words.proofs.quotes.count_of.Given as goal

abbrev pub invariant-loop-left : goal.invariant-loop-left
invariant-loop-left l = record {
  come : (bytes : List ℕ) × HasCome bytes l.left (unquoted_at l.word) × (length bytes ≡ l.count);
  room : l.count + length l.left < 2 ^ 63;
}

abbrev pub decreases-loop-left : goal.decreases-loop-left
decreases-loop-left l = length l.left
