use Rattle.std.proofs.Common.{length}
use Rattle.q3_words.specs.Quotes.{unquoted_at}
use Rattle.q3_words.proofs.Coming.{HasCome}
use Rattle.q3_words.proofs.quotes.collect.Given as goal

abbrev pub invariant-loop-left : goal.invariant-loop-left
invariant-loop-left l = HasCome l.bytes.items l.left (unquoted_at l.word)

abbrev pub decreases-loop-left : goal.decreases-loop-left
decreases-loop-left l = length l.left
