use Rattle.std.proofs.Common.{refl, arith}
use Rattle.q3_words.proofs.Placed.{goes_on, ends}
use Rattle.q3_words.proofs.sparse.push_each.Goals as goal

pub loop-k-preserved : goal.loop-k-preserved
loop-k-preserved c = rw c.in_ok-push_word.ensures (goes_on c.args.first _ c.args.words.now c.loop-k.k _ (omega arith) (omega arith) refl c.loop-k.invariant)

pub returns : goal.returns
returns c = ends _ _ c.args.words.now c.loop-k.k (omega arith) c.loop-k.invariant
