use Rattle.std.proofs.Common.{◌+◌, ◌-◌, ◌*◌, refl, arith}
use Rattle.q3_words.proofs.Placed.{block_on, ends}
use Rattle.q3_words.proofs.sparse.push_words.Goals as goal

pub loop-k-preserved : goal.loop-k-preserved
loop-k-preserved c = rw c.in_ok-push_block.ensures (block_on c.args.first _ c.args.words.now c.loop-k.k _ (c.loop-k.k * 8 + 8 - c.loop-k.k * 8) (omega arith) (omega arith) (omega arith) refl c.loop-k.invariant)

pub returns : goal.returns
returns c = ends _ _ c.args.words.now (c.loop-k.k * 8) (omega arith) c.loop-k.invariant
