use Rattle.std.proofs.Common.{sym, ◌∙◌, length, arith}
use Rattle.std.proofs.lemmas.List.{length-set}
use Rattle.q3_words.proofs.Placed.{place-within, puts_on, puts_all}
use Rattle.q3_words.proofs.sparse.put.Goals as goal

pub bounds-words-from : goal.bounds-words-from
bounds-words-from c = rw (c.from.ensures, c.loop-k.invariant.size) (place-within (length c.args.words.now) c.args.kept.now c.loop-k.k (0, 0) c.requires (omega arith))

pub loop-k-preserved : goal.loop-k-preserved
loop-k-preserved c = record {
  put = rw c.from.ensures (sym (puts_on c.args.kept.now c.loop-k.words c.loop-k.k (0, 0) (omega arith)) ∙ c.loop-k.invariant.put);
  size = simp length-set c.loop-k.invariant.size;
}

pub returns : goal.returns
returns c = sym (puts_all c.args.kept.now c.loop-k.words c.loop-k.k (omega arith)) ∙ c.loop-k.invariant.put
