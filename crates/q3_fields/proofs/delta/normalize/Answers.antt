use Rattle.std.proofs.Common.{◌∙◌, arith}
use Rattle.std.proofs.lemmas.List.{length-set}
use Rattle.q3_fields.proofs.NormalWords.{normal_words-more, normal_words-zero, normal_words-all}
use Rattle.q3_fields.proofs.delta.normalize.Goals as goal

pub loop-k-preserved-then-words-k-eq0 : goal.loop-k-preserved-then-words-k-eq0
loop-k-preserved-then-words-k-eq0 c = record {
  is = normal_words-zero c.args.table.now c.loop-k.k c.loop-k.words _ c.count.ensures.is_table (omega (arith, c.loop-k.invariant.long)) c.if-words-k-eq0.true c.loop-k.invariant.is;
  long = c.loop-k.invariant.long;
}

pub loop-k-preserved : goal.loop-k-preserved
loop-k-preserved c = record {
  is = normal_words-more c.args.table.now.kinds c.loop-k.k c.normal_word.result c.loop-k.words _ (omega (arith, c.loop-k.invariant.long)) c.loop-k.invariant.is c.normal_word.ensures;
  long = length-set c.loop-k.words c.loop-k.k c.normal_word.result ∙ c.loop-k.invariant.long;
}

pub returns : goal.returns
returns c = normal_words-all c.args.table.now.kinds c.loop-k.k c.loop-k.words _ (omega (arith, c.loop-k.invariant.long)) c.loop-k.invariant.is
