use Rattle.std.proofs.lemmas.List.{length-set}
use Rattle.q3_words.specs.Words.{words_left}
use Rattle.q3_words.proofs.Rising.{ends, stops, goes_on}
use Rattle.q3_words.proofs.fields.take_fields.Goals as goal

pub returns-in_default-field-clause-values : goal.returns-in_default-field-clause-values
returns-in_default-field-clause-values c = (stops c.loop-word.invariant.reached c.in-Some.word.now (words_left c.in-Some.others.now) c.in-Some.ensures c.in_default-field.ensures.value).put

pub returns-in_default-field-clause-left : goal.returns-in_default-field-clause-left
returns-in_default-field-clause-left c = (stops c.loop-word.invariant.reached c.in-Some.word.now (words_left c.in-Some.others.now) c.in-Some.ensures c.in_default-field.ensures.value).after

pub loop-word-preserved : goal.loop-word-preserved
loop-word-preserved c = record {
  reached = goes_on c.loop-word.invariant.reached c.in-Some.word.now (words_left c.in-Some.others.now) c.in-Some-field.index c.in-Some-field.value c.in-Some.ensures c.in-Some-field.ensures.value;
  limit = c.loop-word.invariant.limit;
  size = simp length-set c.loop-word.invariant.size;
}

pub returns-clause-values : goal.returns-clause-values
returns-clause-values c = (ends c.loop-word.invariant.reached c.in_default.ensures).put

pub returns-clause-left : goal.returns-clause-left
returns-clause-left c = (ends c.loop-word.invariant.reached c.in_default.ensures).after
