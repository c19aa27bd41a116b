use Rattle.q3_words.proofs.Spaces.{words_at_place, words_at_none}
use Rattle.q3_words.proofs.words.first_word.Goals as goal

pub returns-in-Some : goal.returns-in-Some
returns-in-Some c = words_at_place c.args.text.now c.split_at.result.0.now c.split_at.result.1.now c.in-Some.end c.in-Some.ensures c.split_at.ensures.front c.split_at.ensures.back

pub returns-in-None : goal.returns-in-None
returns-in-None c = words_at_none c.args.text.now c.in-None.ensures
