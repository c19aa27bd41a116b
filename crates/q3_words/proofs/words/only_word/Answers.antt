use Rattle.std.proofs.Common.{◌<◌, length, arith}
use Rattle.std.proofs.lemmas.Bool.Decides.{nat_tests}
use Rattle.q3_words.specs.Words.{words_left}
use Rattle.q3_words.proofs.Spaces.{only_of_more, next_of_some}
use Rattle.q3_words.proofs.words.only_word.Goals as goal

pub returns-else-is_empty : goal.returns-else-is_empty
returns-else-is_empty c =
    let e = next_of_some c.in_ok-word.word.now (words_left c.in_ok-word.after.now) (words_left c.args.left.now) c.in_ok-word.ensures in
    let some : 0 < length c.in_ok-word.after.now = grind (arith, nat_tests) in
    rw e (only_of_more c.in_ok-word.word.now c.in_ok-word.after.now some)
