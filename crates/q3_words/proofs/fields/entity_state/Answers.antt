use Rattle.std.proofs.Common.{◌<◌, length, arith}
use Rattle.std.proofs.lemmas.Bool.Decides.{nat_tests}
use Rattle.q3_words.specs.Words.{words_left}
use Rattle.q3_words.proofs.PlayerParts.{is_no_entity}
use Rattle.q3_words.proofs.fields.entity_state.Goals as goal

pub returns-then-not-is_empty : goal.returns-then-not-is_empty
returns-then-not-is_empty c =
    let some : 0 < length c.take_fields-others.result.now = grind (arith, nat_tests) in
    is_no_entity c.args.number (words_left c.args.start.now) c.take_fields-others.result.now c.take_fields-others.ensures.left some
