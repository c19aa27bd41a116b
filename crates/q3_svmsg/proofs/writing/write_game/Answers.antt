use Rattle.std.proofs.Common.{ap}
use Rattle.q3_svmsg.specs.Values.{game_of, told_of, section_of}
use Rattle.q3_svmsg.proofs.writing.write_game.Goals as goal

pub returns : goal.returns
returns c =
    λ baselines.
    let message = c.args.message.now in
    let is = ap (λ section. record (told_of message) { section = section_of section (game_of message) message.head message.entities.value.items }) c.requires.game in
    rw (is, ← c.game_parts_of.ensures) (c.write_game_parts.ensures baselines)
