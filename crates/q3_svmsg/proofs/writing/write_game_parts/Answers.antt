use Rattle.std.proofs.Common.{refl}
use Rattle.q3_entity.specs.Baselines.{no_baselines}
use Rattle.q3_gamestate.specs.Values.{gamestate_of}
use Rattle.q3_svmsg.specs.Values.{game_told}
use Rattle.q3_svmsg.proofs.Games.{game_text}
use Rattle.q3_svmsg.proofs.writing.write_game_parts.Goals as goal

pub returns : goal.returns
returns c =
    λ baselines.
    let parts = c.args.parts in
    let game = gamestate_of parts.numbers parts.configs.now parts.baselines.now in
    rw (game_text c.args.profile.now baselines no_baselines (game_told parts) game refl) c.fill_game.ensures
