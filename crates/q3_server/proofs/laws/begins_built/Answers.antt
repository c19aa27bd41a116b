use Rattle.q3_server.proofs.Begins.{next_is_built, game_is_built, begins}
use Rattle.q3_server.proofs.KeepsClients.{zero_held}
use Rattle.q3_server.proofs.laws.begins_built.Goals as goal

pub returns : goal.returns
returns c =
    let below = c.below.ensures in
    record {
      snapshot = λ profile map slot codec is_map joined is. next_is_built below profile map slot is_map (zero_held below profile codec) is joined;
      game = λ profile map slot codec is_map joined is. game_is_built below profile map slot is_map (zero_held below profile codec) is joined;
      began = begins below;
    }
