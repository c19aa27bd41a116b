use Rattle.std.proofs.Common.{option_map}
use Rattle.std.proofs.lemmas.Result.{err_from_is_err_and}
use Rattle.q3_player.specs.Delta.{player_delta}
use Rattle.q3_entity.specs.Entities.{run_of}
use Rattle.q3_entity.specs.Lists.{entity_list_bits}
use Rattle.q3_svmsg.specs.Values.{base_viewed, base_player, base_entities}
use Rattle.q3_svmsg.specs.Texts.{snapshot_bits}
use Rattle.q3_svmsg.proofs.writing.write_snapshot.Goals as goal

pub returns-in_err-write_player : goal.returns-in_err-write_player
unfolding snapshot_bits
returns-in_err-write_player c =
    let law = c.texts_are_written.ensures in
    let words = c.args.w.now.words in
    let profile = c.args.profile.now in
    let base = option_map base_viewed c.args.base in
    let p = err_from_is_err_and c.from_residual-in_err-write_player.result c.from_residual-in_err-write_player.ensures.1 in
    let player = rw c.base_or-from.ensures.player at c.in_err-write_player.ensures in
    let both = law.next (λ ws. player_delta ws profile.player.kinds (base_player base) c.args.head.now.player) c.in_ok-write_head.ensures player in
    rw (p.1, p.2) (law.refused (entity_list_bits words profile.entity c.args.baselines.now (base_entities base) (run_of c.args.entities)) both)

pub returns : goal.returns
unfolding snapshot_bits
returns c =
    let law = c.texts_are_written.ensures in
    let profile = c.args.profile.now in
    let base = option_map base_viewed c.args.base in
    let player = rw c.base_or-from.ensures.player at c.in_ok-write_player.ensures in
    let list = rw c.base_or-from.ensures.entities at c.write_run.ensures in
    let both = law.next (λ ws. player_delta ws profile.player.kinds (base_player base) c.args.head.now.player) c.in_ok-write_head.ensures player in
    law.next (λ ws. entity_list_bits ws profile.entity c.args.baselines.now (base_entities base) (run_of c.args.entities)) both list
