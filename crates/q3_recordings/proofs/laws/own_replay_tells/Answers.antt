use Rattle.q3_recordings.proofs.OwnReplays.{own_replay_tells}
use Rattle.q3_recordings.proofs.laws.own_replay_tells.Goals as goal

pub returns : goal.returns
returns c =
    own_replay_tells c.slots_are_kept.ensures c.strings_tell_id.ensures
    (record { read = c.read_is_spelled.ensures; stays = c.apply_stays.ensures; contexts = c.applied_is_context.ensures; takes = c.takes_messages.ensures })
