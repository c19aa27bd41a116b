use Rattle.q3_schedules.proofs.InOrder.{in_order_is_accepted}
use Rattle.q3_schedules.proofs.laws.in_order_is_accepted.Goals as goal

pub returns : goal.returns
returns c = in_order_is_accepted c.bytes_follow_tags.ensures c.layers.ensures c.pieces_are_tagged.ensures.whole
