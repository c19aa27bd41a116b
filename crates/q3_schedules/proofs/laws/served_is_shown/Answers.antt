use Rattle.q3_schedules.proofs.ServedShown.{served_is_shown}
use Rattle.q3_schedules.proofs.laws.served_is_shown.Goals as goal

pub returns : goal.returns
returns c =
    served_is_shown c.bytes_follow_tags.ensures c.in_order_is_accepted.ensures c.applied_was_built.ensures c.message_holds_bits.ensures.bytes c.ends_scramble.ensures.front c.tagged_does.ensures
