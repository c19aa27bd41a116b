use Rattle.q3_messages.proofs.SaidRead.{said_is_read}
use Rattle.q3_messages.proofs.laws.said_is_read.Goals as goal

pub returns : goal.returns
returns c =
    said_is_read c.put_is_read.ensures c.message_holds_bits.ensures.holds c.ends_scramble.ensures.twice c.ends_scramble.ensures.front
    c.written_is_read.ensures
