use Rattle.q3_messages.proofs.Begun.{begun_may_be_sent}
use Rattle.q3_messages.proofs.laws.begun_may_be_sent.Goals as goal

pub returns : goal.returns
returns c = begun_may_be_sent c.message_holds_bits.ensures.bytes c.ends_scramble.ensures.front c.ends_scramble.ensures.bytes
