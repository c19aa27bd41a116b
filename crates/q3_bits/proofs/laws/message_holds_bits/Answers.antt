use Rattle.q3_bits.proofs.laws.message_holds_bits.Goals as goal
use Rattle.q3_bits.proofs.MessageBytes.{message_holds_bits, message_is_bytes}

pub returns-clause-holds : goal.returns-clause-holds
returns-clause-holds c = message_holds_bits

pub returns-clause-bytes : goal.returns-clause-bytes
returns-clause-bytes c = message_is_bytes
