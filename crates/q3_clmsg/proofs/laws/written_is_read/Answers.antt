use Rattle.q3_clmsg.specs.Texts.{client_message_bits}
use Rattle.q3_clmsg.proofs.laws.written_is_read.Goals as goal

pub returns : goal.returns
returns c =
    λ words key message rest code fits is.
    c.spelled_is_read.ensures words key message (client_message_bits words key message) rest code fits (c.written_is_spelled.ensures words key message code fits is)
