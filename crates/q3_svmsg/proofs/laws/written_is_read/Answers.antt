use Rattle.q3_svmsg.specs.Texts.{server_message_bits}
use Rattle.q3_svmsg.specs.Laws.{base_in, normal_told}
use Rattle.q3_svmsg.proofs.laws.written_is_read.Goals as goal

pub returns : goal.returns
returns c =
    λ profile context number message rest codec is_context is.
    c.spelled_is_read.ensures profile context number (record message { section = normal_told profile message.section })
    (server_message_bits profile context.baselines (base_in context message.section) message) rest codec is_context
    (c.written_is_spelled.ensures profile context number message codec is_context is)
