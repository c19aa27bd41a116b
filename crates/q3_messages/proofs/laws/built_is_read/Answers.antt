use Rattle.q3_messages.proofs.BuiltRead.{built_is_read}
use Rattle.q3_messages.proofs.laws.built_is_read.Goals as goal

pub returns : goal.returns
returns c =
    built_is_read c.put_is_read.ensures c.message_holds_bits.ensures.holds c.ends_scramble.ensures.twice c.ends_scramble.ensures.front
    c.applied_is_context.ensures c.written_is_read.ensures c.read_is_skipped.ensures
