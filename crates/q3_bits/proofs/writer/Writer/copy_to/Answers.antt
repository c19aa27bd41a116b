use Rattle.std.proofs.Common.{◌∙◌, length, ap, arith}
use Rattle.std.proofs.lemmas.List.{length-take}
use Rattle.q3_bits.proofs.MessageBytes.{message_is_bytes}
use Rattle.q3_bits.proofs.writer.Writer.copy_to.Goals as goal

pub slice_bounds-copy_from_slice-end : goal.slice_bounds-copy_from_slice-end
slice_bounds-copy_from_slice-end c =
    omega (arith, ap length c.bytes-bytes.ensures.message, (message_is_bytes c.args.self.now.bits).0, c.requires)

pub slice_bounds-copy_from_slice-end-2 : goal.slice_bounds-copy_from_slice-end-2
slice_bounds-copy_from_slice-end-2 c =
    omega (arith, ap length c.bytes-bytes.ensures.message, (message_is_bytes c.args.self.now.bits).0, c.requires, length-take (length c.bytes-bytes.result.now) c.args.into.now)

pub copy_from_slice-requires : goal.copy_from_slice-requires
copy_from_slice-requires c =
    omega (arith, ap length c.bytes-bytes.ensures.message, (message_is_bytes c.args.self.now.bits).0, c.requires, length-take (length c.bytes-bytes.result.now) c.args.into.now)

pub returns-clause-count : goal.returns-clause-count
returns-clause-count c = ap length c.bytes-bytes.ensures.message ∙ (message_is_bytes c.args.self.now.bits).0
