use Rattle.std.proofs.Common.{arith}
use Rattle.std.proofs.lemmas.List.{take_all}
use Rattle.q3_text.proofs.Translation.{IsText-translated}
use Rattle.q3_text.proofs.text.Text.of.Goals as goal

pub invariant_of-result : goal.invariant_of-result
invariant_of-result c =
    rw (c.loop-byte.invariant, take_all c.loop-byte.byte-index c.args.bytes.now c.loop-byte-test.false)
    (IsText-translated c.args.bytes.now (omega arith) c.in_default.ensures)
