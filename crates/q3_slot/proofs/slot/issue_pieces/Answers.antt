use Rattle.std.proofs.Common.{ap, arith}
use Rattle.q3_window.specs.Outgoing.{Issuing}
use Rattle.q3_slot.proofs.Told.{AreLeft-begin, AreLeft-step, AreLeft-end}
use Rattle.q3_slot.proofs.slot.issue_pieces.Goals as goal

pub loop-k-init : goal.loop-k-init
loop-k-init c = AreLeft-begin c.args.issued.now c.args.index c.args.text.now c.requires.fits

pub loop-k-preserved : goal.loop-k-preserved
loop-k-preserved c =
    AreLeft-step c.args.issued.now c.loop-k.issued c.issue.new.self c.args.index c.args.text.now c.loop-k.k c.piece.result c.loop-k.invariant
    (omega (arith, c.loop-k-test.true, c.pieces-k-end.ensures)) c.piece.ensures (ap (λ (i : Issuing). i.window) c.issue.ensures)

pub returns : goal.returns
returns c =
    AreLeft-end c.args.issued.now c.loop-k.issued c.args.index c.args.text.now c.loop-k.k c.loop-k.invariant
    (omega (arith, c.loop-k-test.false, c.pieces-k-end.ensures))
