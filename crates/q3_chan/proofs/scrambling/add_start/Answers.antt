use Rattle.std.proofs.Common.{[], arith}
use Rattle.q3_chan.proofs.Keys.{key_first, empty_more, went_none, went_all}
use Rattle.q3_chan.proofs.scrambling.add_start.Goals as goal

pub loop-place-init : goal.loop-place-init
loop-place-init c = went_none _ c.args.from c.args.start c.args.bytes.now (key_first c.args.from c.args.start [])

pub loop-place-preserved : goal.loop-place-preserved
loop-place-preserved c =
    empty_more c.args.from c.args.start c.args.bytes.now c.loop-place.place c.loop-place.bytes c.loop-place.invariant (omega arith) (omega arith)

pub returns : goal.returns
returns c = went_all c.args.from c.args.start [] c.args.bytes.now c.loop-place.place c.args.start c.loop-place.bytes c.loop-place.invariant (omega arith)
