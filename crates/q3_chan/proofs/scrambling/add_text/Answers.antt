use Rattle.std.proofs.Common.{◌≡◌, ◌-◌, length, min, arith}
use Rattle.q3_chan.proofs.Keys.{key_before, through_more, went_all}
use Rattle.q3_chan.proofs.scrambling.add_text.Goals as goal

pub loop-place-preserved : goal.loop-place-preserved
loop-place-preserved c =
    let text = c.args.text.now in
    let few : c.min-count.result ≡ min (length text) (length c.loop-place.bytes - c.loop-place.place) = omega arith in
    through_more c.args.from c.args.start text c.args.bytes.now c.loop-place.place c.loop-place.key c.loop-place.bytes c.min-count.result c.add_part-key.result
    c.add_part-key.new.bytes c.loop-place.invariant (omega arith) few (omega arith) (c.add_part-key.ensures (key_before c.args.from c.args.start text))

pub returns : goal.returns
returns c =
    went_all c.args.from c.args.start c.args.text.now c.args.bytes.now c.loop-place.place c.loop-place.key c.loop-place.bytes c.loop-place.invariant.went (omega arith)
