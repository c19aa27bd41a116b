use Rattle.std.proofs.Common.{arith}
use Rattle.q3_chan.proofs.Keys.{pair_more, last_more, none_more}
use Rattle.q3_chan.proofs.scrambling.add_pairs.Goals as goal

pub loop-pair-preserved : goal.loop-pair-preserved
loop-pair-preserved c = λ keys g.
    let went = c.loop-pair.invariant keys g in
    pair_more keys c.args.place c.args.key c.args.text.now c.args.bytes.now c.loop-pair.pair c.loop-pair.key c.loop-pair.bytes g c.requires.even went
    (omega arith) (omega arith)

pub returns-then-text-eq1 : goal.returns-then-text-eq1
returns-then-text-eq1 c = λ keys g.
    last_more keys c.args.place c.args.key c.args.text.now c.args.bytes.now c.loop-pair.pair c.loop-pair.key c.loop-pair.bytes g c.requires.even
    (c.loop-pair.invariant keys g) (omega arith) (omega arith)

pub returns-else-text-eq1 : goal.returns-else-text-eq1
returns-else-text-eq1 c = λ keys g.
    none_more keys c.args.place c.args.text.now c.args.bytes.now c.loop-pair.pair c.loop-pair.key c.loop-pair.bytes (c.loop-pair.invariant keys g) (omega arith)
