use Rattle.std.proofs.Common.{◌-◌, ◌+◌, length, take, drop, refl, length-drop, arith}
use Rattle.std.proofs.lemmas.List.{take_all}
use Rattle.q3_chan.proofs.Keys.{first_more}
use Rattle.q3_chan.proofs.scrambling.add_part.Goals as goal

pub returns : goal.returns
returns c = λ keys g.
    let text = c.args.text.now in
    first_more keys c.args.place c.args.key text c.args.bytes.now (take (length text - 1) (drop 1 text)) (c.args.place + length text) c.add_pairs-2.result
    c.add_pairs-2.new.bytes g (omega arith) c.requires.some (omega arith) (take_all (length text - 1) (drop 1 text) (omega (arith, length-drop 1 text))) refl
    (c.add_pairs-2.ensures keys)
