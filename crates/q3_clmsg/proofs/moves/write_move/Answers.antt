use Rattle.q3_clmsg.specs.Moves.{move_key, fields_of, changed_bits, move_delta}
use Rattle.q3_clmsg.proofs.moves.write_move.Goals as goal

pub returns : goal.returns
unfolding move_delta
returns c =
    let from = fields_of c.args.from.now in
    let to = fields_of c.args.to.now in
    let changed = rw (c.fields.ensures.is, c.fields-2.ensures.is) at c.write_changed.ensures in
    c.texts_are_written.ensures.next (λ ws. changed_bits ws (move_key c.args.key c.args.to.now.time) from to) c.in_ok-write_time.ensures changed
