use Rattle.q3_player.proofs.Changes.{values_bits-same, values_bits-differs}
use Rattle.q3_player.proofs.writing.write_place.Goals as goal
use Rattle.std.proofs.Common.{arith}

pub returns-then-from-to : goal.returns-then-from-to
returns-then-from-to c =
    rw (values_bits-same c.args.w.now.words c.args.kind c.args.from c.args.to c.if-from-to.true)
    (c.texts_are_written.ensures.nothing _ (λ over. omega (arith, c.length.ensures.length, c.length.ensures.within, over)))

pub returns : goal.returns
returns c = rw (values_bits-differs c.args.w.now.words c.args.kind c.args.from c.args.to c.if-from-to.false) c.write_player_field.ensures
