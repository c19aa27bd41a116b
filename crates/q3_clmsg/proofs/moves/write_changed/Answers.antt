use Rattle.std.proofs.Common.{◌≡◌, false, sym, ◌∙◌}
use Rattle.std.specs.Str.{bytes_eq}
use Rattle.q3_clmsg.specs.Moves.{move_widths, fields_bits}
use Rattle.q3_clmsg.proofs.moves.write_changed.Goals as goal

pub returns : goal.returns
returns c =
    let other : bytes_eq c.args.from.now c.args.to.now ≡ false = sym c.eq.ensures ∙ c.if-eq.false in
    let both = c.texts_are_written.ensures.next (λ ws. fields_bits ws c.args.key move_widths c.args.from.now c.args.to.now) c.in_ok-put.ensures.writes c.write_fields.ensures in
    rw other both
