use Rattle.std.proofs.Common.{◌<◌, length, sym, arith}
use Rattle.std.proofs.lemmas.Bool.{eqb-false}
use Rattle.q3_strings.specs.Texts.{string_bits}
use Rattle.q3_gamestate.proofs.Parts.{config-some}
use Rattle.q3_gamestate.proofs.writing.write_config.Goals as goal

pub returns : goal.returns
returns c =
    let some : 0 < length c.args.text.now = omega (arith, eqb-false (length c.args.text.now) 0 (sym c.if-is_empty.ensures)) in
    rw (config-some c.args.w.now.words c.args.index c.args.text.now some)
    (c.texts_are_written.ensures.next (λ ws. string_bits ws c.args.text.now) c.in_ok-put_all.ensures c.write_string.ensures)
