use Rattle.std.proofs.Common.{rules, ◌++◌, decimal, arith}
use Rattle.q3_make.proofs.MadeLines.{label}
use Rattle.q3_make.proofs.draw.text_with.Goals as goal

pub returns : goal.returns
returns c =
    let is = label c.text_laws.ensures c.args.word.now c.args.number c.requires.letters c.requires.short (omega arith) in
    let stays = c.text_laws.ensures.stay (c.args.word.now ++ decimal c.args.number) is.is_text in
    search rules
