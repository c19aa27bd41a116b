use Rattle.std.proofs.Common.{◌∙◌, arith}
use Rattle.q3_player.proofs.Same.{words-same}
use Rattle.q3_player.proofs.writing.same_words.Goals as goal

pub returns : goal.returns
returns c = c.eq.ensures ∙ words-same 0 c.args.from.now c.args.to.now (omega arith)
