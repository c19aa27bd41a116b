use Rattle.std.proofs.Common.{arith}
use Rattle.q3_words.proofs.Spaces.{text_after}
use Rattle.q3_words.proofs.words.text_left.Goals as goal

pub returns-in-len1-up : goal.returns-in-len1-up
returns-in-len1-up c = text_after c.args.left.now (omega arith)
