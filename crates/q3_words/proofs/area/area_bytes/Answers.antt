use Rattle.q3_words.proofs.HexWords.{area_within}
use Rattle.q3_words.proofs.area.area_bytes.Goals as goal

pub returns : goal.returns
returns c = area_within c.args.word.now c.hex_bytes.result c.hex_bytes.ensures
