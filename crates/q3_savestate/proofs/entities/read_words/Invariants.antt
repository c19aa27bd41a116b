use Rattle.q3_savestate.proofs.WordsRead.{HasWords}
use Rattle.q3_savestate.proofs.entities.read_words.Given as goal

abbrev pub invariant-loop-i : goal.invariant-loop-i
invariant-loop-i l = HasWords l.table.kinds l.fn.cursor l.cursor l.i l.words
