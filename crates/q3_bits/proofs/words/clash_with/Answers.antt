use Rattle.std.proofs.Common.{◌≡◌, ◌∙◌, true, false, get_or, length, sym, arith}
use Rattle.q3_bits.specs.declared.code.Word.{Word}
use Rattle.q3_bits.specs.Table.{bits_of_word, words_of}
use Rattle.q3_bits.specs.CodeWords.{clashes}
use Rattle.q3_bits.proofs.WordTexts.{find_hit, find_miss, word_length, word_number, clashes-test, clashes-self}
use Rattle.q3_bits.proofs.words.clash_with.Goals as goal
use Rattle.q3_bits.proofs.words.clash_with.Goals.{else-i-j-via-then-i-j+else-starts_with, else-i-j-via-else-i-j}

pub returns-then-starts_with : goal.returns-then-starts_with
returns-then-starts_with c =
    let words = c.args.words.now in
    let none : Word = record { bits = 0; length = 0 } in
    let word = get_or words c.args.i none in
    let begins = c.if-starts_with.ensures (bits_of_word word) (omega (arith, c.from.ensures, word_length word, (c.requires.words c.args.i none c.requires.place).short)) (word_number word (c.requires.words c.args.i none c.requires.place)) in
    let hit : clashes (words_of words) (c.args.i, c.loop-j.j) ≡ true = clashes-test words c.args.i c.loop-j.j none true c.requires.place c.loop-j-test.true c.if-i-j.true begins in
    sym (find_hit (λ j. clashes (words_of words) (c.args.i, j)) c.loop-j.j (length words) c.loop-j-test.true hit) ∙ c.loop-j.invariant

pub loop-j-preserved : goal.loop-j-preserved
loop-j-preserved c =
    let words = c.args.words.now in
    let none : Word = record { bits = 0; length = 0 } in
    let word = get_or words c.args.i none in
    let miss : clashes (words_of words) (c.args.i, c.loop-j.j) ≡ false = elim c.else-i-j.branch [
      | else-i-j-via-then-i-j+else-starts_with w ↦
          clashes-test words c.args.i c.loop-j.j none false c.requires.place c.loop-j-test.true w.if-i-j.true
          (w.if-starts_with.ensures (bits_of_word word) (omega (arith, w.from.ensures, word_length word, (c.requires.words c.args.i none c.requires.place).short)) (word_number word (c.requires.words c.args.i none c.requires.place)))
      | else-i-j-via-else-i-j w ↦ clashes-self (words_of words) c.args.i c.loop-j.j w.if-i-j.false
    ] in
    sym (find_miss (λ j. clashes (words_of words) (c.args.i, j)) c.loop-j.j (length words) c.loop-j-test.true miss) ∙ c.loop-j.invariant
