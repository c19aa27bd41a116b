use Rattle.std.proofs.Common.{◌∙◌, length, sym}
use Rattle.std.proofs.lemmas.List.{length-map}
use Rattle.q3_bits.specs.Table.{bits_of_word, words_of}
use Rattle.q3_bits.specs.CodeWords.{clashes}
use Rattle.q3_bits.proofs.WordTexts.{first_clash-is, rows_hit, rows_miss}
use Rattle.q3_bits.proofs.words.first_clash.Goals as goal

pub loop-i-init : goal.loop-i-init
loop-i-init c = first_clash-is (words_of c.args.words.now) (length c.args.words.now) (sym (length-map c.args.words.now bits_of_word))

pub returns-in-Some : goal.returns-in-Some
returns-in-Some c =
    let words = words_of c.args.words.now in
    sym (rows_hit (clashes words) c.loop-i.i c.in-Some.j (length c.args.words.now) c.loop-i-test.true (sym c.in-Some.ensures)) ∙ c.loop-i.invariant

pub loop-i-preserved : goal.loop-i-preserved
loop-i-preserved c =
    let words = words_of c.args.words.now in
    sym (rows_miss (clashes words) c.loop-i.i (length c.args.words.now) c.loop-i-test.true (sym c.in_default.ensures)) ∙ c.loop-i.invariant
