use Rattle.std.proofs.Common.{◌≡◌, map, take, drop}
use Rattle.std.specs.List.{All}
use Rattle.q3_bits.specs.Table.{words_of, IsWord}
use Rattle.q3_bits.specs.CodeWords.{texts_of, bits_of_text, words_fault}
use Rattle.q3_bits.proofs.words.read_words.Given as goal

-- no text so far is at fault, and the words are theirs
abbrev pub invariant-loop-place : goal.invariant-loop-place
invariant-loop-place l = record {
  faults : words_fault l.place (drop l.place (texts_of l.texts)) ≡ words_fault 0 (texts_of l.texts);
  words : words_of l.words.items ≡ map bits_of_text (take l.place (texts_of l.texts));
  each : All IsWord l.words.items;
}
