use Rattle.std.proofs.Common.{◌≡◌, length, map}
use Rattle.std.specs.List.{All, range_with_len}
use Rattle.q3_bits.specs.Bits.{low_bits}
use Rattle.q3_bits.specs.Table.{IsWord, words_of}
use Rattle.q3_bits.proofs.code.Code.plain.Given as goal

abbrev pub invariant-loop-bits : goal.invariant-loop-bits
invariant-loop-bits l = record {
  count : length l.words.items ≡ l.bits;
  each : All IsWord l.words.items;
  words : words_of l.words.items ≡ map (low_bits 8) (range_with_len 0 l.bits);
}
