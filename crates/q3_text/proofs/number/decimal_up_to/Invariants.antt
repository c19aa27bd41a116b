use Rattle.std.proofs.Common.{◌≡◌, ◌≤◌, true, take}
use Rattle.std.specs.List.{list_all}
use Rattle.q3_text.specs.Decimals.{is_digit, value_of}
use Rattle.q3_text.proofs.number.decimal_up_to.Given as goal

-- the digits so far, and their value
abbrev pub invariant-loop-byte : goal.invariant-loop-byte
invariant-loop-byte l = record {
  digits : list_all is_digit (take l.byte-index l.word) ≡ true;
  value : l.value ≡ value_of (take l.byte-index l.word);
  low : l.value ≤ l.high;
}
