use Rattle.std.proofs.Common.{◌≡◌, ◌≤◌, ◌++◌, map, take, vec_capacity}
use Rattle.q3_text.specs.Texts.{translated}
use Rattle.q3_config.proofs.table.extend.Given as goal

-- so much of the text stands after the bytes
abbrev pub invariant-loop-byte : goal.invariant-loop-byte
invariant-loop-byte l = record {
  items : l.bytes.items ≡ l.fn.bytes.items ++ map translated (take l.byte-index l.text);
  room : vec_capacity l.fn.bytes ≤ vec_capacity l.bytes;
}
