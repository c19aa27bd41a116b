use Rattle.std.proofs.Common.{◌≡◌, ◌+◌, ◌-◌, ◌*◌, ◌^◌, ◌<◌, ◌≤◌, length}
use Rattle.q3_bits.specs.Words.{bytes_at}
use Rattle.q3_bits.specs.Unread.{bits_ahead}
use Rattle.q3_bits.proofs.CodeText.{onto}
use Rattle.q3_bits.proofs.reader.bytes_from.Given as goal

-- the bytes so far, with those that are left, are all
abbrev pub invariant-loop-k : goal.invariant-loop-k
invariant-loop-k l = record {
  fits : l.number < 256 ^ l.k;
  most : length (bits_ahead l.left) ≤ length (bits_ahead l.fn.ahead);
  near : length (bits_ahead l.fn.ahead) ≤ length (bits_ahead l.left) + 24 * l.k;
  reads : onto l.number (256 ^ l.k) (bytes_at l.code (l.count - l.k) (bits_ahead l.left)) ≡ bytes_at l.code l.count (bits_ahead l.fn.ahead);
}
