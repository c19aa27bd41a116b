use Rattle.std.proofs.Common.{◌≡◌, ◌-◌, length}
use Rattle.q3_strings.specs.Reading.{string_bytes_at}
use Rattle.q3_strings.proofs.Fronts.{HasFront}
use Rattle.q3_strings.proofs.reading.read_bytes.Given as goal

-- so many bytes were read
abbrev pub invariant-loop : goal.invariant-loop
invariant-loop g l = record {
  count : length l.into.items ≡ l.counter;
  reads : HasFront l.fn.r l.own l.into.items (string_bytes_at l.fn.r.words (l.count - l.counter) l.own.left) (string_bytes_at l.fn.r.words l.count l.fn.r.left);
}
