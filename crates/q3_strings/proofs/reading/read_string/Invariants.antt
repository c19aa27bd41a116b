use Rattle.std.proofs.Common.{◌≡◌, ◌-◌, length}
use Rattle.std.specs.List.{All}
use Rattle.q3_text.specs.Texts.{IsTextByte}
use Rattle.q3_strings.specs.Reading.{bounded_string_at}
use Rattle.q3_strings.proofs.Fronts.{HasFront}
use Rattle.q3_strings.proofs.reading.read_string.Given as goal

-- so many bytes were read, none of them 0, and the reader itself still stands where it stood
abbrev pub invariant-loop : goal.invariant-loop
invariant-loop g l = record {
  same : l.r ≡ l.fn.r;
  count : length l.into.items ≡ l.counter;
  each : All IsTextByte l.into.items;
  reads : HasFront l.fn.r l.own l.into.items (bounded_string_at l.fn.r.words (g.row.N - l.counter) l.own.left) (bounded_string_at l.fn.r.words g.row.N l.fn.r.left);
}
