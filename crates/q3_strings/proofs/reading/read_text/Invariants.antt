use Rattle.std.proofs.Common.{◌≡◌, ◌-◌, length, take}
use Rattle.q3_text.specs.Texts.{most_bytes}
use Rattle.q3_strings.specs.Reading.{bounded_string_at}
use Rattle.q3_strings.proofs.Fronts.{HasFront}
use Rattle.q3_strings.proofs.reading.read_text.Given as goal

-- so many bytes were read over those that stood there, none of them 0, and the reader itself still stands where it stood
abbrev pub invariant-loop-place : goal.invariant-loop-place
invariant-loop-place l = record {
  same : l.r ≡ l.fn.r;
  count : length l.into ≡ length l.fn.into;
  reads : HasFront l.fn.r l.own (take l.place l.into) (bounded_string_at l.fn.r.words (most_bytes - l.place) l.own.left)
      (bounded_string_at l.fn.r.words most_bytes l.fn.r.left);
}

-- so many were read in all
abbrev pub invariant-loop : goal.invariant-loop
invariant-loop l = record {
  same : l.r ≡ l.fn.r;
  count : length l.into ≡ l.counter;
  reads : HasFront l.fn.r l.own l.into (bounded_string_at l.fn.r.words (most_bytes - l.counter) l.own.left)
      (bounded_string_at l.fn.r.words most_bytes l.fn.r.left);
}
