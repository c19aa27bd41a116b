use Rattle.std.proofs.Common.{◌≡◌, length}
use Rattle.q3_script.specs.Script.{lines_of, line_after, no_course, events_from}
use Rattle.q3_script.proofs.Gather.{Reached}
use Rattle.q3_script.proofs.script.events.Given as goal

-- the events so far and those of the lines that are left are those of all lines
abbrev pub invariant-loop-line : goal.invariant-loop-line
invariant-loop-line l = record {
  reached : Reached l.kind (line_after l.bytes) (lines_of l.bytes) (length l.yielded) l.events.items l.course (events_from l.kind (line_after l.bytes) 1 0 no_course (lines_of l.bytes));
  number : l.number ≡ length l.yielded;
  can_next : (goal.iterator-loop-line).can_next l.line-iterator;
  is_finite : (goal.iterator-loop-line).is_finite l.line-iterator;
}
