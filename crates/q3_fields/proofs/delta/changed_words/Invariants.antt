use Rattle.std.proofs.Common.{◌≡◌, ◌≤◌, take}
use Rattle.q3_fields.specs.Deltas.{last_changed}
use Rattle.q3_fields.proofs.delta.changed_words.Given as goal

-- the words after those left agree
abbrev pub invariant-loop-left : goal.invariant-loop-left
invariant-loop-left l = record {
  changed : last_changed (take l.left l.from) (take l.left l.to) ≡ last_changed (take l.count l.from) (take l.count l.to);
  most : l.left ≤ l.count;
}

abbrev pub decreases-loop-left : goal.decreases-loop-left
decreases-loop-left l = l.left
