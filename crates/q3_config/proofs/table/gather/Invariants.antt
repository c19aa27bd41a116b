use Rattle.std.proofs.Common.{◌≤◌, vec_capacity}
use Rattle.q3_config.proofs.Places.{Copied}
use Rattle.q3_config.proofs.table.gather.Given as goal

-- the strings up to here are copied
abbrev pub invariant-loop-place : goal.invariant-loop-place
invariant-loop-place l = record {
  done : Copied l.bytes l.into.items l.fn.places.items l.place-items l.place-index;
  room : vec_capacity l.fn.into ≤ vec_capacity l.into;
}
