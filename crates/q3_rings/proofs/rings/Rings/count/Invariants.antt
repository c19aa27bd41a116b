use Rattle.std.proofs.Common.{◌≡◌, take}
use Rattle.std.specs.List.{count_by}
use Rattle.std.specs.Prelude.{is_some}
use Rattle.q3_rings.proofs.rings.Rings.count.Given as goal

-- those in the places up to here are counted
abbrev pub invariant-loop-place : goal.invariant-loop-place
invariant-loop-place l = l.count ≡ count_by is_some (take l.place l.self.held.places)
