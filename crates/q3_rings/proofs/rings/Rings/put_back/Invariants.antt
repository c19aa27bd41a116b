use Rattle.std.proofs.Common.{◌≡◌, length, take, Some}
use Rattle.q3_rings.proofs.rings.Rings.put_back.Given as goal

-- the entities up to here are placed
abbrev pub invariant-loop-entity : goal.invariant-loop-entity
invariant-loop-entity l = l.self ≡ record l.fn.self {
  begun = Some (record { head = l.fn.head; age = l.fn.age; count = length l.fn.entities; entities = take l.entity-index l.fn.entities });
}
