use Rattle.std.proofs.Common.{◌≡◌, ◌≢◌, ◌⊎◌, ℕ, ◌<◌, ◌≤◌, None}
use Rattle.q3_entity_ring.specs.Places.{place_of}
use Rattle.q3_rings.specs.ByNumber.{held_under}
use Rattle.q3_rings.proofs.rings.Rings.next_number.Given as goal

-- the places up to here are looked at
abbrev pub invariant-loop-place : goal.invariant-loop-place
invariant-loop-place l = record {
  above : l.last < l.next;
  most : l.next ≤ l.self.held.newest;
  held : (l.next ≡ l.self.held.newest) ⊎ (held_under l.self.held l.next ≢ None);
  least : (number : ℕ) → place_of number < l.place → l.last < number → number < l.next → held_under l.self.held number ≡ None;
}
