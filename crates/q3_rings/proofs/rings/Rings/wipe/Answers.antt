use Rattle.std.proofs.Common.{◌≤◌, length, arith}
use Rattle.q3_rings.proofs.Kept.{nothing_is_kept}
use Rattle.q3_rings.proofs.rings.Rings.wipe.Goals as goal

pub invariant_of-self : goal.invariant_of-self
invariant_of-self c =
    let held = c.self.invariant.held in
    let ring = held.ring in
    let room : 512 ≤ length c.clear.new.self.recent = omega arith in
    rw c.clear-2.ensures (nothing_is_kept c.clear.new.self room (omega arith))
