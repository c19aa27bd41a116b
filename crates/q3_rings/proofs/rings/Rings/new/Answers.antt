use Rattle.std.proofs.Common.{◌≡◌, ◌≤◌, length, ap, ◌∙◌, arith}
use Rattle.std.proofs.lemmas.List.{length-replicate}
use Rattle.q3_entity.specs.Entities.{zero_entity}
use Rattle.q3_entity_ring.specs.Ring.{RingState}
use Rattle.q3_rings.proofs.Kept.{nothing_is_kept}
use Rattle.q3_rings.proofs.rings.Rings.new.Goals as goal

pub invariant_of-result : goal.invariant_of-result
invariant_of-result c =
    let is : length c.in_ok-new.field-0.recent ≡ c.args.ring = ap (λ (ring : RingState). length ring.recent) c.in_ok-new.ensures ∙ length-replicate c.args.ring (zero_entity 0) in
    let room : 512 ≤ length c.in_ok-new.field-0.recent = omega arith in
    rw c.in_ok-new-2.ensures (nothing_is_kept c.in_ok-new.field-0 room (let placed : c.in_ok-new.field-0.placed ≡ 0 = ap (λ (ring : RingState). ring.placed) c.in_ok-new.ensures in omega arith))
