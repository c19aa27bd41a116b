use Rattle.std.proofs.Common.{◌≡◌, List, Option, None, replicate, length, ap, ◌∙◌, arith}
use Rattle.std.proofs.lemmas.List.{length-replicate}
use Rattle.std.proofs.lemmas.List.Elements.{All-same, All-replicate}
use Rattle.q3_entity.specs.Entities.{zero_entity}
use Rattle.q3_entity_ring.specs.declared.kept.Kept.{Kept}
use Rattle.q3_entity_ring.specs.Ring.{RingState, new_ring}
use Rattle.q3_entity_ring.specs.Places.{most_places, no_places}
use Rattle.q3_frames.proofs.Building.{empty-frames, empty-kept}
use Rattle.q3_frames.proofs.frames.Frames.new.Goals as goal

pub invariant_of-result : goal.invariant_of-result
invariant_of-result c =
    let ring : c.in_ok-new.field-0 ≡ new_ring c.args.ring = c.in_ok-new.ensures in
    let room : length c.in_ok-new.field-0.recent ≡ c.args.ring = ap (λ (r : RingState). length r.recent) ring ∙ length-replicate c.args.ring (zero_entity 0) in
    let placed : c.in_ok-new.field-0.placed ≡ 0 = ap (λ (r : RingState). r.placed) ring in
    let slots : c.in_ok-empty_slots.field-0.items ≡ replicate c.args.slots no_places = c.in_ok-empty_slots.ensures in
    record {
      room = omega arith;
      places = All-same (λ places. length places ≡ most_places) c.in_ok-empty_slots.field-0.items (replicate c.args.slots no_places) slots
          (All-replicate (λ (places : List (Option Kept)). length places ≡ most_places) c.args.slots no_places (length-replicate {A = Option Kept} most_places None));
      placed = omega arith;
      fewer = omega arith;
      each = empty-kept c.in_ok-new.field-0 c.args.slots c.in_ok-empty_slots.field-0.items slots;
    }

pub returns : goal.returns
returns c = empty-frames c.in_ok-new.field-0 c.args.ring c.args.slots c.in_ok-empty_slots.field-0.items c.in_ok-new.ensures c.in_ok-empty_slots.ensures
