-- What is kept of snapshots, after one that is accepted.
use Rattle.std.proofs.Common.{◌≡◌, ℕ, ◌+◌, ◌-◌, ◌^◌, ◌<◌, ◌≤◌, List, [], ◌∷◌, ◌++◌, length, map, get_or, Option, Some, None, refl, sym, ap, ◌∙◌, subst, arith}
use Rattle.std.specs.Prelude.{IfSome, option_map}
use Rattle.std.specs.List.{All}
use Rattle.std.proofs.lemmas.Bool.{leb-true, le-leb}
use Rattle.std.proofs.lemmas.List.{length-drop, length-append, map-set}
use Rattle.std.proofs.lemmas.List.Elements.{All-head, All-tail, All-set, All-weaker, All-replicate}
use Rattle.std.proofs.Math.ListN.{get_or-map}
use Rattle.q3_entity.specs.declared.state.EntityState.{EntityState}
use Rattle.q3_player.specs.declared.head.SnapHead.{SnapHead}
use Rattle.q3_entity.specs.Entities.{Rises, most_entities}
use Rattle.q3_entity_ring.specs.declared.kept.Kept.{Kept}
use Rattle.q3_entity_ring.specs.Ring.{RingState, with_entities, entities_from}
use Rattle.q3_entity_ring.specs.Places.{most_places, place_of, no_places, at_number, put_at_number}
use Rattle.q3_entity_ring.specs.Laws.{PlacedIsThere, OthersStay}
use Rattle.q3_rings.specs.declared.rings.Rings.TheInside.{Inside}
use Rattle.q3_rings.specs.declared.rings.Back.{Back}
use Rattle.q3_rings.specs.Loans.{head_from}
use Rattle.q3_rings.specs.Rings.{HeldSnapshot, RingsState, AreHeldSnapshots, held_remains, older, accept_at, accept_in}
use Rattle.q3_rings.specs.KeptRings.{held_in, begun_in, rings_in, IsKept, IsBack, AreKept}
use Rattle.q3_rings.proofs.Aging.{older_remains, remain_alike, new_remains, remains_head_from}
use Rattle.q3_rings.proofs.Accepting.{accept_stays, none_are_held}

room_stays : (ring : RingState) (entities : List EntityState) → length (with_entities ring entities).recent ≡ length ring.recent
room_stays ring entities = length-drop (length entities) (ring.recent ++ entities) ∙ omega (arith, length-append ring.recent entities)

-- what is kept, as what is held
abbrev pub as_held : RingState → Kept → HeldSnapshot
as_held ring kept = held_remains (length ring.recent) (held_in ring kept)

-- a snapshot whose entities are placed next
abbrev next_kept : RingState → SnapHead → List EntityState → Kept
next_kept ring head entities = record { head = head; first = ring.placed; count = length entities; counted = ring.placed }

-- ---- what is held

kept_older : OthersStay → (ring : RingState) (entities : List EntityState) (kept : Kept) → IsKept ring kept
    → as_held (with_entities ring entities) kept ≡ older (length ring.recent) (length entities) (as_held ring kept)
kept_older others ring entities kept is =
    let placed = is.placed in
    ap (λ room. held_remains room (held_in (with_entities ring entities) kept)) (room_stays ring entities)
    ∙ remain_alike (length ring.recent) kept.head (entities_from (with_entities ring entities) kept.first kept.count) (entities_from ring kept.first kept.count)
    (ring.placed + length entities - kept.first) (ring.placed - kept.first + length entities) (omega arith)
    (λ young. others ring entities kept.first kept.count placed (let le = leb-true _ _ young in omega arith))
    ∙ sym (older_remains (length ring.recent) (length entities) (held_in ring kept))

places_older : OthersStay → (ring : RingState) (entities : List EntityState) (places : List (Option Kept)) → All (λ place. IfSome place (IsKept ring)) places
    → map (option_map (as_held (with_entities ring entities))) places ≡ map (option_map (older (length ring.recent) (length entities))) (map (option_map (as_held ring)) places)
places_older others ring entities [] are = refl
places_older others ring entities (None ∷ places) are =
    ap (λ list. None ∷ list) (places_older others ring entities places (All-tail (λ place. IfSome place (IsKept ring)) None places are))
places_older others ring entities (Some kept ∷ places) are =
    let here = kept_older others ring entities kept (All-head (λ place. IfSome place (IsKept ring)) (Some kept) places are) in
    let after = places_older others ring entities places (All-tail (λ place. IfSome place (IsKept ring)) (Some kept) places are) in
    ap (λ held. Some held ∷ map (option_map (as_held (with_entities ring entities))) places) here
    ∙ ap (λ list. Some (older (length ring.recent) (length entities) (as_held ring kept)) ∷ list) after

next_is : PlacedIsThere → (ring : RingState) (head : SnapHead) (entities : List EntityState) → 512 ≤ length ring.recent → length entities ≤ most_entities
    → as_held (with_entities ring entities) (next_kept ring head entities) ≡ record { snapshot = record { head = head; entities = entities }; age = length entities }
next_is there ring head entities room few =
    ap (λ room. held_remains room (held_in (with_entities ring entities) (next_kept ring head entities))) (room_stays ring entities)
    ∙ remain_alike (length ring.recent) head (entities_from (with_entities ring entities) ring.placed (length entities)) entities
    (ring.placed + length entities - ring.placed) (length entities) (omega arith)
    (λ young. there ring entities (omega arith))
    ∙ new_remains (length ring.recent) (record { snapshot = record { head = head; entities = entities }; age = length entities }) room few

-- what a struct holds after a snapshot that is accepted
abbrev pub accepted_inside : Inside → SnapHead → List EntityState → Inside
accepted_inside r head entities = record {
  ring = with_entities r.ring entities;
  places = put_at_number r.places head.number (next_kept r.ring head entities);
  newest = head.number;
  begun = r.begun;
}

pub accepted_is : PlacedIsThere → OthersStay → (r : Inside) (head : SnapHead) (entities : List EntityState) → AreKept r → r.begun ≡ None → length entities ≤ most_entities
    → rings_in (accepted_inside r head entities) ≡ accept_in (rings_in r) (record { head = head; entities = entities })
accepted_is there others r head entities are none few =
    let places : map (option_map (as_held (with_entities r.ring entities))) (put_at_number r.places head.number (next_kept r.ring head entities))
    ≡ put_at_number (map (option_map (older (length r.ring.recent) (length entities))) (map (option_map (as_held r.ring)) r.places)) head.number
    (record { snapshot = record { head = head; entities = entities }; age = length entities }) =
    map-set (option_map (as_held (with_entities r.ring entities))) r.places (place_of head.number) (Some (next_kept r.ring head entities))
    ∙ ap (λ held. put_at_number (map (option_map (as_held (with_entities r.ring entities))) r.places) head.number held) (next_is there r.ring head entities are.held.ring few)
    ∙ ap (λ list. put_at_number list head.number (record { snapshot = record { head = head; entities = entities }; age = length entities })) (places_older others r.ring entities r.places are.each) in
    let begun : option_map (begun_in (with_entities r.ring entities)) r.begun ≡ option_map (begun_in r.ring) r.begun =
    ap (option_map (begun_in (with_entities r.ring entities))) none ∙ sym (ap (option_map (begun_in r.ring)) none) in
    let placed : ℕ = r.ring.placed + length entities in
    ap (λ room. record {
      held = record { ring = room; newest = head.number; places = map (option_map (as_held (with_entities r.ring entities))) (accepted_inside r head entities).places };
      placed = placed;
      begun = option_map (begun_in (with_entities r.ring entities)) r.begun;
    }) (room_stays r.ring entities)
    ∙ ap (λ list. record {
      held = record { ring = length r.ring.recent; newest = head.number; places = list };
      placed = placed;
      begun = option_map (begun_in (with_entities r.ring entities)) r.begun;
    }) places
    ∙ ap (λ begun. record { held = accept_at (rings_in r).held (record { head = head; entities = entities }); placed = placed; begun = begun }) begun

-- ---- what is kept

kept_stays : OthersStay → (ring : RingState) (entities : List EntityState) (kept : Kept) → IsKept ring kept → IsKept (with_entities ring entities) kept
kept_stays others ring entities kept is =
    let placed = is.placed in
    record {
      placed = omega arith;
      rises = λ young.
          let le = leb-true _ _ young in
          let room = room_stays ring entities in
          subst Rises (sym (others ring entities kept.first kept.count placed (omega arith))) (is.rises (le-leb _ _ (omega arith)));
    }

next_is_kept : PlacedIsThere → (ring : RingState) (head : SnapHead) (entities : List EntityState) → 512 ≤ length ring.recent → Rises entities
    → IsKept (with_entities ring entities) (next_kept ring head entities)
next_is_kept there ring head entities room rises = record {
  placed = omega arith;
  rises = λ young. subst Rises (sym (there ring entities (let few = rises.few in omega arith))) rises;
}

place_stays : OthersStay → (ring : RingState) (entities : List EntityState) (place : Option Kept) → IfSome place (IsKept ring) → IfSome place (IsKept (with_entities ring entities))
place_stays others ring entities None is = tt
place_stays others ring entities (Some kept) is = kept_stays others ring entities kept is

pub accepted_stays : PlacedIsThere → OthersStay → (r : Inside) (head : SnapHead) (entities : List EntityState) → AreKept r → r.begun ≡ None → r.newest < head.number → Rises entities
    → AreKept (accepted_inside r head entities)
accepted_stays there others r head entities are none newer rises = record {
  held = subst (λ (rings : RingsState). AreHeldSnapshots rings.held) (sym (accepted_is there others r head entities are none rises.few))
      (accept_stays (rings_in r).held (record { head = head; entities = entities }) are.held newer);
  placed = let placed = are.placed in let few = rises.few in omega arith;
  each = All-set (λ place. IfSome place (IsKept (with_entities r.ring entities))) r.places (place_of head.number) (Some (next_kept r.ring head entities))
      (next_is_kept there r.ring head entities are.held.ring rises)
      (All-weaker (λ place. IfSome place (IsKept r.ring)) (λ place. IfSome place (IsKept (with_entities r.ring entities))) (place_stays others r.ring entities) r.places are.each);
  begun = subst (λ (begun : Option Back). IfSome begun (IsBack (rings_in (accepted_inside r head entities)).held (with_entities r.ring entities))) (sym none) tt;
}

-- ---- what is lent of it

-- a head and an age
abbrev head_in : RingState → Kept → SnapHead × ℕ
head_in ring kept = (kept.head, ring.placed - kept.first)

head_of_held : (ring : RingState) (place : Option Kept) → option_map head_from (option_map (as_held ring) place) ≡ option_map (head_in ring) place
head_of_held ring None = refl
head_of_held ring (Some kept) = ap (λ (head : SnapHead × ℕ). Some head) (remains_head_from (length ring.recent) (held_in ring kept))

pub head_at : (r : Inside) (rings : RingsState) (place number : ℕ) (kept : Option Kept) → rings_in r ≡ rings → place < most_places → number ≡ place → kept ≡ at_number r.places number
    → option_map (head_in r.ring) kept ≡ option_map head_from (get_or rings.held.places place None)
head_at r rings place number kept is within same at =
    let here : place_of number ≡ place = omega arith in
    ap (option_map (head_in r.ring)) (at ∙ ap (λ place. get_or r.places place None) here)
    ∙ sym (ap (λ (rings : RingsState). option_map head_from (get_or rings.held.places place None)) (sym is)
    ∙ ap (option_map head_from) (get_or-map (option_map (as_held r.ring)) r.places place None)
    ∙ head_of_held r.ring (get_or r.places place None))

-- ---- where nothing is kept

pub nothing_is_kept : (ring : RingState) → 512 ≤ length ring.recent → ring.placed ≤ 2 ^ 32 → AreKept (record { ring = ring; places = no_places; newest = 0; begun = None })
nothing_is_kept ring room placed = record {
  held = none_are_held (length ring.recent) room;
  placed = omega arith;
  each = All-replicate (λ place. IfSome place (IsKept ring)) most_places None tt;
  begun = tt;
}
