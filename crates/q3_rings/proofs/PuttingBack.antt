-- What is kept of snapshots, where one is put back.
use Rattle.std.proofs.Common.{◌≡◌, ℕ, ◌+◌, ◌-◌, ◌^◌, ◌<◌, ◌≤◌, true, List, [], ◌∷◌, ◌++◌, length, take, drop, map, replicate, get_or, zero, suc, Option, Some, None, inl, inr, refl, sym, ap, ◌∙◌, subst, arith}
use Rattle.std.specs.Prelude.{IfSome, MatchOption, option_map}
use Rattle.std.specs.List.{All}
use Rattle.std.proofs.lemmas.Bool.{cases_Bool, leb-true}
use Rattle.std.proofs.lemmas.List.{length-drop, length-take, length-take-le, length-set, map-set, take_more}
use Rattle.std.proofs.lemmas.List.Elements.{All-head, All-tail, All-set, All-weaker, All-get_or, All-from_get_or}
use Rattle.std.proofs.Math.ListN.{get_or-map}
use Rattle.q3_entity.specs.declared.state.EntityState.{EntityState}
use Rattle.q3_entity.specs.Entities.{RiseFrom, Rises, most_entities}
use Rattle.q3_entity_ring.specs.declared.kept.Kept.{Kept}
use Rattle.q3_entity_ring.specs.Ring.{RingState, with_entity_at, entities_from}
use Rattle.q3_entity_ring.specs.Places.{most_places, place_of, no_places, put_at_number}
use Rattle.q3_entity_ring.specs.Laws.{PutIsNext, PutLeavesOthers}
use Rattle.q3_rings.specs.declared.rings.Rings.TheInside.{Inside}
use Rattle.q3_rings.specs.declared.rings.Back.{Back}
use Rattle.q3_rings.specs.Rings.{HeldSnapshot, HeldSnapshots, RingsState, AreHeldSnapshots, CanPutBack, is_young, held_remains, held_of, no_rings, restored, place_in, end_in, put_back_in}
use Rattle.q3_rings.specs.KeptRings.{held_in, begun_in, rings_in, IsKept, IsBack, AreKept}
use Rattle.q3_rings.proofs.Aging.{remain_alike, remains_whole, young_remains}
use Rattle.q3_rings.proofs.Accepting.{put_back_stays}
use Rattle.q3_rings.proofs.Kept.{as_held, nothing_is_kept}

-- ---- whether one is being put back

none_of : {X Y : Type 0} (f : X → Y) (o : Option X) → option_map f o ≡ None → o ≡ None
none_of f None is = refl
none_of f (Some x) is = cc

pub none_is_begun : (r : Inside) (rings : RingsState) → rings_in r ≡ rings → rings.begun ≡ None → r.begun ≡ None
none_is_begun r rings view none = none_of (begun_in r.ring) r.begun (ap (λ (rings : RingsState). rings.begun) view ∙ none)

-- the struct after a step, and its value
pub record IsAs (r : Inside) (rings : RingsState) : Type 0 where
  pub are : AreKept r
  pub is : rings_in r ≡ rings

-- ---- where nothing is held, and so many count as placed

no_place : {X Y : Type 0} (f : X → Y) (count : ℕ) (places : List (Option X)) → map (option_map f) places ≡ replicate count None → places ≡ replicate count None
no_place f zero [] is = refl
no_place f zero (place ∷ places) is = cc
no_place f (suc count) [] is = cc
no_place f (suc count) (place ∷ places) is =
    let here : option_map f place ≡ None = cc in
    let after : map (option_map f) places ≡ replicate count None = cc in
    ap (λ place. place ∷ places) (none_of f place here) ∙ ap (λ list. None ∷ list) (no_place f count places after)

-- what a struct holds where nothing is held
nothing_in : (r : Inside) (room : ℕ) → rings_in r ≡ no_rings room → r ≡ record { ring = r.ring; places = no_places; newest = 0; begun = None }
nothing_in r room is =
    let places : r.places ≡ no_places = no_place (as_held r.ring) most_places r.places (ap (λ (rings : RingsState). rings.held.places) is) in
    let newest : r.newest ≡ 0 = ap (λ (rings : RingsState). rings.held.newest) is in
    let begun : r.begun ≡ None = none_is_begun r (no_rings room) is refl in
    ap (λ places. record r { places = places }) places
    ∙ ap (λ (newest : ℕ). record { ring = r.ring; places = no_places; newest = newest; begun = r.begun }) newest
    ∙ ap (λ begun. record { ring = r.ring; places = no_places; newest = 0; begun = begun }) begun

pub nothing_restored : (r : Inside) (ring : RingState) (rings wiped : RingsState) (placed : ℕ) → AreKept r → rings_in r ≡ wiped → wiped ≡ no_rings rings.held.ring
    → ring.placed ≡ placed → length ring.recent ≡ length r.ring.recent → placed ≤ 2 ^ 32 → IsAs (record r { ring = ring }) (restored rings placed)
nothing_restored r ring rings wiped placed are view is placed_is room most =
    let nothing = nothing_in r rings.held.ring (view ∙ is) in
    let least = are.held.ring in
    let held : length r.ring.recent ≡ rings.held.ring = ap (λ (rings : RingsState). rings.held.ring) (view ∙ is) in
    let whole : IsAs (record { ring = ring; places = no_places; newest = 0; begun = None }) (restored rings placed) = record {
      are = nothing_is_kept ring (omega arith) (omega arith);
      is = ap (λ (room : ℕ). record (no_rings room) { placed = ring.placed }) (room ∙ held) ∙ ap (restored rings) placed_is;
    } in
    subst (λ (r : Inside). IsAs (record r { ring = ring }) (restored rings placed)) (sym nothing) whole

-- ---- what lies in front of it

-- what is kept was placed, and lies in front of what is put back from one on, where its entities are there
record IsInFront (ring : RingState) (first : ℕ) (kept : Kept) : Type 0 where
  is : IsKept ring kept
  front : is_young (length ring.recent) (held_in ring kept).age ≡ true → kept.first + kept.count ≤ first

-- entities that are there are as many as were placed
length_from : (ring : RingState) (first count : ℕ) → first + count ≤ ring.placed → ring.placed ≤ first + length ring.recent → length (entities_from ring first count) ≡ count
length_from ring first count were there =
    let start : ℕ = first + length ring.recent - ring.placed in
    length-take-le count (drop start ring.recent) (omega (arith, length-drop start ring.recent))

kept_in_front : (ring : RingState) (first : ℕ) (place : Option Kept) → first ≤ ring.placed → IfSome place (IsKept ring)
    → IfSome (option_map (as_held ring) place) (λ held. length held.snapshot.entities + (ring.placed - first) ≤ held.age) → IfSome place (IsInFront ring first)
kept_in_front ring first None within is older = tt
kept_in_front ring first (Some kept) within is older = record {
  is = is;
  front = λ young.
      let placed = is.placed in
      let le : ring.placed - kept.first ≤ length ring.recent - most_entities = leb-true _ _ young in
      let count = length_from ring kept.first kept.count placed (omega arith) in
      let before = subst (λ (held : HeldSnapshot). length held.snapshot.entities + (ring.placed - first) ≤ held.age) (young_remains (length ring.recent) (held_in ring kept) young) older in
      omega arith;
}

all_in_front : (r : Inside) (back : Back) → AreKept r → IsBack (rings_in r).held r.ring back → All (λ place. IfSome place (IsInFront r.ring back.first)) r.places
all_in_front r back are is =
    let within = is.within in
    All-from_get_or (λ place. IfSome place (IsInFront r.ring back.first)) r.places None
    (λ place below. kept_in_front r.ring back.first (get_or r.places place None) (omega arith)
    (All-get_or (λ place. IfSome place (IsKept r.ring)) r.places place None below are.each)
    (subst (λ held. IfSome held (λ held. length held.snapshot.entities + (r.ring.placed - back.first) ≤ held.age))
    (get_or-map (option_map (as_held r.ring)) r.places place None) (is.can.older place)))

-- ---- where an entity of it is placed

-- it lies there: the last that were placed go back to it
back_there : (held : HeldSnapshots) (ring : RingState) (back : Back) → held.ring ≡ length ring.recent → IsBack held ring back → 0 < back.count → ring.placed ≤ back.first + length ring.recent
back_there held ring back room is some = elim (cases_Bool (is_young held.ring (ring.placed - back.first))) [
  | inl young ↦ let le = leb-true _ _ young in omega arith
  | inr old ↦ let none = is.can.gone old in absurd (omega arith)
]

-- the entities of what is kept stay where they are there
front_stays : PutLeavesOthers → (ring : RingState) (first number : ℕ) (entity : EntityState) (kept : Kept) → first ≤ number → number < ring.placed → IsInFront ring first kept
    → is_young (length ring.recent) (held_in ring kept).age ≡ true → entities_from (with_entity_at ring number entity) kept.first kept.count ≡ entities_from ring kept.first kept.count
front_stays others ring first number entity kept from was is young =
    let le : ring.placed - kept.first ≤ length ring.recent - most_entities = leb-true _ _ young in
    let front = is.front young in
    others ring entity number kept.first kept.count (omega arith) was (omega arith)

room_stays : (ring : RingState) (number : ℕ) (entity : EntityState) → length (with_entity_at ring number entity).recent ≡ length ring.recent
room_stays ring number entity = length-set ring.recent (number + length ring.recent - ring.placed) entity

kept_same : PutLeavesOthers → (ring : RingState) (first number : ℕ) (entity : EntityState) (kept : Kept) → first ≤ number → number < ring.placed → IsInFront ring first kept
    → as_held (with_entity_at ring number entity) kept ≡ as_held ring kept
kept_same others ring first number entity kept from was is =
    ap (λ room. held_remains room (held_in (with_entity_at ring number entity) kept)) (room_stays ring number entity)
    ∙ remain_alike (length ring.recent) kept.head (entities_from (with_entity_at ring number entity) kept.first kept.count) (entities_from ring kept.first kept.count)
    (ring.placed - kept.first) (ring.placed - kept.first) refl (front_stays others ring first number entity kept from was is)

places_same : PutLeavesOthers → (ring : RingState) (first number : ℕ) (entity : EntityState) (places : List (Option Kept)) → first ≤ number → number < ring.placed
    → All (λ place. IfSome place (IsInFront ring first)) places
    → map (option_map (as_held (with_entity_at ring number entity))) places ≡ map (option_map (as_held ring)) places
places_same others ring first number entity [] from was are = refl
places_same others ring first number entity (None ∷ places) from was are =
    ap (λ list. None ∷ list) (places_same others ring first number entity places from was (All-tail (λ place. IfSome place (IsInFront ring first)) None places are))
places_same others ring first number entity (Some kept ∷ places) from was are =
    let here = kept_same others ring first number entity kept from was (All-head (λ place. IfSome place (IsInFront ring first)) (Some kept) places are) in
    let after = places_same others ring first number entity places from was (All-tail (λ place. IfSome place (IsInFront ring first)) (Some kept) places are) in
    ap (λ held. Some held ∷ map (option_map (as_held (with_entity_at ring number entity))) places) here
    ∙ ap (λ list. Some (as_held ring kept) ∷ list) after

place_stays : PutLeavesOthers → (ring : RingState) (first number : ℕ) (entity : EntityState) → first ≤ number → number < ring.placed
    → (place : Option Kept) → IfSome place (IsInFront ring first) → IfSome place (IsKept (with_entity_at ring number entity))
place_stays others ring first number entity from was None is = tt
place_stays others ring first number entity from was (Some kept) is = record {
  placed = is.is.placed;
  rises = λ young.
      let before = subst (λ room. is_young room (ring.placed - kept.first) ≡ true) (room_stays ring number entity) young in
      subst Rises (sym (front_stays others ring first number entity kept from was is before)) (is.is.rises before);
}

-- what a struct holds, while one is being put back, and after one more of its entities
abbrev pub back_inside : Inside → Back → Inside
back_inside r back = record r { begun = Some back }

abbrev pub place_inside : Inside → Back → EntityState → Inside
place_inside r back entity = record {
  ring = with_entity_at r.ring (back.first + back.placed) entity;
  places = r.places;
  newest = r.newest;
  begun = Some (record back { placed = back.placed + 1 });
}

held_same : PutLeavesOthers → (r : Inside) (back : Back) (entity : EntityState) → AreKept (back_inside r back) → back.placed < back.count
    → (rings_in (place_inside r back entity)).held ≡ (rings_in r).held
held_same others r back entity are more =
    let is = are.begun in
    let within = is.within in
    let number : ℕ = back.first + back.placed in
    let ring = with_entity_at r.ring number entity in
    ap (λ room. record { ring = room; newest = r.newest; places = map (option_map (as_held ring)) r.places }) (room_stays r.ring number entity)
    ∙ ap (λ places. record { ring = length r.ring.recent; newest = r.newest; places = places })
    (places_same others r.ring back.first number entity r.places (omega arith) (omega arith) (all_in_front (back_inside r back) back are is))

-- its entities, one more of them
back_grows : PutIsNext → (r : Inside) (back : Back) (entity : EntityState) → AreKept (back_inside r back) → back.placed < back.count
    → entities_from (with_entity_at r.ring (back.first + back.placed) entity) back.first (back.placed + 1) ≡ entities_from r.ring back.first back.placed ++ entity ∷ []
back_grows next r back entity are more =
    let is = are.begun in
    let within = is.within in
    next r.ring entity back.first back.placed (omega arith) (back_there (rings_in r).held r.ring back refl is (omega arith))

place_is : PutIsNext → PutLeavesOthers → (r : Inside) (back : Back) (entity : EntityState) → AreKept (back_inside r back) → back.placed < back.count
    → rings_in (place_inside r back entity) ≡ place_in (rings_in (back_inside r back)) entity
place_is next others r back entity are more =
    let begun = begun_in r.ring back in
    ap (λ held. record { held = held; placed = r.ring.placed; begun = (rings_in (place_inside r back entity)).begun }) (held_same others r back entity are more)
    ∙ ap (λ entities. record { held = (rings_in r).held; placed = r.ring.placed; begun = Some (record begun { entities = entities }) }) (back_grows next r back entity are more)

place_inside_stays : PutIsNext → PutLeavesOthers → (r : Inside) (back : Back) (entity : EntityState) → AreKept (back_inside r back) → back.placed < back.count
    → Rises (entities_from r.ring back.first back.placed ++ entity ∷ []) → AreKept (place_inside r back entity)
place_inside_stays next others r back entity are more rises =
    let is = are.begun in
    let within = is.within in
    let number : ℕ = back.first + back.placed in
    let same = held_same others r back entity are more in
    record {
      held = subst AreHeldSnapshots (sym same) are.held;
      placed = are.placed;
      each = All-weaker (λ place. IfSome place (IsInFront r.ring back.first)) (λ place. IfSome place (IsKept (with_entity_at r.ring number entity)))
          (place_stays others r.ring back.first number entity (omega arith) (omega arith)) r.places (all_in_front (back_inside r back) back are is);
      begun = record {
        within = is.within;
        begun = omega arith;
        can = subst (λ held. CanPutBack held back.head.number (r.ring.placed - back.first) back.count) (sym same) is.can;
        rises = subst Rises (sym (back_grows next r back entity are more)) rises;
      };
    }

-- that another is to come
is_more : (r : Inside) (back : Back) → AreKept (back_inside r back) → length (entities_from r.ring back.first back.placed) < back.count → back.placed < back.count
is_more r back are more =
    let is = are.begun in
    let within = is.within in
    let begun = is.begun in
    let length_is = length_from r.ring back.first back.placed (omega arith) (back_there (rings_in r).held r.ring back refl is (omega arith)) in
    omega arith

-- what one is that is being put back
view_back : (r : Inside) (back : Back) (rings : RingsState) → r.begun ≡ Some back → rings_in r ≡ rings → rings_in (back_inside r back) ≡ rings
view_back r back rings is view = ap (λ begun. rings_in (record r { begun = begun })) (sym is) ∙ view

pub placed_back : PutIsNext → PutLeavesOthers → (r : Inside) (back : Back) (rings : RingsState) (entity : EntityState) → AreKept r → r.begun ≡ Some back → rings_in r ≡ rings
    → MatchOption rings.begun ⊥ (λ begun. (length begun.entities < begun.count) × Rises (begun.entities ++ entity ∷ []))
    → IsAs (place_inside r back entity) (place_in rings entity)
placed_back next others r back rings entity are begun view may =
    let same : AreKept (back_inside r back) = subst (λ begun. AreKept (record r { begun = begun })) begun are in
    let view_is = view_back r back rings begun view in
    let told : (length (entities_from r.ring back.first back.placed) < back.count) × Rises (entities_from r.ring back.first back.placed ++ entity ∷ []) =
    subst (λ (rings : RingsState). MatchOption rings.begun ⊥ (λ begun. (length begun.entities < begun.count) × Rises (begun.entities ++ entity ∷ []))) (sym view_is) may in
    let more = is_more r back same told.0 in
    record {
      are = place_inside_stays next others r back entity same more told.1;
      is = place_is next others r back entity same more ∙ ap (λ (rings : RingsState). place_in rings entity) view_is;
    }

-- ---- where all of them are placed

abbrev back_kept : Back → Kept
back_kept back = record { head = back.head; first = back.first; count = back.count; counted = back.first }

abbrev pub end_inside : Inside → Back → Inside
end_inside r back = record { ring = r.ring; places = put_at_number r.places back.head.number (back_kept back); newest = back.head.number; begun = None }

is_full : (r : Inside) (back : Back) → AreKept (back_inside r back) → length (entities_from r.ring back.first back.placed) ≡ back.count → back.placed ≡ back.count
is_full r back are all =
    let begun = are.begun.begun in
    omega (arith, length-take back.placed (drop (back.first + length r.ring.recent - r.ring.placed) r.ring.recent))

back_is : (r : Inside) (back : Back) → AreKept (back_inside r back) → back.placed ≡ back.count → as_held r.ring (back_kept back) ≡ held_of (begun_in r.ring back)
back_is r back are full =
    remains_whole (length r.ring.recent) (held_in r.ring (back_kept back)) (λ old. ap (entities_from r.ring back.first) (are.begun.can.gone old))
    ∙ ap (λ (count : ℕ). record { snapshot = record { head = back.head; entities = entities_from r.ring back.first count }; age = r.ring.placed - back.first }) (sym full)

end_is : (r : Inside) (back : Back) → AreKept (back_inside r back) → length (entities_from r.ring back.first back.placed) ≡ back.count
    → rings_in (end_inside r back) ≡ record (put_back_in (rings_in (back_inside r back)) (held_of (begun_in r.ring back))) { begun = None }
end_is r back are all =
    ap (λ places. record { held = record { ring = length r.ring.recent; newest = back.head.number; places = places }; placed = r.ring.placed; begun = None })
    (map-set (option_map (as_held r.ring)) r.places (place_of back.head.number) (Some (back_kept back))
    ∙ ap (λ held. put_at_number (map (option_map (as_held r.ring)) r.places) back.head.number held) (back_is r back are (is_full r back are all)))

end_stays : (r : Inside) (back : Back) → AreKept (back_inside r back) → length (entities_from r.ring back.first back.placed) ≡ back.count → AreKept (end_inside r back)
end_stays r back are all =
    let is = are.begun in
    let can = subst (λ (count : ℕ). CanPutBack (rings_in r).held back.head.number (r.ring.placed - back.first) count) (sym all) is.can in
    let newer = is.can.newer in
    record {
      held = subst (λ (rings : RingsState). AreHeldSnapshots rings.held) (sym (end_is r back are all)) (put_back_stays (rings_in r).held (held_of (begun_in r.ring back)) are.held can);
      placed = let placed = are.placed in omega arith;
      each = All-set (λ place. IfSome place (IsKept r.ring)) r.places (place_of back.head.number) (Some (back_kept back))
          (record { placed = is.within; rises = λ young. subst (λ (count : ℕ). Rises (entities_from r.ring back.first count)) (is_full r back are all) is.rises })
          are.each;
      begun = tt;
    }

pub ended_back : (r : Inside) (back : Back) (rings : RingsState) → AreKept r → r.begun ≡ Some back → rings_in r ≡ rings
    → MatchOption rings.begun ⊥ (λ begun. length begun.entities ≡ begun.count) → IsAs (end_inside r back) (end_in rings)
ended_back r back rings are begun view may =
    let same : AreKept (back_inside r back) = subst (λ begun. AreKept (record r { begun = begun })) begun are in
    let view_is = view_back r back rings begun view in
    let all : length (entities_from r.ring back.first back.placed) ≡ back.count =
    subst (λ (rings : RingsState). MatchOption rings.begun ⊥ (λ begun. length begun.entities ≡ begun.count)) (sym view_is) may in
    record { are = end_stays r back same all; is = end_is r back same all ∙ ap end_in view_is }

-- ---- all at once

-- the front of entities that rise
rise_take : (limit least n : ℕ) (entities : List EntityState) → RiseFrom limit least entities → RiseFrom limit least (take n entities)
rise_take limit least zero entities rise = tt
rise_take limit least (suc n) [] rise = tt
rise_take limit least (suc n) (entity ∷ entities) rise = (rise.0, rise.1, rise_take limit (entity.number + 1) n entities rise.2)

front_rises : (n : ℕ) (entities : List EntityState) → Rises entities → Rises (take n entities)
front_rises n entities rises = record {
  rise = rise_take (2 ^ 16) 0 n entities rises.rise;
  few = let few = rises.few in omega (arith, length-take n entities);
}

-- the next of them
pub next_rises : (k : ℕ) (entities : List EntityState) (d : EntityState) → k < length entities → Rises entities
    → (length (take k entities) < length entities) × Rises (take k entities ++ get_or entities k d ∷ [])
next_rises k entities d more rises =
    (omega (arith, length-take k entities), subst Rises (take_more entities k d more) (front_rises (k + 1) entities rises))
