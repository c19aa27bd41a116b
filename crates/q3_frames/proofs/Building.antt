-- A frame that is built, in the ring that keeps its entities.
use Rattle.std.proofs.Common.{◌≡◌, ℕ, zero, suc, ◌+◌, ◌<◌, ◌≤◌, List, [], ◌∷◌, ◌++◌, length, map, get_or, set, replicate, slice_index_or, slice_set, Option, Some, None, inl, inr, refl, sym, ap, ◌∙◌, subst, arith, All}
use Rattle.std.proofs.Math.ListN.{get_or-map}
use Rattle.std.proofs.lemmas.Bool.{cases_Bool, ltb-true, lt-ltb}
use Rattle.std.proofs.lemmas.List.{length-append, length-drop, length-map, length-replicate, get_or_default}
use Rattle.std.proofs.lemmas.List.Elements.{All-nil, All-cons, All-get_or, All-head, All-tail, All-same, All-replicate, All-set}
use Rattle.std.specs.Option.{option_map, IfSome}
use Rattle.q3_entity.specs.declared.state.EntityState.{EntityState}
use Rattle.q3_entity.specs.Entities.{Rises, zero_entity}
use Rattle.q3_player.specs.declared.head.SnapHead.{SnapHead}
use Rattle.q3_entity_ring.specs.declared.kept.Kept.{Kept}
use Rattle.q3_entity_ring.specs.Ring.{RingState, new_ring, with_entities, entities_from, EndsWith, PlacesOnce}
use Rattle.q3_entity_ring.specs.Places.{most_places, place_of, no_places, put_at_number}
use Rattle.q3_entity_ring.specs.Laws.{PlacedIsThere, OthersStay}
use Rattle.q3_frames.specs.Frames.{Frame, FramesState, AreFrames, no_frames, has_entities, frame_remains, with_frame, build_at}
use Rattle.q3_frames.specs.KeptFrames.{frame_in, IsKept}
use Rattle.q3_frames.proofs.Remains.{remains-there, remains-gone, remains_twice}
use Rattle.q3_frames.proofs.Standing.{each, each-put}

pub room-stays : (ring : RingState) (entities : List EntityState) → length entities ≤ length ring.recent → length (with_entities ring entities).recent ≡ length ring.recent
room-stays ring entities few = omega (arith, length-drop (length entities) (ring.recent ++ entities), length-append ring.recent entities)

-- what is kept, as it is left
abbrev pub left_in : RingState → ℕ → Kept → Frame
left_in ring placed kept = frame_remains (length ring.recent) placed (frame_in ring kept)

-- ---- entities in the ring

-- a ring in which entities lie from one on, and all that lay there before, as far as it has room
pub record LieIn (ring new : RingState) (entities : List EntityState) (first : ℕ) : Type 0 where
  pub room : length new.recent ≡ length ring.recent
  pub grows : ring.placed ≤ new.placed
  pub few : new.placed ≤ ring.placed + length entities
  pub end : first + length entities ≡ new.placed
  pub there : entities_from new first (length entities) ≡ entities
  pub others : (from count : ℕ) → from + count ≤ ring.placed → new.placed ≤ from + length ring.recent → entities_from new from count ≡ entities_from ring from count

placed_anew : OthersStay → PlacedIsThere → (ring : RingState) (entities : List EntityState) → length entities ≤ length ring.recent
    → LieIn ring (with_entities ring entities) entities ring.placed
placed_anew stay there ring entities few = record {
  room = room-stays ring entities few;
  grows = omega arith;
  few = omega arith;
  end = refl;
  there = there ring entities few;
  others = λ from count placed near. stay ring entities from count placed near;
}

placed_before : (ring : RingState) (entities : List EntityState) (first : ℕ) → EndsWith ring entities first → LieIn ring ring entities first
placed_before ring entities first ends = record {
  room = refl;
  grows = omega arith;
  few = omega arith;
  end = ends.end;
  there = ends.same;
  others = λ from count placed near. refl;
}

pub lie_in : OthersStay → PlacedIsThere → (ring new : RingState) (entities : List EntityState) (first : ℕ) → length entities ≤ length ring.recent
    → PlacesOnce ring new entities first → LieIn ring new entities first
lie_in stay there ring new entities first few is = elim is [
  | inl behind ↦
      subst (λ (r : RingState). LieIn ring r entities first) (sym behind.0)
      (subst (LieIn ring (with_entities ring entities) entities) (sym behind.1) (placed_anew stay there ring entities few))
  | inr before ↦ subst (λ (r : RingState). LieIn ring r entities first) (sym before.0) (placed_before ring entities first before.1)
]

-- what was kept before is left as it was
left-stays : (ring new : RingState) (placed first : ℕ) (entities : List EntityState) (kept : Kept) → LieIn ring new entities first → IsKept ring placed kept
    → frame_remains (length ring.recent) (placed + length entities) (left_in ring placed kept) ≡ left_in new (placed + length entities) kept
left-stays ring new placed first entities kept lie is =
    let room = length ring.recent in
    let now : ℕ = placed + length entities in
    let before = frame_in ring kept in
    remains_twice room placed now before (omega arith)
    ∙ elim (cases_Bool (has_entities room now before)) [
      | inl there ↦
          let same : entities_from new kept.first kept.count ≡ entities_from ring kept.first kept.count =
          lie.others kept.first kept.count is.placed (omega (arith, is.counted, lie.few, ltb-true now (kept.counted + room) there)) in
          remains-there room now before there
          ∙ sym (remains-there room now (frame_in new kept) there
          ∙ ap (λ (es : List EntityState). record { snapshot = record { head = kept.head; entities = es }; first = kept.counted }) same)
      | inr gone ↦ remains-gone room now before gone ∙ sym (remains-gone room now (frame_in new kept) gone)
    ]
    ∙ ap (λ (k : ℕ). frame_remains k now (frame_in new kept)) (sym lie.room)

-- what is kept of a snapshot whose entities lie from one on, counted after so many
abbrev pub next_kept : SnapHead → ℕ → ℕ → ℕ → Kept
next_kept head first count placed = record { head = head; first = first; count = count; counted = placed }

-- and what is built has its entities
left-new : (ring new : RingState) (placed first : ℕ) (entities : List EntityState) (head : SnapHead) → LieIn ring new entities first
    → frame_remains (length ring.recent) (placed + length entities) (record { snapshot = record { head = head; entities = entities }; first = placed })
    ≡ left_in new (placed + length entities) (next_kept head first (length entities) placed)
left-new ring new placed first entities head lie =
    let now : ℕ = placed + length entities in
    ap (λ (es : List EntityState). frame_remains (length ring.recent) now (record { snapshot = record { head = head; entities = es }; first = placed })) (sym lie.there)
    ∙ ap (λ (k : ℕ). frame_remains k now (frame_in new (next_kept head first (length entities) placed))) (sym lie.room)

-- ---- all that is kept

each-alike : {X Y Z : Type 0} (P : X → Type 0) (f : X → Y) (g : Y → Z) (h : X → Z) → ((x : X) → P x → g (f x) ≡ h x)
    → (places : List (Option X)) → All (λ place. IfSome place P) places → map (option_map g) (map (option_map f) places) ≡ map (option_map h) places
each-alike P f g h alike [] holds = refl
each-alike {Z = Z} P f g h alike (None ∷ places) holds =
    ap (λ (rest : List (Option Z)). None ∷ rest) (each-alike P f g h alike places (All-tail (λ place. IfSome place P) None places holds))
each-alike {Z = Z} P f g h alike (Some x ∷ places) holds =
    ap (λ (z : Z). Some z ∷ map (option_map g) (map (option_map f) places)) (alike x (All-head (λ place. IfSome place P) (Some x) places holds))
    ∙ ap (λ (rest : List (Option Z)). Some (h x) ∷ rest) (each-alike P f g h alike places (All-tail (λ place. IfSome place P) (Some x) places holds))

all-alike : {X Y Z : Type 0} (P : X → Type 0) (f : X → Y) (g : Y → Z) (h : X → Z) → ((x : X) → P x → g (f x) ≡ h x)
    → (slots : List (List (Option X))) → All (λ places. All (λ place. IfSome place P) places) slots → map (each g) (map (each f) slots) ≡ map (each h) slots
all-alike P f g h alike [] holds = refl
all-alike {Z = Z} P f g h alike (places ∷ slots) holds =
    ap (λ (front : List (Option Z)). front ∷ map (each g) (map (each f) slots))
    (each-alike P f g h alike places (All-head (λ places. All (λ place. IfSome place P) places) places slots holds))
    ∙ ap (λ (rest : List (List (Option Z))). each h places ∷ rest)
    (all-alike P f g h alike slots (All-tail (λ places. All (λ place. IfSome place P) places) places slots holds))

-- the slots after a build
slots-built : (ring new : RingState) (placed first : ℕ) (entities : List EntityState) (head : SnapHead) (slots : List (List (Option Kept))) (slot : ℕ)
    → LieIn ring new entities first → All (λ places. All (λ place. IfSome place (IsKept ring placed)) places) slots
    → map (each (left_in new (placed + length entities)))
    (slice_set slots slot (put_at_number (slice_index_or slots slot []) head.number (next_kept head first (length entities) placed)))
    ≡ map (each (frame_remains (length ring.recent) (placed + length entities)))
    (with_frame (map (each (left_in ring placed)) slots) slot (record { snapshot = record { head = head; entities = entities }; first = placed }))
slots-built ring now placed first entities head slots slot lie kept =
    let new = left_in now (placed + length entities) in
    let left : Frame → Frame = frame_remains (length ring.recent) (placed + length entities) in
    let frame : Frame = record { snapshot = record { head = head; entities = entities }; first = placed } in
    let one : Kept = next_kept head first (length entities) placed in
    let same : map (each left) (map (each (left_in ring placed)) slots) ≡ map (each new) slots =
    all-alike (IsKept ring placed) (left_in ring placed) left new (λ x is. left-stays ring now placed first entities x lie is) slots kept in
    let put : List (List (Option Frame)) → Frame → List (List (Option Frame)) = λ all f.
    slice_set all slot (put_at_number (slice_index_or all slot []) head.number f) in
    each-put new slots slot head.number one
    ∙ ap (λ (all : List (List (Option Frame))). put all (new one)) (sym same)
    ∙ ap (put (map (each left) (map (each (left_in ring placed)) slots))) (sym (left-new ring now placed first entities head lie))
    ∙ sym (each-put left (map (each (left_in ring placed)) slots) slot head.number frame)

pub built : (ring new : RingState) (placed first : ℕ) (entities : List EntityState) (head : SnapHead) (slots : List (List (Option Kept))) (slot : ℕ)
    → (at after : List (Option Kept)) → LieIn ring new entities first → at ≡ get_or slots slot at
    → after ≡ put_at_number at head.number (next_kept head first (length entities) placed)
    → slot < length slots → All (λ places. All (λ place. IfSome place (IsKept ring placed)) places) slots
    → record { ring = length new.recent; placed = placed + length entities; slots = map (each (left_in new (placed + length entities))) (slice_set slots slot after) }
    ≡ build_at (record { ring = length ring.recent; placed = placed; slots = map (each (left_in ring placed)) slots }) slot (record { head = head; entities = entities })
built ring new placed first entities head slots slot at after lie at_is after_is within kept =
    let now : ℕ = placed + length entities in
    let put : List (Option Kept) → List (Option Kept) = λ places. put_at_number places head.number (next_kept head first (length entities) placed) in
    let old : at ≡ get_or slots slot [] = at_is ∙ get_or_default slots slot at [] within in
    let whole : slice_set slots slot after ≡ slice_set slots slot (put (get_or slots slot [])) =
    ap (slice_set slots slot) (after_is ∙ ap put old) in
    ap (λ (all : List (List (Option Kept))). record { ring = length new.recent; placed = now; slots = map (each (left_in new now)) all }) whole
    ∙ ap (λ (all : List (List (Option Frame))). record { ring = length new.recent; placed = now; slots = all })
    (slots-built ring new placed first entities head slots slot lie kept)
    ∙ ap (λ (k : ℕ). record {
      ring = k;
      placed = now;
      slots = map (each (frame_remains (length ring.recent) now))
          (with_frame (map (each (left_in ring placed)) slots) slot (record { snapshot = record { head = head; entities = entities }; first = placed }));
    })
    lie.room

-- ---- nothing is kept

map-replicate : {X Y : Type 0} (f : X → Y) (n : ℕ) (x : X) → map f (replicate n x) ≡ replicate n (f x)
map-replicate f zero x = refl
map-replicate {Y = Y} f (suc n) x = ap (λ (rest : List Y). f x ∷ rest) (map-replicate f n x)

pub empty-frames : (ring : RingState) (room count : ℕ) (slots : List (List (Option Kept))) → ring ≡ new_ring room → slots ≡ replicate count no_places
    → record { ring = length ring.recent; placed = 0; slots = map (each (left_in ring 0)) slots } ≡ no_frames count room
empty-frames ring room count slots ring_is slots_is =
    let frames : List (List (Option Frame)) → FramesState = λ all. record { ring = length ring.recent; placed = 0; slots = all } in
    let empty : map (each (left_in ring 0)) slots ≡ replicate count no_places =
    ap (map (each (left_in ring 0))) slots_is ∙ map-replicate (each (left_in ring 0)) count no_places in
    ap frames empty
    ∙ ap (λ (r : RingState). record { ring = length r.recent; placed = 0; slots = replicate count no_places }) ring_is
    ∙ ap (λ (k : ℕ). record { ring = k; placed = 0; slots = replicate count no_places }) (length-replicate room (zero_entity 0))

pub empty-kept : (ring : RingState) (count : ℕ) (slots : List (List (Option Kept))) → slots ≡ replicate count no_places
    → All (λ places. All (λ place. IfSome place (IsKept ring 0)) places) slots
empty-kept ring count slots is =
    let P : List (Option Kept) → Type 0 = λ places. All (λ place. IfSome place (IsKept ring 0)) places in
    All-same P slots (replicate count no_places) is
    (All-replicate P count no_places (All-replicate (λ (place : Option Kept). IfSome place (IsKept ring 0)) most_places None tt))

-- all places of each slot are there
pub places_all : (ring : RingState) (placed : ℕ) (slots : List (List (Option Kept))) → All (λ places. length places ≡ most_places) slots
    → AreFrames (record { ring = length ring.recent; placed = placed; slots = map (each (left_in ring placed)) slots })
places_all ring placed slots all = record {
  places = λ slot within.
      ap (λ (places : List (Option Frame)). length places) (get_or-map (each (left_in ring placed)) slots slot [])
      ∙ length-map (get_or slots slot []) (option_map (left_in ring placed))
      ∙ All-get_or (λ (places : List (Option Kept)). length places ≡ most_places) slots slot []
      (omega (arith, within, length-map slots (each (left_in ring placed)))) all;
}

-- ---- what is kept stays so

all-more : {X : Type 0} (P Q : X → Type 0) → ((x : X) → P x → Q x) → (xs : List X) → All P xs → All Q xs
all-more P Q more [] all = All-nil Q
all-more P Q more (x ∷ xs) all = All-cons Q x xs (more x (All-head P x xs all)) (all-more P Q more xs (All-tail P x xs all))

if-more : {X : Type 0} (P Q : X → Type 0) → ((x : X) → P x → Q x) → (place : Option X) → IfSome place P → IfSome place Q
if-more P Q more None is = tt
if-more P Q more (Some x) is = more x is

kept-stays : (ring new : RingState) (placed first : ℕ) (entities : List EntityState) (kept : Kept) → LieIn ring new entities first → IsKept ring placed kept
    → IsKept new (placed + length entities) kept
kept-stays ring new placed first entities kept lie is =
    let now : ℕ = placed + length entities in
    let room = lie.room in
    record {
      placed = omega (arith, is.placed, lie.grows);
      counted = omega (arith, is.counted, lie.few);
      rises = λ there.
          let below : now < kept.counted + length ring.recent = omega (arith, room, ltb-true now (kept.counted + length new.recent) there) in
          let same : entities_from new kept.first kept.count ≡ entities_from ring kept.first kept.count =
          lie.others kept.first kept.count is.placed (omega (arith, is.counted, lie.few)) in
          subst Rises (sym same) (is.rises (lt-ltb placed (kept.counted + length ring.recent) (omega arith)));
    }

kept-new : (ring new : RingState) (placed first : ℕ) (entities : List EntityState) (head : SnapHead) → LieIn ring new entities first → Rises entities
    → IsKept new (placed + length entities) (next_kept head first (length entities) placed)
kept-new ring new placed first entities head lie rise = record {
  placed = omega (arith, lie.end);
  counted = omega (arith, lie.end);
  rises = λ _. subst Rises (sym lie.there) rise;
}

pub all-kept : (ring new : RingState) (placed first : ℕ) (entities : List EntityState) (head : SnapHead) (slots : List (List (Option Kept))) (slot : ℕ)
    → (at : List (Option Kept)) → LieIn ring new entities first → Rises entities
    → All (λ place. IfSome place (IsKept ring placed)) at → All (λ places. All (λ place. IfSome place (IsKept ring placed)) places) slots
    → All (λ places. All (λ place. IfSome place (IsKept new (placed + length entities))) places)
    (set slots slot (put_at_number at head.number (next_kept head first (length entities) placed)))
all-kept ring new placed first entities head slots slot at lie rise here kept =
    let now : ℕ = placed + length entities in
    let Old : Option Kept → Type 0 = λ place. IfSome place (IsKept ring placed) in
    let New : Option Kept → Type 0 = λ place. IfSome place (IsKept new now) in
    let more : (places : List (Option Kept)) → All Old places → All New places = λ places all.
    all-more Old New (if-more (IsKept ring placed) (IsKept new now) (λ one is. kept-stays ring new placed first entities one lie is)) places all in
    let one : Kept = next_kept head first (length entities) placed in
    All-set (λ places. All New places) slots slot (put_at_number at head.number one)
    (All-set New at (place_of head.number) (Some one) (kept-new ring new placed first entities head lie rise) (more at here))
    (all-more (λ places. All Old places) (λ places. All New places) more slots kept)
