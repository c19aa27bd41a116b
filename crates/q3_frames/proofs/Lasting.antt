-- All that was ever built, and what is kept of it.
use Rattle.std.proofs.Common.{◌≡◌, ◌≢◌, ℕ, ◌+◌, ◌<◌, ◌≤◌, Bool, true, false, List, [], ◌∷◌, ◌++◌, ◌==◌, ◌&&◌, cond, length, get_or, slice_index_or, Option, Some, None, inl, inr, refl, sym, ap, ◌∙◌, arith}
use Rattle.std.proofs.Math.ListN.{get_or-map}
use Rattle.std.proofs.lemmas.Bool.{cases_Bool, and_from, eq-eqb, lt-ltb}
use Rattle.std.proofs.lemmas.List.{append-nil, length-set, length-map, length-replicate, get_or-replicate}
use Rattle.std.proofs.lemmas.List.Elements.{filter-append}
use Rattle.std.proofs.lemmas.List.Sums.{sum_by-cons, sum_by_push}
use Rattle.std.specs.List.{last_or, filter}
use Rattle.std.specs.Option.{option_map}
use Rattle.q3_entity_ring.specs.Snapshot.{Snapshot}
use Rattle.q3_entity_ring.specs.Places.{most_places, place_of, no_places, at_number, put_at_number}
use Rattle.q3_frames.specs.Frames.{Frame, FramesState, no_frames, AreFrames, has_entities, frame_under, held_frame, is_near, frame_remains, with_frame, build_at}
use Rattle.q3_frames.specs.Built.{Build, placed_by, frames_from, last_built}
use Rattle.q3_frames.specs.Laws.{NothingIsHeld, HeldWasBuilt, BuildLeavesOthers, BuiltIsHeld, BuildKeeps, BaseIsNear, NothingStands, BuildIsAdded}
use Rattle.q3_frames.proofs.Remains.{all_remain_twice, under_remains, under-is, under-named, under-earlier, near_parts}
use Rattle.q3_frames.proofs.Standing.{each, at_each, none_at, with_frame_read, with_frame_at, with_frame-count}

pub nothing_is_held : NothingIsHeld
nothing_is_held slots ring slot number = ap (frame_under ring 0 number) (none_at {X = Frame} slots slot number)

pub held_was_built : HeldWasBuilt
held_was_built frames c slot number built held is =
    let placed : ℕ = frames.placed + length built.entities in
    let frame : Frame = record { snapshot = built; first = frames.placed } in
    let slots = with_frame frames.slots c frame in
    let read : frame_under frames.ring placed number (at_number (slice_index_or slots slot []) number) ≡ Some held =
    sym (ap (frame_under frames.ring placed number) (at_each (frame_remains frames.ring placed) slots slot number)
    ∙ under_remains frames.ring placed number (at_number (slice_index_or slots slot []) number)) ∙ is in
    elim (with_frame_read frames.slots c frame slot number) [
      | inl e ↦
          let old = at_number (slice_index_or frames.slots slot []) number in
          let other : slot ≡ c → place_of number ≢ place_of built.head.number = λ same place.
          (let none : None ≡ Some held = sym (ap (frame_under frames.ring placed number) (e.1 same place)) ∙ read in absurd cc) in
          inr (other, under-earlier frames.ring frames.placed placed number old held (omega arith) (sym (ap (frame_under frames.ring placed number) e.0) ∙ read))
      | inr e ↦
          let it = under-is frames.ring placed number frame held (sym (ap (frame_under frames.ring placed number) e.2) ∙ read) in
          inl (e.0, sym it.named, sym it.same)
    ]

pub build_leaves_others : BuildLeavesOthers
build_leaves_others frames c slot number built other =
    let placed : ℕ = frames.placed + length built.entities in
    let frame : Frame = record { snapshot = built; first = frames.placed } in
    let slots = with_frame frames.slots c frame in
    ap (frame_under frames.ring placed number) (at_each (frame_remains frames.ring placed) slots slot number)
    ∙ under_remains frames.ring placed number (at_number (slice_index_or slots slot []) number)
    ∙ elim (with_frame_read frames.slots c frame slot number) [
      | inl e ↦ ap (frame_under frames.ring placed number) e.0
      | inr e ↦ absurd (other e.0 e.1)
    ]

pub built_is_held : BuiltIsHeld
built_is_held frames c built are within few =
    let named = built.head.number in
    let placed : ℕ = frames.placed + length built.entities in
    let frame : Frame = record { snapshot = built; first = frames.placed } in
    let slots = with_frame frames.slots c frame in
    let own : Bool = c == c && place_of named == place_of named in
    let under : Option Frame → Option Snapshot = frame_under frames.ring placed named in
    ap under (at_each (frame_remains frames.ring placed) slots c named)
    ∙ under_remains frames.ring placed named (at_number (slice_index_or slots c []) named)
    ∙ ap under (with_frame_at frames.slots c frame c named within (are.places c within))
    ∙ ap (λ (b : Bool). under (cond b (Some frame) (at_number (slice_index_or frames.slots c []) named)))
    (and_from (c == c) (place_of named == place_of named) (eq-eqb c c refl) (eq-eqb (place_of named) (place_of named) refl))
    ∙ ap (λ (b : Bool). cond b (Some built) None)
    (and_from (named == named) (has_entities frames.ring placed frame) (eq-eqb named named refl) (lt-ltb placed (frames.placed + frames.ring) (omega arith)))

-- ---- the places of each slot

build-count : (frames : FramesState) (c : ℕ) (built : Snapshot) → length (build_at frames c built).slots ≡ length frames.slots
build-count frames c built =
    let frame : Frame = record { snapshot = built; first = frames.placed } in
    length-map (with_frame frames.slots c frame) (each (frame_remains frames.ring (frames.placed + length built.entities)))
    ∙ length-set frames.slots c (put_at_number (get_or frames.slots c []) built.head.number frame)

build-places : (frames : FramesState) (c : ℕ) (built : Snapshot) → AreFrames frames → AreFrames (build_at frames c built)
build-places frames c built are =
    let left : Frame → Frame = frame_remains frames.ring (frames.placed + length built.entities) in
    let frame : Frame = record { snapshot = built; first = frames.placed } in
    let slots = with_frame frames.slots c frame in
    record {
      places = λ at lt.
          ap (λ (places : List (Option Frame)). length places) (get_or-map (each left) slots at [])
          ∙ length-map (get_or slots at []) (option_map left) ∙ with_frame-count frames.slots c frame at
          ∙ are.places at (omega (arith, lt, build-count frames c built));
    }

nothing-places : (slots ring : ℕ) → AreFrames (no_frames slots ring)
nothing-places slots ring = record {
  places = λ slot within.
      let few : slot < slots = omega (arith, within, length-replicate slots (no_places {X = Frame})) in
      ap (λ (places : List (Option Frame)). length places) (get_or-replicate slots slot (no_places {X = Frame}) [] few)
      ∙ length-replicate {A = Option Frame} most_places None;
}

pub build_keeps : BuildKeeps
build_keeps = record { nothing = nothing-places; places = build-places; slots = build-count; ring = λ frames c built. refl }

-- ---- a base

pub base_is_near : BaseIsNear
base_is_near frames slot number delta snapshot is =
    let held = held_frame frames slot delta in
    elim (cases_Bool (is_near number delta)) [
      | inl near ↦
          let found : held ≡ Some snapshot = sym (ap (λ (b : Bool). cond b held None) near) ∙ is in
          let parts = near_parts number delta near in
          (parts.0, parts.1, parts.2, under-named frames.ring frames.placed delta (at_number (slice_index_or frames.slots slot []) delta) snapshot found, found)
      | inr far ↦
          let none : None ≡ Some snapshot = sym (ap (λ (b : Bool). cond b held None) far) ∙ is in
          absurd cc
    ]

-- ---- the list of all that was built

last_or-push : {X : Type 0} (o : Option X) (xs : List X) (x : X) → last_or o (xs ++ x ∷ []) ≡ Some x
last_or-push o [] x = refl
last_or-push o (y ∷ xs) x = last_or-push (Some y) xs x

placed_by-cons : (one : Build) (builds : List Build) → placed_by (one ∷ builds) ≡ length one.snapshot.entities + placed_by builds
placed_by-cons one builds = sum_by-cons (λ (one : Build). length one.snapshot.entities) one builds

frames_from-push : (placed : ℕ) (builds : List Build) (one : Build)
    → frames_from placed (builds ++ one ∷ []) ≡ frames_from placed builds ++ (one.slot, record { snapshot = one.snapshot; first = placed + placed_by builds }) ∷ []
frames_from-push placed [] one = ap (λ (k : ℕ). (one.slot, record { snapshot = one.snapshot; first = k }) ∷ []) (omega arith)
frames_from-push placed (b ∷ builds) one =
    let more : ℕ = placed + length b.snapshot.entities in
    let at : more + placed_by builds ≡ placed + placed_by (b ∷ builds) = omega (arith, placed_by-cons b builds) in
    let front : ℕ × Frame = (b.slot, record { snapshot = b.snapshot; first = placed }) in
    ap (λ (frames : List (ℕ × Frame)). front ∷ frames) (frames_from-push more builds one)
    ∙ ap (λ (k : ℕ). front ∷ (frames_from more builds ++ (one.slot, record { snapshot = one.snapshot; first = k }) ∷ [])) at

pub last_built-push : (builds : List Build) (one : Build) (slot number : ℕ)
    → last_built (builds ++ one ∷ []) slot number
    ≡ cond (one.slot == slot && place_of one.snapshot.head.number == place_of number)
    (Some (record { snapshot = one.snapshot; first = placed_by builds })) (last_built builds slot number)
last_built-push builds one slot number =
    let test : ℕ × Frame → Bool = λ frame. frame.0 == slot && place_of frame.1.snapshot.head.number == place_of number in
    let frame : Frame = record { snapshot = one.snapshot; first = placed_by builds } in
    let new : ℕ × Frame = (one.slot, frame) in
    let before = frames_from 0 builds in
    let last : List (ℕ × Frame) → Option Frame = λ frames. option_map (λ (one : ℕ × Frame). one.1) (last_or None frames) in
    let pushed : frames_from 0 (builds ++ one ∷ []) ≡ before ++ new ∷ [] =
    frames_from-push 0 builds one ∙ ap (λ (k : ℕ). before ++ (one.slot, record { snapshot = one.snapshot; first = k }) ∷ []) (omega arith) in
    let filtered : filter test (frames_from 0 (builds ++ one ∷ [])) ≡ filter test before ++ cond (test new) (new ∷ []) [] =
    ap (filter test) pushed ∙ filter-append test before (new ∷ []) in
    let pick : Bool → Option Frame = λ b. cond b (Some frame) (last_built builds slot number) in
    let after : Bool → Option Frame = λ b. last (filter test before ++ cond b (new ∷ []) []) in
    ap last filtered ∙ elim (cases_Bool (test new)) [
      | inl holds ↦ ap after holds ∙ ap (option_map (λ (one : ℕ × Frame). one.1)) (last_or-push None (filter test before) new) ∙ sym (ap pick holds)
      | inr fails ↦ ap after fails ∙ ap last (append-nil (filter test before)) ∙ sym (ap pick fails)
    ]

-- ---- and the frames

pub nothing_stands : NothingStands
nothing_stands slots ring = record {
  placed = refl;
  are = nothing-places slots ring;
  places = λ slot number within. none_at {X = Frame} slots slot number;
}

-- a frame that was left is left the same
left-twice : (ring p q : ℕ) (b : Bool) (new old : Option Frame) → p ≤ q
    → option_map (frame_remains ring q) (cond b new (option_map (frame_remains ring p) old)) ≡ option_map (frame_remains ring q) (cond b new old)
left-twice ring p q true new old least = refl
left-twice ring p q false new old least = all_remain_twice ring p q old least

pub build_is_added : BuildIsAdded
build_is_added builds frames slot snapshot within h =
    let one : Build = record { slot = slot; snapshot = snapshot } in
    let placed : ℕ = frames.placed + length snapshot.entities in
    let frame : Frame = record { snapshot = snapshot; first = frames.placed } in
    let slots = with_frame frames.slots slot frame in
    let left : Option Frame → Option Frame = option_map (frame_remains frames.ring placed) in
    let inside : (at : ℕ) → at < length (build_at frames slot snapshot).slots → at < length frames.slots = λ at lt.
    omega (arith, lt, build-count frames slot snapshot) in
    record {
      placed = ap (λ (k : ℕ). k + length snapshot.entities) h.placed ∙ sym (sum_by_push (λ (one : Build). length one.snapshot.entities) builds one);
      are = build-places frames slot snapshot h.are;
      places = λ at number lt.
          let test : Bool = slot == at && place_of snapshot.head.number == place_of number in
          let last = last_built builds at number in
          at_each (frame_remains frames.ring placed) slots at number
          ∙ ap left (with_frame_at frames.slots slot frame at number within (h.are.places slot within))
          ∙ ap (λ (old : Option Frame). left (cond test (Some frame) old)) (h.places at number (inside at lt))
          ∙ left-twice frames.ring frames.placed placed test (Some frame) last (omega arith)
          ∙ ap (λ (k : ℕ). left (cond test (Some (record { snapshot = snapshot; first = k })) last)) h.placed
          ∙ ap left (sym (last_built-push builds one at number));
    }
