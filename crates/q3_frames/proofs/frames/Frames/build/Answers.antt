use Rattle.std.proofs.Common.{◌≡◌, ◌+◌, ◌<◌, ◌≤◌, List, Option, Some, All, IfSome, sym, ◌∙◌, length, map, set, slice_set, subst, ap, arith}
use Rattle.std.proofs.lemmas.List.{length-map, length-set}
use Rattle.std.proofs.lemmas.List.Elements.{All-get_or, All-set}
use Rattle.q3_entity_ring.specs.declared.kept.Kept.{Kept}
use Rattle.q3_entity_ring.specs.Places.{most_places, place_of}
use Rattle.q3_frames.specs.Frames.{FramesState, build_at}
use Rattle.q3_frames.specs.KeptFrames.{IsKept}
use Rattle.q3_frames.proofs.Building.{LieIn, lie_in, next_kept, built, left_in, all-kept}
use Rattle.q3_frames.proofs.Standing.{each}
use Rattle.q3_frames.proofs.frames.Frames.build.Goals as goal

pub returns : goal.returns
returns c =
    let ring = c.self.inside.ring in
    let placed = c.self.inside.placed in
    let slots = c.self.inside.slots.items in
    let new = c.place_or_share-first.new.ring in
    let es = c.args.entities.now in
    let within : c.args.slot < length slots =
    omega (arith, c.requires.slot, ap (λ (frames : FramesState). length frames.slots) c.self.view_is, length-map slots (each (left_in ring placed))) in
    let few : length es ≤ length ring.recent = omega (arith, c.requires.rises.few, c.self.invariant.room) in
    let lie : LieIn ring new es c.place_or_share-first.result =
    lie_in c.others_stay.ensures c.placed_is_there.ensures ring new es c.place_or_share-first.result few c.place_or_share-first.ensures in
    subst (λ (frames : FramesState).
    record { ring = length new.recent; placed = placed + length es; slots = map (each (left_in new (placed + length es))) (slice_set slots c.args.slot c.keep.new.self) }
    ≡ build_at frames c.args.slot (record { head = c.args.head.now; entities = es })) c.self.view_is
    (built ring new placed c.place_or_share-first.result es c.args.head.now slots c.args.slot
    c.index_mut.result.now c.keep.new.self lie c.index_mut.ensures.value c.keep.ensures within c.self.invariant.each)

pub invariant_of-self : goal.invariant_of-self
invariant_of-self c =
    let ring = c.self.inside.ring in
    let placed = c.self.inside.placed in
    let slots = c.self.inside.slots.items in
    let new = c.place_or_share-first.new.ring in
    let es = c.args.entities.now in
    let at = c.index_mut.result.now in
    let within : c.args.slot < length slots =
    omega (arith, c.requires.slot, ap (λ (frames : FramesState). length frames.slots) c.self.view_is, length-map slots (each (left_in ring placed))) in
    let few : length es ≤ length ring.recent = omega (arith, c.requires.rises.few, c.self.invariant.room) in
    let lie : LieIn ring new es c.place_or_share-first.result =
    lie_in c.others_stay.ensures c.placed_is_there.ensures ring new es c.place_or_share-first.result few c.place_or_share-first.ensures in
    let all : (P : List (Option Kept) → Type 0) → All P slots → P at = λ P all.
    subst P (sym c.index_mut.ensures.value) (All-get_or P slots c.args.slot at within all) in
    record {
      room = omega (arith, c.self.invariant.room, lie.room);
      places = All-set (λ places. length places ≡ most_places) slots c.args.slot c.keep.new.self (ap (λ (places : List (Option Kept)). length places) c.keep.ensures
          ∙ length-set at (place_of c.args.head.now.number) (Some (next_kept c.args.head.now c.place_or_share-first.result (length es) placed))
          ∙ all (λ places. length places ≡ most_places) c.self.invariant.places) c.self.invariant.places;
      placed = omega (arith, c.requires.rises.few, c.requires.placed, ap (λ (frames : FramesState). frames.placed) c.self.view_is);
      fewer = omega (arith, lie.few, c.self.invariant.fewer);
      each = subst (λ (places : List (Option Kept)). All (λ places. All (λ place. IfSome place (IsKept new (placed + length es))) places) (set slots c.args.slot places)) (sym c.keep.ensures)
          (all-kept ring new placed c.place_or_share-first.result es c.args.head.now slots c.args.slot at lie c.requires.rises
          (all (λ places. All (λ place. IfSome place (IsKept ring placed)) places) c.self.invariant.each) c.self.invariant.each);
    }
