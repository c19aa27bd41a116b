-- The entities of the frames of slots.
use Rattle.std.proofs.Common.{◌∙◌, ℕ, inl, inr, sym, subst}
use Rattle.q3_fields.specs.Kinds.{Layout}
use Rattle.q3_entity.specs.Entities.{IsList}
use Rattle.q3_entity_ring.specs.Snapshot.{Snapshot}
use Rattle.q3_frames.specs.Frames.{FramesState, build_at}
use Rattle.q3_frames.specs.Laws.{NothingIsHeld, HeldWasBuilt}
use Rattle.q3_slot.specs.Slots.{HoldLists}
use Rattle.q3_slot.specs.Laws.{NothingIsListed}

-- where nothing was built there is nothing to say
pub nothing_is_listed : NothingIsHeld → NothingIsListed
nothing_is_listed law table slots ring = record { listed = λ slot number held is. let no = sym (law slots ring slot number) ∙ is in absurd (cc) }

-- a build keeps it
pub build_lists : HeldWasBuilt → (table : Layout) (frames : FramesState) (c : ℕ) (built : Snapshot) → IsList table built.entities → HoldLists table frames
    → HoldLists table (build_at frames c built)
build_lists law table frames c built listed lists = record {
  listed = λ slot number held is. elim (law frames c slot number built held is) [
    | inl new ↦ subst (λ (snapshot : Snapshot). IsList table snapshot.entities) (sym new.2) listed
    | inr old ↦ lists.listed slot number held old.1
  ];
}
