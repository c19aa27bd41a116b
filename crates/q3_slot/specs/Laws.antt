-- Laws of slots.
use Rattle.std.specs.Prelude.{ℕ}
use Rattle.q3_fields.specs.Kinds.{Layout}
use Rattle.q3_frames.specs.Frames.{no_frames}
use Rattle.q3_slot.specs.Slots.{HoldLists}

-- where nothing was built, each frame has a list of entities of any table
abbrev pub NothingIsListed : Type 0
NothingIsListed = (table : Layout) (slots ring : ℕ) → HoldLists table (no_frames slots ring)
