-- What the program asks of a state that is written, and what it makes of one that is read.
use Rattle.std.specs.Prelude.{◌≡◌, ℕ, ◌^◌, ◌<◌, Bool, ⊤, All, None, IfSome, Result, Ok, Err}
use Rattle.q3_config.specs.Strings.{Strings}
use Rattle.q3_entity.specs.Baselines.{Baselines}
use Rattle.q3_rings.specs.Rings.{HeldSnapshots}
use Rattle.q3_clstate.specs.declared.contents.Contents.{Contents}
use Rattle.q3_savestate.specs.declared.error.StateError.{StateError}
use Rattle.q3_savestate.specs.declared.error.StateError.TheVariants.{NoMemory, NotState}
use Rattle.q3_savestate.specs.declared.state.Start as started
use Rattle.q3_savestate.specs.State.{Saved, Start}

-- what was read of a state
abbrev pub saved_of : Contents → Saved
saved_of contents = record {
  number = contents.number;
  executed = contents.incoming;
  has_game = contents.has_game;
  id = contents.id;
  slot = contents.slot;
  feed = contents.feed;
  strings = contents.configs;
  baselines = contents.baselines;
  held = contents.rings.held;
}

abbrev pub start_of : started.Start → Start
start_of start = record { number = start.number; id = start.id; slot = start.slot; feed = start.feed; executed = start.incoming }

-- a state of its parts
abbrev pub saved_from : Start → Bool → Strings → Baselines → HeldSnapshots → Saved
saved_from start has_game strings baselines held = record {
  number = start.number;
  executed = start.executed;
  has_game = has_game;
  id = start.id;
  slot = start.slot;
  feed = start.feed;
  strings = strings;
  baselines = baselines;
  held = held;
}

-- the ages of all that is held have 32 bits
abbrev pub HasAges : HeldSnapshots → Type 0
HasAges snapshots = All (λ place. IfSome place (λ held. held.age < 2 ^ 32)) snapshots.places

-- the contents of a state were read, or the bytes are none, or memory was wanted
abbrev pub ReadsContents : Result Saved ℕ → Result Contents StateError → Type 0
ReadsContents whole (Ok contents) = (whole ≡ Ok (saved_of contents)) × (contents.rings.begun ≡ None)
ReadsContents whole (Err NoMemory) = ⊤
ReadsContents whole (Err (NotState place)) = whole ≡ Err place
