-- A client's state as it is saved.
use Rattle.std.specs.Prelude.{◌≡◌, ℕ, ⊤, Result, Ok, Err}
use Rattle.q3_profile.specs.declared.profile.Profile.{Profile}
use Rattle.q3_clstate.specs.State.{AppliedState}
use Rattle.q3_savestate.specs.declared.error.StateError.{StateError}
use Rattle.q3_savestate.specs.declared.error.StateError.TheVariants.{NoMemory, NotState}
use Rattle.q3_savestate.specs.State.{Saved}

-- all but the profile
abbrev pub saved_in : AppliedState → Saved
saved_in state = record {
  number = state.number;
  executed = state.executed;
  has_game = state.has_game;
  id = state.id;
  slot = state.slot;
  feed = state.feed;
  strings = state.strings;
  baselines = state.baselines;
  held = state.held;
}

-- and with one
abbrev pub applied_by : Profile → Saved → AppliedState
applied_by profile saved = record {
  profile = profile;
  number = saved.number;
  executed = saved.executed;
  has_game = saved.has_game;
  id = saved.id;
  slot = saved.slot;
  feed = saved.feed;
  strings = saved.strings;
  baselines = saved.baselines;
  held = saved.held;
}

-- a state was read, or the bytes are none, or memory was wanted
abbrev pub ReadsState : Profile → Result Saved ℕ → Result AppliedState StateError → Type 0
ReadsState profile whole (Ok state) = (whole ≡ Ok (saved_in state)) × (state.profile ≡ profile)
ReadsState profile whole (Err NoMemory) = ⊤
ReadsState profile whole (Err (NotState place)) = whole ≡ Err place
