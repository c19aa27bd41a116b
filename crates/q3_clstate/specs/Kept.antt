-- How a client's state is kept, and what is done with a snapshot.
use Rattle.std.specs.Prelude.{◌≡◌, ℕ, None, if◌then◌else◌}
use Rattle.q3_profile.specs.declared.profile.Profile.{Profile}
use Rattle.q3_entity_ring.specs.Snapshot.{Snapshot}
use Rattle.q3_rings.specs.Rings.{HeldSnapshots, accept_at, held_snapshot}
use Rattle.q3_clstate.specs.declared.applied.SnapOutcome.{SnapOutcome}
use Rattle.q3_clstate.specs.declared.applied.SnapOutcome.TheVariants.{Accepted, Skipped, Stale}
use Rattle.q3_clstate.specs.declared.contents.Contents.{Contents}
use Rattle.q3_clstate.specs.declared.state.ClState.TheInside.{Inside}
use Rattle.q3_clstate.specs.State.{AppliedState, is_stale, skipped_for}
use Rattle.q3_clstate.specs.Standing.{IsApplied}

abbrev pub state_in : Inside → AppliedState
state_in s = record {
  profile = s.profile;
  number = s.number;
  executed = s.incoming;
  has_game = s.has_game;
  id = s.settings.id;
  slot = s.slot;
  feed = s.feed;
  strings = s.settings.strings;
  baselines = s.holding.baselines;
  held = s.holding.rings.held;
}

-- a state of these contents, by a profile
abbrev pub state_by : Profile → Contents → AppliedState
state_by profile contents = record {
  profile = profile;
  number = contents.number;
  executed = contents.incoming;
  has_game = contents.has_game;
  id = contents.id;
  slot = contents.slot;
  feed = contents.feed;
  strings = contents.configs;
  baselines = contents.baselines;
  held = contents.rings.held;
}

-- what is kept is well formed and in range, and no snapshot is being put back
pub record Stands (s : Inside) : Type 0 where
  pub applied : IsApplied (state_in s)
  pub none : s.holding.rings.begun ≡ None

-- what is held after a snapshot that was read, and what is told of it
abbrev pub held_after : HeldSnapshots → ℕ → Snapshot → HeldSnapshots
held_after held number snapshot = if is_stale held number then held else accept_at held snapshot

abbrev pub read_outcome : HeldSnapshots → ℕ → ℕ → SnapOutcome
read_outcome held number base = if is_stale held number then Stale else Accepted base

-- what is told of one that was skipped
abbrev pub skipped_outcome : HeldSnapshots → ℕ → ℕ → SnapOutcome
skipped_outcome held number base = if is_stale held number then Stale else Skipped base (skipped_for (held_snapshot held base))
