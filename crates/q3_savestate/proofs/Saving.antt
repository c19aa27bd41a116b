-- What is saved of a state is well formed and in range, and what is so saved is that of a state.
use Rattle.std.proofs.Common.{◌≡◌, ℕ, ◌^◌, ◌<◌, ◌≤◌, List, get_or, Option, Some, None, Ok, arith}
use Rattle.std.specs.Prelude.{All, IfSome}
use Rattle.std.proofs.lemmas.List.Elements.{All-get_or, All-from_get_or, All-weaker}
use Rattle.q3_profile.specs.declared.profile.Profile.{Profile}
use Rattle.q3_profile.specs.Profile.{IsCodec}
use Rattle.q3_rings.specs.Rings.{HeldSnapshot, IsHeldIn}
use Rattle.q3_clstate.specs.State.{AppliedState}
use Rattle.q3_clstate.specs.Standing.{IsWellHeld, IsApplied}
use Rattle.q3_clstate.specs.Within.{IsWithin}
use Rattle.q3_savestate.specs.Standing.{IsHeldWell, IsSaved}
use Rattle.q3_savestate.specs.State.{Saved, state_bytes, state_at}
use Rattle.q3_savestate.specs.Applied.{saved_in, applied_by}
use Rattle.q3_savestate.specs.Laws.{WrittenIsRead, ReadIsWritten, SavedIsApplied}

-- what is held in a place: in its number's range by the newest, and of an age within the limit
saved_place : (profile : Profile) (ring newest most at : ℕ) (place : Option HeldSnapshot) → newest < 2 ^ 31 → most < 2 ^ 32
    → IfSome place (IsHeldIn newest at) → IfSome place (λ held. held.age ≤ most) → IfSome place (IsWellHeld profile ring) → IfSome place (IsHeldWell profile ring)
saved_place profile ring newest most at None few limit here old is = tt
saved_place profile ring newest most at (Some held) few limit here old is =
    let accepted = here.accepted in
    record {
      number = omega arith;
      time = is.head.time;
      flags = is.head.flags;
      area = is.head.area;
      short = is.head.short;
      player = is.head.player;
      normal_player = is.player;
      entities = is.entities.list;
      states = is.entities.states;
      normal = is.normal;
      gone = is.gone;
      age = omega arith;
    }

pub state_is_saved : (state : AppliedState) (most : ℕ) → most < 2 ^ 32 → IsApplied state → IsWithin most state → IsSaved state.profile (saved_in state)
state_is_saved state most limit is within = record {
  number = within.number;
  executed = is.executed;
  last = is.last;
  id = is.id;
  slot = is.slot;
  feed = is.feed;
  strings = is.strings;
  texts = is.texts;
  baselines = is.baselines;
  held = record {
    room = is.room;
    held = is.held;
    newest = is.newest;
    each = All-from_get_or (λ place. IfSome place (IsHeldWell state.profile state.held.ring)) state.held.places None (λ at lt.
        saved_place state.profile state.held.ring state.held.newest most at (get_or state.held.places at None) within.newest limit (is.held.each at)
        (All-get_or (λ (place : Option HeldSnapshot). IfSome place (λ held. held.age ≤ most)) state.held.places at None lt within.ages)
        (All-get_or (λ (place : Option HeldSnapshot). IfSome place (IsWellHeld state.profile state.held.ring)) state.held.places at None lt is.snapshots));
  };
}

-- and back
applied_place : (profile : Profile) (ring : ℕ) (place : Option HeldSnapshot) → IfSome place (IsHeldWell profile ring) → IfSome place (IsWellHeld profile ring)
applied_place profile ring None is = tt
applied_place profile ring (Some held) is =
    let number = is.number in
    record {
      head = record { number = omega arith; time = is.time; flags = is.flags; area = is.area; short = is.short; player = is.player };
      player = is.normal_player;
      entities = record { list = is.entities; states = is.states };
      normal = is.normal;
      gone = is.gone;
    }

pub saved_is_state : (profile : Profile) (saved : Saved) → IsCodec profile → IsSaved profile saved → IsApplied (applied_by profile saved)
saved_is_state profile saved codec is =
    let number = is.number in
    record {
      profile = codec;
      number = omega arith;
      executed = is.executed;
      last = is.last;
      id = is.id;
      slot = is.slot;
      feed = is.feed;
      strings = is.strings;
      texts = is.texts;
      baselines = is.baselines;
      room = is.held.room;
      held = is.held.held;
      newest = is.held.newest;
      snapshots = All-weaker (λ place. IfSome place (IsHeldWell profile saved.held.ring)) (λ place. IfSome place (IsWellHeld profile saved.held.ring))
          (applied_place profile saved.held.ring) saved.held.places is.held.each;
    }

-- ---- the laws

pub written_state_is_read : SavedIsApplied → WrittenIsRead → (state : AppliedState) (most : ℕ) → most < 2 ^ 32 → IsApplied state → IsWithin most state
    → state_at state.profile (state_bytes state.profile (saved_in state)) ≡ Ok (saved_in state)
written_state_is_read law below state most limit is within =
    let room : 512 ≤ state.profile.parse_ring = (let here = is.room in let least = is.held.ring in omega arith) in
    below state.profile (saved_in state) is.profile room (law.saved state most limit is within)

pub read_state_is_written : SavedIsApplied → ReadIsWritten → (profile : Profile) (bytes : List ℕ) (saved : Saved) → IsCodec profile → 512 ≤ profile.parse_ring
    → All (λ byte. byte < 256) bytes → state_at profile bytes ≡ Ok saved → IsApplied (applied_by profile saved) × (bytes ≡ state_bytes profile saved)
read_state_is_written law below profile bytes saved codec room each read =
    let was = below profile bytes saved codec room each read in
    (law.applied profile saved codec was.0, was.1)
