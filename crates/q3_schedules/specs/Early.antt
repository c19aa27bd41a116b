-- What the file of a recording holds where a replay, or a client's node, ends early.
use Rattle.std.specs.Prelude.{◌≡◌, ◌⊎◌, ℕ, List, ◌++◌, Option, Some, None, Err}
use Rattle.q3_io.specs.Acts.{FileAct, ActsOn, after_acts}
use Rattle.q3_io.specs.Told.{Told, contents_of}
use Rattle.q3_io.specs.Traffic.{Parcel}
use Rattle.q3_profile.specs.declared.profile.Profile.{Profile}
use Rattle.q3_script.specs.declared.event.Event.{Event}
use Rattle.q3_node.specs.AtClient.{ClientEnd, client_rules}
use Rattle.q3_node.specs.Node.{acts_of, new_node, turns_of}
use Rattle.q3_world.specs.Kept.{opening_kept}
use Rattle.q3_world.specs.Files.{acts_from}
use Rattle.q3_schedules.specs.NodeRecorded.{NamesOnce}

-- acts ended early: after the first of them, or within the next
abbrev pub EndsWithin : Told → List FileAct → Told → Type 0
EndsWithin told acts now =
    ((first : List FileAct) × (rest : List FileAct) × (acts ≡ first ++ rest) × (now ≡ after_acts told first))
    ⊎ ActsOn (Some told) (Some now) acts (Err (record {}))

-- the file of a name holds what it held before, or a front of what it holds after all of them
abbrev pub HoldsFront : List ℕ → Told → Told → Told → Type 0
HoldsFront name told now whole =
    (contents_of now.files name ≡ contents_of told.files name)
    ⊎ ((front : List ℕ) × (rest : List ℕ) × (contents_of now.files name ≡ Some front) × (contents_of whole.files name ≡ Some (front ++ rest)))

-- so it is of every replay of which at most one `record` line names the file, wherever it ends early
abbrev pub ReplayLeavesFront : Type 0
ReplayLeavesFront = (profile : Profile) (events : List Event) (name : List ℕ) (told now : Told) → NamesOnce name events
    → EndsWithin told (acts_from (opening_kept profile) events) now → HoldsFront name told now (after_acts told (acts_from (opening_kept profile) events))

-- and of every client's node that records nothing at first
abbrev pub NodeLeavesFront : Type 0
NodeLeavesFront = (count : ℕ) (end : ClientEnd) (events : List Event) (readings : List ℕ) (arrivals : List (Option Parcel)) (name : List ℕ) (told now : Told)
    → end.recording ≡ None → NamesOnce name events → EndsWithin told (acts_of (turns_of count client_rules (new_node end events) readings arrivals)) now
    → HoldsFront name told now (after_acts told (acts_of (turns_of count client_rules (new_node end events) readings arrivals)))
