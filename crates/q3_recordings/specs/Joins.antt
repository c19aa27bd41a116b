-- What a recording of a client over a wire plays to.
use Rattle.std.specs.Prelude.{◌≡◌, ℕ, zero, suc, ◌<◌, if◌then◌else◌, List, [], length, Option, Some}
use Rattle.q3_io.specs.declared.address.Address.{Address}
use Rattle.q3_io.specs.Readings.{reading_of, readings_after}
use Rattle.q3_io.specs.Traffic.{Parcel, next_of}
use Rattle.q3_profile.specs.declared.profile.Profile.{Profile}
use Rattle.q3_script.specs.declared.event.Event.{Event}
use Rattle.q3_client.specs.Client.{new_client}
use Rattle.q3_demo.specs.declared.recorder.Stage.TheVariants.{Waits}
use Rattle.q3_demo.specs.Recording.{Noted}
use Rattle.q3_demo.specs.Playing.{most_records}
use Rattle.q3_node.specs.AtClient.{ClientEnd, new_end, client_rules}
use Rattle.q3_node.specs.Node.{Node, arrivals_after, new_node, turn_at}
use Rattle.q3_world.specs.StandsFor.{IsChecked}
use Rattle.q3_schedules.specs.NodeRecorded.{applied_in, begins_it, left_in, line_at}
use Rattle.q3_recordings.specs.Plays.{AreNoted, recorded_from, BeginsTold, IsShort, PlaysTo}

-- the messages that a node applies in so many turns after the first that begins a recording into the file of a name, up to its end
unfoldable pub noted_in : List ℕ → ℕ → Node ClientEnd → List ℕ → List (Option Parcel) → List Noted
noted_in name zero node readings arrivals = []
noted_in name (suc count) node readings arrivals =
    let reading = reading_of readings in
    let now = turn_at client_rules node reading (next_of arrivals) in
    let later = readings_after readings in
    let more = arrivals_after now.turn arrivals in
    if begins_it name node.end (line_at node reading) then applied_in count now.node later more
    else if now.turn.ended then []
    else noted_in name count now.node later more

-- these are messages that a client applied one after the other, whatever arrives
abbrev pub JoinIsNoted : Type 0
JoinIsNoted = (profile : Profile) (count c challenge qport dup : ℕ) (server : Address) (events : List Event) (readings : List ℕ) (arrivals : List (Option Parcel)) (name : List ℕ)
    → IsChecked profile → AreNoted (noted_in name count (new_node (new_end c (new_client profile challenge qport dup) server) events) readings arrivals)

-- what its turns leave in the file, a recording with its end or one that has none yet, plays so, whatever arrives
abbrev pub JoinPlays : Type 0
JoinPlays = (profile : Profile) (count c challenge qport dup : ℕ) (server : Address) (events : List Event) (readings : List ℕ) (arrivals : List (Option Parcel)) (name demo : List ℕ)
    → IsChecked profile
    → let node = new_node (new_end c (new_client profile challenge qport dup) server) events in
    let messages = noted_in name count node readings arrivals in
    left_in name count node readings arrivals ≡ Some demo → BeginsTold (recorded_from Waits messages) → IsShort demo (length messages) → length messages < most_records
    → PlaysTo profile demo (recorded_from Waits messages)
