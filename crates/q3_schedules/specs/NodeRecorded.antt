-- What a client's node leaves in the file of a recording: the messages that it applied.
use Rattle.std.specs.Prelude.{◌≡◌, ℕ, zero, suc, ◌-◌, ◌&&◌, ◌⊎◌, if◌then◌else◌, Bool, true, false, List, [], ◌∷◌, ◌++◌, Option, Some, None}
use Rattle.std.specs.List.{AllByRecursion}
use Rattle.std.specs.Option.{option_or}
use Rattle.std.specs.Result.{is_ok}
use Rattle.std.specs.Str.{bytes_eq}
use Rattle.q3_io.specs.Acts.{after_acts}
use Rattle.q3_io.specs.Readings.{reading_of, readings_after}
use Rattle.q3_io.specs.Told.{Told, contents_of}
use Rattle.q3_io.specs.Traffic.{Parcel, next_of}
use Rattle.q3_script.specs.declared.event.Event.{Event}
use Rattle.q3_script.specs.declared.event.Event.TheVariants as events
use Rattle.q3_client.specs.Client.{take_at}
use Rattle.q3_demo.specs.declared.recorder.Stage.TheVariants.{Waits}
use Rattle.q3_demo.specs.Recording.{Noted, noted_from, recording}
use Rattle.q3_ends.specs.Recording.{begin_at, new_recording}
use Rattle.q3_node.specs.AtClient.{ClientEnd, client_rules, is_address}
use Rattle.q3_node.specs.Node.{Node, acts_of, arrivals_after, cut_to_room, due, new_node, start_at, turn_at, turns_of}
use Rattle.q3_schedules.specs.Recorded.{MakesOther, noted_of}

-- the message that it applies in a turn, if it does: one that arrives from its server
abbrev pub noted_arrival : ClientEnd → Parcel → List Noted
noted_arrival end parcel =
    let taken = take_at end.client parcel.bytes in
    if is_address parcel.address end.server then noted_of end.client taken taken.answer else []

abbrev pub noted_turn : ClientEnd → Option Event → Option Parcel → List Noted
noted_turn end None (Some parcel) = noted_arrival end (cut_to_room parcel)
noted_turn end line found = []

-- the line that is due at a reading of the clock
abbrev pub line_at : Node ClientEnd → ℕ → Option Event
line_at node reading = due node.time (reading - start_at node.start reading) node.left

-- a line by which a recording has its end
abbrev pub ends_it : Option Event → Bool
ends_it (Some (events.Stop c)) = true
ends_it (Some (events.End ms)) = true
ends_it other = false

-- the messages that it applies in so many turns, up to the first such line; and whether there is one
unfoldable pub applied_in : ℕ → Node ClientEnd → List ℕ → List (Option Parcel) → List Noted
applied_in zero node readings arrivals = []
applied_in (suc count) node readings arrivals =
    let reading = reading_of readings in
    let now = turn_at client_rules node reading (next_of arrivals) in
    if ends_it (line_at node reading) then []
    else noted_turn node.end (line_at node reading) (next_of arrivals) ++ applied_in count now.node (readings_after readings) (arrivals_after now.turn arrivals)

unfoldable pub has_end : ℕ → Node ClientEnd → List ℕ → List (Option Parcel) → Bool
has_end zero node readings arrivals = false
has_end (suc count) node readings arrivals =
    let reading = reading_of readings in
    let now = turn_at client_rules node reading (next_of arrivals) in
    if ends_it (line_at node reading) then true else has_end count now.node (readings_after readings) (arrivals_after now.turn arrivals)

-- the recording of messages, or where it has no end yet what is written of it by then
abbrev pub written_of : Bool → List Noted → List ℕ
written_of true messages = recording messages
written_of false messages = (noted_from Waits messages).bytes

-- whether a turn does the line that begins the recording into the file of a name
abbrev pub begins_it : List ℕ → ClientEnd → Option Event → Bool
begins_it name end (Some (events.RecordTo c n)) = bytes_eq n name && is_ok (begin_at end.client end.recording (new_recording n)).answer
begins_it name end other = false

-- what so many turns leave in that file, if one of them begins it
unfoldable pub left_in : List ℕ → ℕ → Node ClientEnd → List ℕ → List (Option Parcel) → Option (List ℕ)
left_in name zero node readings arrivals = None
left_in name (suc count) node readings arrivals =
    let reading = reading_of readings in
    let now = turn_at client_rules node reading (next_of arrivals) in
    let later = readings_after readings in
    let more = arrivals_after now.turn arrivals in
    if begins_it name node.end (line_at node reading) then Some (written_of (has_end count now.node later more) (applied_in count now.node later more))
    else if now.turn.ended then None
    else left_in name count now.node later more

-- lines of which at most one names the file
abbrev pub NamesOnce : List ℕ → List Event → Type 0
NamesOnce name [] = Unit {0}
NamesOnce name (event ∷ events) = (MakesOther name event × NamesOnce name events) ⊎ AllByRecursion (MakesOther name) events

-- what a client's node leaves in the file of a name that at most one of its `record` lines has, whatever arrives, and whatever files there
-- were: the recording of the messages that the client applied after that line, up to its end, where it has one by then; and where no
-- recording into it begins, it stays
abbrev pub NodeRecordsItsMessages : Type 0
NodeRecordsItsMessages = (count : ℕ) (end : ClientEnd) (events : List Event) (readings : List ℕ) (arrivals : List (Option Parcel)) (told : Told) (name : List ℕ)
    → end.recording ≡ None → NamesOnce name events
    → contents_of (after_acts told (acts_of (turns_of count client_rules (new_node end events) readings arrivals))).files name
    ≡ option_or (left_in name count (new_node end events) readings arrivals) (contents_of told.files name)
