-- What a client's node applies after the turn that begins its recording may be noted.
use Rattle.std.proofs.Common.{◌≡◌, ℕ, zero, suc, ◌+◌, ◌<◌, Bool, true, false, List, [], ◌++◌, length, Option, Some, None, Result, Ok, Err, refl, sym, ap, subst, arith}
use Rattle.std.specs.Prelude.{◌&&◌, if◌then◌else◌}
use Rattle.std.specs.Result.{is_ok}
use Rattle.std.specs.Str.{bytes_eq}
use Rattle.std.proofs.lemmas.Bool.{cond_both}
use Rattle.q3_io.specs.Readings.{reading_of, readings_after}
use Rattle.q3_io.specs.Traffic.{Parcel, next_of}
use Rattle.q3_profile.specs.declared.profile.Profile.{Profile}
use Rattle.q3_svmsg.specs.Laws.{ReadIsSpelled}
use Rattle.q3_clstate.specs.State.{AppliedState}
use Rattle.q3_clstate.specs.Laws.{ApplyStays, AppliedIsContext}
use Rattle.q3_script.specs.declared.event.Event.{Event}
use Rattle.q3_script.specs.declared.event.Event.TheVariants as events
use Rattle.q3_client.specs.Client.{ClientState, new_client, take_at}
use Rattle.q3_client.specs.Laws.{TakesMessages}
use Rattle.q3_report.specs.declared.answer.RecordRefused.{RecordRefused}
use Rattle.q3_report.specs.declared.answer.Front.TheVariants.{Arrive}
use Rattle.q3_report.specs.declared.answer.TakeRefused.TheVariants.{Stranger}
use Rattle.q3_report.specs.Answers.{Untaken}
use Rattle.q3_demo.specs.declared.recorder.Stage.TheVariants.{Waits}
use Rattle.q3_demo.specs.Recording.{Noted}
use Rattle.q3_ends.specs.Recording.{begin_at, new_recording, waits_in}
use Rattle.q3_node.specs.AtClient.{ClientEnd, client_rules, is_address, line_done, new_end, took}
use Rattle.q3_node.specs.Node.{Arrived, Node, arrivals_after, cut_to_room, new_node, start_at, turn_at, turn_of}
use Rattle.q3_world.specs.StandsFor.{IsChecked}
use Rattle.q3_schedules.specs.NodeRecorded.{applied_in, begins_it, ends_it, has_end, left_in, line_at, noted_turn, written_of}
use Rattle.q3_schedules.specs.Recorded.{noted_of}
use Rattle.q3_recordings.specs.Plays.{IsShort, recorded_from, AreNoted, AreBy, PlaysTo, RecordingPlays}
use Rattle.q3_recordings.specs.Joins.{noted_in, JoinPlays, JoinIsNoted}
use Rattle.q3_recordings.proofs.Sound.{IsSound, Keeps, keeps_same}
use Rattle.q3_recordings.proofs.AtPlace.{ClientLaws, Becomes}
use Rattle.q3_recordings.proofs.Noting.{Laws, client_laws, AreNotedFrom, none_noted, noted_by, becomes_noted, becomes_sound, are_by, begins_with_game}

-- ---- a turn

-- the bytes that the client takes in it, if it takes some
abbrev bytes_from : ClientEnd → Parcel → Option (List ℕ)
bytes_from end parcel = if is_address parcel.address end.server then Some parcel.bytes else None

abbrev bytes_in : ClientEnd → Option Event → Option Parcel → Option (List ℕ)
bytes_in end None (Some parcel) = bytes_from end (cut_to_room parcel)
bytes_in end line found = None

line_keeps : (profile : Profile) → ClientLaws profile → (end : ClientEnd) (event : Event) (number : ℕ) → Keeps profile end.client (line_done end event number).end.client
line_keeps profile laws end (events.TypeText c text) number = laws.types end.client text
line_keeps profile laws end (events.Move c one) number = laws.moves end.client one
line_keeps profile laws end (events.Send c) number = laws.emits end.client (waits_in end.recording)
line_keeps profile laws end other number = keeps_same profile end.client

-- what becomes of the client, and what is noted
record Turns (profile : Profile) (client : ClientState) (bytes : Option (List ℕ)) (new : ClientState) (notes : List Noted) : Type 0 where
  becomes : Becomes profile client bytes new
  notes_are : notes ≡ noted_by client bytes

abbrev FromServer : Profile → ClientEnd → List ℕ → Bool → Type 0
FromServer profile end bytes from =
    let taken = take_at end.client bytes in
    let now : Arrived ClientEnd = if from then took end bytes else record { end = end; answer = Untaken Arrive (Stranger end.c); acts = [] } in
    Turns profile end.client (if from then Some bytes else None) now.end.client (if from then noted_of end.client taken taken.answer else [])

from_server : (profile : Profile) (end : ClientEnd) (bytes : List ℕ) (from : Bool) → FromServer profile end bytes from
from_server profile end bytes true = record { becomes = refl; notes_are = refl }
from_server profile end bytes false = record { becomes = keeps_same profile end.client; notes_are = refl }

turns : (profile : Profile) → ClientLaws profile → (node : Node ClientEnd) (line : Option Event) (found : Option Parcel)
    → Turns profile node.end.client (bytes_in node.end line found) (turn_of client_rules node line found).node.end.client (noted_turn node.end line found)
turns profile laws node (Some event) found = record { becomes = line_keeps profile laws node.end event (node.made + 1); notes_are = refl }
turns profile laws node None None = record { becomes = keeps_same profile node.end.client; notes_are = refl }
turns profile laws node None (Some parcel) =
    let cut = cut_to_room parcel in
    from_server profile node.end cut.bytes (is_address cut.address node.end.server)

-- the node with its first reading
abbrev started : Node ClientEnd → ℕ → Node ClientEnd
started node reading = record node { start = Some (start_at node.start reading) }

-- ---- after the turn that begins it

are_noted : Laws → (profile : Profile) → IsChecked profile → (count : ℕ) (node : Node ClientEnd) (readings : List ℕ) (arrivals : List (Option Parcel)) → IsSound profile node.end.client
    → 0 < node.end.client.state.number → AreNotedFrom node.end.client.state (applied_in count node readings arrivals)
unfolding applied_in
are_noted laws profile checked zero node readings arrivals sound begun = none_noted node.end.client.state
are_noted laws profile checked (suc count) node readings arrivals sound begun =
    let reading = reading_of readings in
    let line = line_at node reading in
    let now = turn_at client_rules node reading (next_of arrivals) in
    let rest = applied_in count now.node (readings_after readings) (arrivals_after now.turn arrivals) in
    let turned = turns profile (client_laws laws profile checked) (started node reading) line (next_of arrivals) in
    let noted = becomes_noted laws profile node.end.client now.node.end.client (bytes_in node.end line (next_of arrivals)) rest turned.becomes sound begun
    (λ sound begun. are_noted laws profile checked count now.node (readings_after readings) (arrivals_after now.turn arrivals) sound begun) in
    let found : AreNotedFrom node.end.client.state (noted_turn node.end line (next_of arrivals) ++ rest) =
    subst (λ (notes : List Noted). AreNotedFrom node.end.client.state (notes ++ rest)) (sym turned.notes_are) noted in
    either node.end.client.state (ends_it line) (noted_turn node.end line (next_of arrivals) ++ rest) found
  where
    either : (state : AppliedState) (ends : Bool) (notes : List Noted) → AreNotedFrom state notes → AreNotedFrom state (if ends then [] else notes)
    either state true notes found = none_noted state
    either state false notes found = found

-- ---- up to it

-- the messages go on from a client that is sound, if there are some
record NotedSo (profile : Profile) (messages : List Noted) : Type 0 where
  are : AreNoted messages
  by : AreBy profile messages

nothing_noted : (profile : Profile) → NotedSo profile []
nothing_noted profile = record { are = tt; by = tt }

begins_game : (name : List ℕ) (end : ClientEnd) (line : Option Event) → begins_it name end line ≡ true → end.client.state.has_game ≡ true
begins_game name end (Some (events.RecordTo c n)) e =
    begins_with_game end.client end.recording (new_recording n)
    (answered (begin_at end.client end.recording (new_recording n)).answer (second (bytes_eq n name) (is_ok (begin_at end.client end.recording (new_recording n)).answer) e))
  where
    second : (x y : Bool) → (x && y) ≡ true → y ≡ true
    second true y e = e
    second false y e = absurd cc

    answered : (result : Result (Unit {0}) RecordRefused) → is_ok result ≡ true → result ≡ Ok tt
    answered (Ok x) is = refl
    answered (Err cause) is = absurd cc
begins_game name end other e = absurd cc

begins_so : Laws → (profile : Profile) → IsChecked profile → (count : ℕ) (node : Node ClientEnd) (readings : List ℕ) (arrivals : List (Option Parcel)) → IsSound profile node.end.client
    → 0 < node.end.client.state.number → NotedSo profile (applied_in count node readings arrivals)
begins_so laws profile checked count node readings arrivals sound begun =
    let from = are_noted laws profile checked count node readings arrivals sound begun in
    record { are = from.are; by = are_by profile node.end.client.state (applied_in count node readings arrivals) sound.by from.after }

-- where the line begins it the client takes nothing in that turn
begins_nothing : (name : List ℕ) (end : ClientEnd) (line : Option Event) (found : Option Parcel) → begins_it name end line ≡ true → bytes_in end line found ≡ None
begins_nothing name end (Some event) found e = refl
begins_nothing name end None found e = absurd cc

all_noted : Laws → (profile : Profile) → IsChecked profile → (name : List ℕ) (count : ℕ) (node : Node ClientEnd) (readings : List ℕ) (arrivals : List (Option Parcel))
    → IsSound profile node.end.client → NotedSo profile (noted_in name count node readings arrivals)
unfolding noted_in
all_noted laws profile checked name zero node readings arrivals sound = nothing_noted profile
all_noted laws profile checked name (suc count) node readings arrivals sound =
    let reading = reading_of readings in
    let line = line_at node reading in
    let found = next_of arrivals in
    let now = turn_at client_rules node reading found in
    let later = readings_after readings in
    let more = arrivals_after now.turn arrivals in
    let turned = turns profile (client_laws laws profile checked) (started node reading) line found in
    let after : IsSound profile now.node.end.client =
    becomes_sound laws profile node.end.client now.node.end.client (bytes_in node.end line found) turned.becomes sound in
    cond_both (begins_it name node.end line) (applied_in count now.node later more) (if now.turn.ended then [] else noted_in name count now.node later more) (NotedSo profile)
    (λ begins.
    let keeps : Keeps profile node.end.client now.node.end.client =
    subst (λ (bytes : Option (List ℕ)). Becomes profile node.end.client bytes now.node.end.client) (begins_nothing name node.end line found begins) turned.becomes in
    let number : now.node.end.client.state.number ≡ node.end.client.state.number = ap (λ (s : AppliedState). s.number) keeps.state in
    let begun = sound.begun (begins_game name node.end line begins) in
    begins_so laws profile checked count now.node later more after (omega (arith, number, begun)))
    (λ not. cond_both now.turn.ended [] (noted_in name count now.node later more) (NotedSo profile)
    (λ ended. nothing_noted profile) (λ goes. all_noted laws profile checked name count now.node later more after))

-- ---- all of it

-- the file holds what is written of these
record IsWritten (demo : List ℕ) (messages : List Noted) : Type 0 where
  over : Bool
  is : demo ≡ written_of over messages

all_written : (name : List ℕ) (count : ℕ) (node : Node ClientEnd) (readings : List ℕ) (arrivals : List (Option Parcel)) (demo : List ℕ)
    → left_in name count node readings arrivals ≡ Some demo → IsWritten demo (noted_in name count node readings arrivals)
unfolding noted_in left_in
all_written name zero node readings arrivals demo left = absurd cc
all_written name (suc count) node readings arrivals demo left =
    let reading = reading_of readings in
    let now = turn_at client_rules node reading (next_of arrivals) in
    let later = readings_after readings in
    let more = arrivals_after now.turn arrivals in
    written_after (begins_it name node.end (line_at node reading)) now.turn.ended (has_end count now.node later more) (applied_in count now.node later more)
    (left_in name count now.node later more) (noted_in name count now.node later more) (λ left. all_written name count now.node later more demo left) left
  where
    some : {one two : List ℕ} → Some one ≡ Some two → two ≡ one
    some e = cc

    written_after : (begins ended over : Bool) (applied : List Noted) (behind : Option (List ℕ)) (noted : List Noted) → (behind ≡ Some demo → IsWritten demo noted)
        → (if begins then Some (written_of over applied) else if ended then None else behind) ≡ Some demo → IsWritten demo (if begins then applied else if ended then [] else noted)
    written_after true ended over applied behind noted rest e = record { over = over; is = some e }
    written_after false true over applied behind noted rest e = absurd cc
    written_after false false over applied behind noted rest e = rest e

noted_so : Laws → JoinIsNoted
noted_so laws profile count c challenge qport dup server events readings arrivals name checked =
    let node : Node ClientEnd = new_node (new_end c (new_client profile challenge qport dup) server) events in
    (all_noted laws profile checked name count node readings arrivals ((client_laws laws profile checked).joins challenge qport dup)).are

pub join_is_noted : ReadIsSpelled → ApplyStays → AppliedIsContext → TakesMessages → JoinIsNoted
join_is_noted read stays contexts takes = noted_so (record { read = read; stays = stays; contexts = contexts; takes = takes })

plays_so : Laws → RecordingPlays → JoinPlays
plays_so laws plays profile count c challenge qport dup server events readings arrivals name demo checked left told short few =
    let node : Node ClientEnd = new_node (new_end c (new_client profile challenge qport dup) server) events in
    let is = client_laws laws profile checked in
    let messages = noted_in name count node readings arrivals in
    let noted = all_noted laws profile checked name count node readings arrivals (is.joins challenge qport dup) in
    let written = all_written name count node readings arrivals demo left in
    subst (λ (demo : List ℕ). PlaysTo profile demo (recorded_from Waits messages)) (sym written.is)
    (plays profile messages written.over noted.are noted.by told (subst (λ (demo : List ℕ). IsShort demo (length messages)) written.is short) few)

pub join_plays : RecordingPlays → ReadIsSpelled → ApplyStays → AppliedIsContext → TakesMessages → JoinPlays
join_plays plays read stays contexts takes = plays_so (record { read = read; stays = stays; contexts = contexts; takes = takes }) plays
