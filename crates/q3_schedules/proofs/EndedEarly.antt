-- A replay, and a client's node, make the file that at most one of their lines names at most once.
use Rattle.std.proofs.Common.{◌≡◌, ◌≢◌, ℕ, ◌+◌, ◌-◌, suc, zero, List, [], ◌∷◌, ◌++◌, Option, Some, None, Err, true, refl, sym, ap, subst, ◌∙◌, inl, inr}
use Rattle.std.specs.Prelude.{◌⊎◌, if◌then◌else◌}
use Rattle.std.specs.List.{AllByRecursion, flat_map}
use Rattle.std.specs.Option.{is_some}
use Rattle.std.specs.Result.{is_ok}
use Rattle.std.proofs.lemmas.Bool.{cases_Bool, cond_both}
use Rattle.std.proofs.lemmas.List.{append-nil}
use Rattle.std.proofs.lemmas.List.Concat.{flat_map-cons}
use Rattle.q3_io.specs.Acts.{FileAct, Makes}
use Rattle.q3_io.specs.Readings.{reading_of, readings_after}
use Rattle.q3_io.specs.Traffic.{Parcel, next_of}
use Rattle.q3_profile.specs.declared.profile.Profile.{Profile}
use Rattle.q3_script.specs.declared.event.Event.{Event}
use Rattle.q3_script.specs.declared.event.Event.TheVariants as events
use Rattle.q3_client.specs.Client.{ClientState, Taken, take_at}
use Rattle.q3_ends.specs.Recording.{RecordingState, RecordingStep, begin_at, begin_new, new_recording, note_taken, recorder_took, stop_at}
use Rattle.q3_demo.specs.Recording.{closing}
use Rattle.q3_report.specs.Answers.{Untaken}
use Rattle.q3_report.specs.declared.answer.Front.TheVariants.{Arrive}
use Rattle.q3_report.specs.declared.answer.RecordRefused.{RecordRefused}
use Rattle.q3_report.specs.declared.answer.RecordRefused.TheVariants.{NoGame}
use Rattle.q3_report.specs.declared.answer.TakeRefused.TheVariants.{Stranger}
use Rattle.q3_world.specs.declared.places.Place.{Place}
use Rattle.q3_world.specs.Ends.{Ends, client_step_of, line_of, place_at, recording_at, with_place}
use Rattle.q3_world.specs.Kept.{Kept, kept_step, opening_kept}
use Rattle.q3_world.specs.Files.{acts_from, acts_of as event_acts, place_acts, ending_acts, line_acts, stop_acts, take_acts}
use Rattle.q3_node.specs.AtClient.{ClientEnd, arrived, client_rules, is_address, line_done, took}
use Rattle.q3_node.specs.Node.{Arrived, Node, Turn, acts_of, arrivals_after, cut_to_room, new_node, start_at, turn_at, turn_of, turns_of}
use Rattle.q3_schedules.specs.Recorded.{MakesOther}
use Rattle.q3_schedules.specs.NodeRecorded.{NamesOnce, line_at}
use Rattle.q3_schedules.specs.Early.{ReplayLeavesFront, NodeLeavesFront}
use Rattle.q3_schedules.proofs.NamedFiles.{SparesAll}
use Rattle.q3_schedules.specs.Slots.{HaveSlots}
use Rattle.q3_schedules.proofs.SlotsStay.{have_slots, nobody_yet, there}
use Rattle.q3_schedules.proofs.EventKinds.{Happens, by_kind}
use Rattle.q3_schedules.proofs.NamedRecordings.{Gone, Unnamed, apart_put, begins_new, begins_nothing, gone_of}
use Rattle.q3_schedules.proofs.Recorded.{ends_gone, gone_on}
use Rattle.q3_schedules.proofs.NodeRecorded.{OtherLine, by_line, due_once, due_others, once_of, other_line, others_left, started, starts}
use Rattle.q3_schedules.proofs.MadeOnce.{MadeOnce, NeverMade, front_is_left, names_are, never_both, never_extends, once_after}

-- ---- what makes no file of the name

taken_never : (name : List ℕ) (recording : Option RecordingState) (client : ClientState) (taken : Taken) → NeverMade name (note_taken recording client taken).acts
taken_never name None client taken = tt
taken_never name (Some going) client taken = never_extends name going.name (recorder_took going.stage client taken taken.answer).bytes

stopped_never : (name : List ℕ) (recording : Option RecordingState) → NeverMade name (stop_at recording).acts
stopped_never name None = tt
stopped_never name (Some going) = never_extends name going.name (closing going.stage)

new_never : (name n : List ℕ) (recording : Option RecordingState) → n ≢ name → NeverMade name (begin_new recording (new_recording n)).acts
new_never name n None other = (other, tt)
new_never name n (Some going) other = tt

begun_never : (name n : List ℕ) (client : ClientState) (recording : Option RecordingState) → n ≢ name → NeverMade name (begin_at client recording (new_recording n)).acts
begun_never name n client recording other =
    cond_both client.state.has_game (begin_new recording (new_recording n)) refused (λ (step : RecordingStep RecordRefused). NeverMade name step.acts) (λ e. new_never name n recording other) (λ e. tt)
  where
    refused : RecordingStep RecordRefused
    refused = record { recording = recording; answer = Err NoGame; acts = [] }

-- ---- a replay

take_never : (name : List ℕ) (found : Option Place) (bytes : List ℕ) → NeverMade name (take_acts found bytes)
take_never name None bytes = tt
take_never name (Some place) bytes = taken_never name place.recording place.client (take_at place.client bytes)

stop_never : (name : List ℕ) (found : Option Place) → NeverMade name (stop_acts found)
stop_never name None = tt
stop_never name (Some place) = stopped_never name place.recording

line_stop_never : (name : List ℕ) (c : ℕ) (found : Option Place) → NeverMade name (place_acts found (events.Stop c))
line_stop_never name c None = tt
line_stop_never name c (Some place) = stopped_never name place.recording

begin_never : (name n : List ℕ) (c : ℕ) (found : Option Place) → n ≢ name → NeverMade name (place_acts found (events.RecordTo c n))
begin_never name n c None other = tt
begin_never name n c (Some place) other = begun_never name n place.client place.recording other

event_never : (name : List ℕ) (kept : Kept) → HaveSlots kept.ends → (event : Event) → MakesOther name event → NeverMade name (event_acts kept event)
unfolding event_acts line_acts
event_never name kept have =
    by_kind (λ (event : Event). MakesOther name event → NeverMade name (event_acts kept event)) kept have
    (λ c other. line_stop_never name c (place_at kept.ends c)) (λ c n other. begin_never name n c (place_at kept.ends c) other) (λ event not happens other. happened (event_acts kept event) happens)
  where
    happened : {took : ℕ → Option (List ℕ)} {new : Ends} (acts : List FileAct) → Happens kept.ends new acts took → NeverMade name acts
    happened acts (inl takes) = subst (NeverMade name) (sym takes.does) (take_never name (place_at kept.ends takes.client) takes.bytes)
    happened acts (inr quiet) = subst (NeverMade name) (sym quiet.none) tt

ends_never : (name : List ℕ) (clients : List (Option Place)) → NeverMade name (flat_map stop_acts clients)
ends_never name [] = tt
ends_never name (found ∷ clients) =
    subst (NeverMade name) (sym (flat_map-cons stop_acts found clients)) (never_both name (stop_acts found) (flat_map stop_acts clients) (stop_never name found) (ends_never name clients))

rest_never : (name : List ℕ) (kept : Kept) (events : List Event) → HaveSlots kept.ends → AllByRecursion (MakesOther name) events → NeverMade name (acts_from kept events)
unfolding acts_from
rest_never name kept [] have others = ends_never name kept.ends.clients
rest_never name kept (event ∷ events) have others =
    let next = (kept_step kept event).kept in
    never_both name (event_acts kept event) (acts_from next events) (event_never name kept have event others.0) (rest_never name next events (have_slots kept event have) others.1)

spared_once : (name : List ℕ) (acts : List FileAct) → SparesAll name acts → MadeOnce name acts
spared_once name acts spares = subst (MadeOnce name) (append-nil acts) (once_after name acts [] spares tt)

-- a line names it, or doesn't
abbrev Names : List ℕ → Event → Type 0
Names name event = (c : ℕ) × (event ≡ events.RecordTo c name)

line_names : (name : List ℕ) (event : Event) → MakesOther name event ⊎ Names name event
line_names name (events.RecordTo c n) = elim (names_are n name) [
  | inl same ↦ inr (c, ap (λ (k : List ℕ). events.RecordTo c k) same)
  | inr ne ↦ inl ne
]
line_names name event = inl tt

-- one that names it makes it, or does nothing
begin_makes : (name : List ℕ) (c : ℕ) (ends : Ends) (found : Option Place) → place_at ends c ≡ found → Gone name ends
    → (place_acts found (events.RecordTo c name) ≡ Makes name ∷ []) ⊎ (Gone name (client_step_of ends c (events.RecordTo c name) found).ends × (place_acts found (events.RecordTo c name) ≡ []))
begin_makes name c ends None at gone = inr (gone, refl)
begin_makes name c ends (Some place) at gone = elim (cases_Bool (is_ok (begin_at place.client place.recording (new_recording name)).answer)) [
  | inl ok ↦ inl (begins_new name place.client place.recording ok).1
  | inr failed ↦
      let refused = begins_nothing name place.client place.recording failed in
      let now : Place = record place { recording = (begin_at place.client place.recording (new_recording name)).recording } in
      let unnamed : Unnamed name place.recording = subst (λ (found : Option Place). Unnamed name (recording_at found)) at (gone c) in
      let still = subst (Unnamed name) (sym (ap recording_at (there ends c place now at) ∙ refused.0)) unnamed in
      inr (gone_of name c (with_place ends c now) (apart_put name c ends now (λ d ne. gone d)) still, refused.1)
]

-- an event and those after it make it at most once, where these do if no recording is into it
abbrev MadeFrom : List ℕ → Kept → List Event → Event → Type 0
MadeFrom name kept left event =
    (Gone name (kept_step kept event).kept.ends → MadeOnce name (acts_from (kept_step kept event).kept left))
    → MadeOnce name (event_acts kept event ++ acts_from (kept_step kept event).kept left)

named_once : (name : List ℕ) (c : ℕ) (kept : Kept) (left : List Event) → HaveSlots kept.ends → Gone name kept.ends → AllByRecursion (MakesOther name) left
    → MadeFrom name kept left (events.RecordTo c name)
unfolding kept_step line_of event_acts line_acts
named_once name c kept left have gone others later =
    let next = (kept_step kept (events.RecordTo c name)).kept in
    let rest = acts_from next left in
    elim (begin_makes name c kept.ends (place_at kept.ends c) refl gone) [
      | inl makes ↦
          subst (λ (acts : List FileAct). MadeOnce name (acts ++ rest)) (sym makes)
          (inl (refl, rest_never name next left (have_slots kept (events.RecordTo c name) have) others))
      | inr nothing ↦ subst (λ (acts : List FileAct). MadeOnce name (acts ++ rest)) (sym nothing.1) (later nothing.0)
    ]

other_once : (name : List ℕ) (kept : Kept) (left : List Event) (event : Event) → HaveSlots kept.ends → Gone name kept.ends → MakesOther name event → MadeFrom name kept left event
other_once name kept left event have gone other later =
    let now = gone_on name kept have event other gone in
    once_after name (event_acts kept event) (acts_from (kept_step kept event).kept left) now.1 (later now.0)

event_once : (name : List ℕ) (kept : Kept) (left : List Event) (event : Event) → HaveSlots kept.ends → Gone name kept.ends → AllByRecursion (MakesOther name) left → MadeFrom name kept left event
event_once name kept left event have gone others = elim (line_names name event) [
  | inl other ↦ other_once name kept left event have gone other
  | inr named ↦ subst (MadeFrom name kept left) (sym named.1) (named_once name named.0 kept left have gone others)
]

once_from : (name : List ℕ) (kept : Kept) (events : List Event) → HaveSlots kept.ends → Gone name kept.ends → NamesOnce name events → MadeOnce name (acts_from kept events)
unfolding acts_from
once_from name kept [] have gone once = spared_once name (ending_acts kept.ends) (ends_gone name kept.ends.clients gone)
once_from name kept (event ∷ events) have gone (inl other) =
    other_once name kept events event have gone other.0 (λ now. once_from name (kept_step kept event).kept events (have_slots kept event have) now other.1)
once_from name kept (event ∷ events) have gone (inr others) =
    event_once name kept events event have gone others (λ now. once_from name (kept_step kept event).kept events (have_slots kept event have) now (once_of name events others))

opening_slots : (profile : Profile) → HaveSlots (opening_kept profile).ends
opening_slots profile d is = absurd (somebody (place_at (opening_kept profile).ends d) (nobody_yet profile d) is)
  where
    somebody : (found : Option Place) → found ≡ None → is_some found ≡ true → ⊥
    somebody None at is = absurd cc
    somebody (Some place) at is = absurd cc

opening_gone : (name : List ℕ) (profile : Profile) → Gone name (opening_kept profile).ends
opening_gone name profile d = subst (λ (found : Option Place). Unnamed name (recording_at found)) (sym (nobody_yet profile d)) tt

pub replay_leaves_front : ReplayLeavesFront
replay_leaves_front profile events name told now once ends =
    let kept = opening_kept profile in
    front_is_left told now name (acts_from kept events) (once_from name kept events (opening_slots profile) (opening_gone name profile) once) ends

-- ---- a client's node

line_never : (name : List ℕ) (event : Event) → MakesOther name event → (end : ClientEnd) (number : ℕ) → NeverMade name (line_done end event number).acts
line_never name =
    by_line (λ (event : Event). MakesOther name event → (end : ClientEnd) (number : ℕ) → NeverMade name (line_done end event number).acts)
    (λ c n other end number. begun_never name n end.client end.recording other) (λ c other end number. stopped_never name end.recording)
    (λ ms other end number. stopped_never name end.recording) (λ event plain other end number. subst (NeverMade name) (sym (plain.none end number)) tt)

arrival_never : (name : List ℕ) (end : ClientEnd) (parcel : Parcel) → NeverMade name (arrived end parcel).acts
arrival_never name end parcel =
    cond_both (is_address parcel.address end.server) (took end parcel.bytes) (record { end = end; answer = Untaken Arrive (Stranger end.c); acts = [] })
    (λ (now : Arrived ClientEnd). NeverMade name now.acts) (λ from. taken_never name end.recording end.client (take_at end.client parcel.bytes)) (λ not. tt)

turn_never : (name : List ℕ) (node : Node ClientEnd) (line : Option Event) (found : Option Parcel) → OtherLine name line → NeverMade name (turn_of client_rules node line found).turn.acts
turn_never name node (Some event) found other = line_never name event other node.end (node.made + 1)
turn_never name node None None other = tt
turn_never name node None (Some parcel) other = arrival_never name node.end (cut_to_room parcel)

-- the acts of a turn, and of those after it, which there are unless the node ended
turn_and_rest : (P : List FileAct → Type 0) (turn : Turn) (rest : List Turn) → P (turn.acts ++ []) → P (turn.acts ++ acts_of rest)
    → P (acts_of (turn ∷ (if turn.ended then [] else rest)))
turn_and_rest P turn rest last more =
    let others : List Turn = if turn.ended then [] else rest in
    subst P (sym (flat_map-cons (λ (one : Turn). one.acts) turn others))
    (cond_both turn.ended [] rest (λ (turns : List Turn). P (turn.acts ++ acts_of turns)) (λ ends. last) (λ goes. more))

turns_never : (name : List ℕ) (count : ℕ) (node : Node ClientEnd) (readings : List ℕ) (arrivals : List (Option Parcel)) → AllByRecursion (MakesOther name) node.left
    → NeverMade name (acts_of (turns_of count client_rules node readings arrivals))
unfolding turns_of
turns_never name zero node readings arrivals others = tt
turns_never name (suc count) node readings arrivals others =
    let line = line_at node (reading_of readings) in
    let now = turn_at client_rules node (reading_of readings) (next_of arrivals) in
    let from = due_others name node.time (reading_of readings - start_at node.start (reading_of readings)) node.left others in
    let never = turn_never name (started node readings) line (next_of arrivals) (other_line name line node.left from) in
    let left = others_left name (started node readings) line (next_of arrivals) from in
    let later = readings_after readings in
    let more = arrivals_after now.turn arrivals in
    let rest = turns_of count client_rules now.node later more in
    turn_and_rest (NeverMade name) now.turn rest (never_both name now.turn.acts [] never tt)
    (never_both name now.turn.acts (acts_of rest) never (turns_never name count now.node later more left))

once_turns : (name : List ℕ) (count : ℕ) (node : Node ClientEnd) (readings : List ℕ) (arrivals : List (Option Parcel)) → NamesOnce name node.left → Unnamed name node.end.recording
    → MadeOnce name (acts_of (turns_of count client_rules node readings arrivals))
unfolding turns_of
once_turns name zero node readings arrivals once unnamed = tt
once_turns name (suc count) node readings arrivals once unnamed =
    let line = line_at node (reading_of readings) in
    let now = turn_at client_rules node (reading_of readings) (next_of arrivals) in
    let from = due_once name node.time (reading_of readings - start_at node.start (reading_of readings)) node.left once in
    let later = readings_after readings in
    let more = arrivals_after now.turn arrivals in
    let rest = turns_of count client_rules now.node later more in
    elim (starts name (started node readings) line (next_of arrivals) unnamed from) [
      | inl begins ↦
          turn_and_rest (MadeOnce name) now.turn rest (subst (λ (acts : List FileAct). MadeOnce name (acts ++ [])) (sym begins.makes) (inl (refl, tt)))
          (subst (λ (acts : List FileAct). MadeOnce name (acts ++ acts_of rest)) (sym begins.makes) (inl (refl, turns_never name count now.node later more begins.others)))
      | inr before ↦
          turn_and_rest (MadeOnce name) now.turn rest (once_after name now.turn.acts [] before.spares tt)
          (once_after name now.turn.acts (acts_of rest) before.spares (once_turns name count now.node later more before.once before.unnamed))
    ]

pub node_leaves_front : NodeLeavesFront
node_leaves_front count end events readings arrivals name told now none once ends =
    let node = new_node end events in
    front_is_left told now name (acts_of (turns_of count client_rules node readings arrivals))
    (once_turns name count node readings arrivals once (subst (Unnamed name) (sym none) tt)) ends
