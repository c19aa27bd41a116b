-- Recordings into the file of a name, and into others.
use Rattle.std.proofs.Common.{◌≡◌, ◌≢◌, ℕ, List, [], ◌∷◌, ◌++◌, Option, Some, None, Result, Ok, Err, true, false, refl, sym, ap, subst, ◌∙◌, inl, inr}
use Rattle.std.specs.Prelude.{◌⊎◌, if◌then◌else◌, Bool}
use Rattle.std.specs.Result.{is_ok}
use Rattle.std.proofs.lemmas.Bool.{cases_eq, cond_both}
use Rattle.std.proofs.lemmas.List.{append-nil, get_or-set_other}
use Rattle.q3_io.specs.Acts.{FileAct, Makes, after_acts}
use Rattle.q3_io.specs.Told.{Told, contents_of}
use Rattle.q3_client.specs.Client.{ClientState, Taken, take_at}
use Rattle.q3_client.specs.declared.client.ClientTook.{ClientTook}
use Rattle.q3_client.specs.declared.client.ClientTook.TheVariants.{Applied}
use Rattle.q3_report.specs.declared.answer.Front.{Front}
use Rattle.q3_report.specs.declared.answer.RecordRefused.{RecordRefused}
use Rattle.q3_report.specs.declared.answer.RecordRefused.TheVariants.{NoGame}
use Rattle.q3_demo.specs.declared.recorder.Stage.{Stage}
use Rattle.q3_demo.specs.declared.recorder.Stage.TheVariants.{Waits, Runs, Ended}
use Rattle.q3_demo.specs.Recording.{Noted, closing, noted_from}
use Rattle.q3_ends.specs.Recording.{RecordingState, RecordingStep, RecorderTook, RecordingTook, begin_at, begin_new, extends, is_ended, new_recording, note_taken, recorder_took, stop_at}
use Rattle.q3_world.specs.declared.places.Place.{Place}
use Rattle.q3_script.specs.declared.event.Event.TheVariants as events
use Rattle.q3_world.specs.Ends.{Ends, client_step_of, client_takes, place_at, recording_at, with_place}
use Rattle.q3_world.specs.Files.{place_acts, take_acts}
use Rattle.q3_world.proofs.Filing.{SameRecordings}
use Rattle.q3_schedules.specs.Recorded.{noted_at, noted_of}
use Rattle.q3_schedules.proofs.NamedFiles.{SparesAll, extended, spared, spares_extended}
use Rattle.q3_schedules.proofs.SlotsStay.{there}

-- a recording, if one goes on, is into another file
abbrev pub Unnamed : List ℕ → Option RecordingState → Type 0
Unnamed name None = Unit {0}
Unnamed name (Some going) = going.name ≢ name

-- no recording is into the file of a name; or none but that of one client; or that one is, and is so far
abbrev pub Gone : List ℕ → Ends → Type 0
Gone name ends = (d : ℕ) → Unnamed name (recording_at (place_at ends d))

abbrev pub Apart : List ℕ → ℕ → Ends → Type 0
Apart name c ends = (d : ℕ) → d ≢ c → Unnamed name (recording_at (place_at ends d))

pub record Goes (name : List ℕ) (c : ℕ) (stage : Stage) (ends : Ends) : Type 0 where
  pub going : recording_at (place_at ends c) ≡ Some (record { name = name; stage = stage })
  pub apart : Apart name c ends

-- ---- what is done at one place

-- a recording into another file stays so, and nothing is done to the file
abbrev pub StaysApart : List ℕ → Option RecordingState → Option RecordingState → List FileAct → Type 0
StaysApart name before now acts = Unnamed name before → Unnamed name now × SparesAll name acts

pub stops_one : (name : List ℕ) (recording : Option RecordingState) → StaysApart name recording (stop_at recording).recording (stop_at recording).acts
stops_one name None unnamed = (tt, tt)
stops_one name (Some going) unnamed = (tt, spares_extended name going.name (closing going.stage) unnamed)

pub begins_one : (name n : List ℕ) (client : ClientState) (recording : Option RecordingState) → n ≢ name
    → StaysApart name recording (begin_at client recording (new_recording n)).recording (begin_at client recording (new_recording n)).acts
begins_one name n client recording ne =
    cond_both client.state.has_game (begin_new recording (new_recording n)) (record { recording = recording; answer = Err NoGame; acts = [] })
    (λ (step : RecordingStep RecordRefused). StaysApart name recording step.recording step.acts) (λ has. new recording) (λ not unnamed. (unnamed, tt))
  where
    new : (recording : Option RecordingState) → StaysApart name recording (begin_new recording (new_recording n)).recording (begin_new recording (new_recording n)).acts
    new None unnamed = (ne, (ne, tt))
    new (Some going) unnamed = (unnamed, tt)

pub takes_one : (name : List ℕ) (client : ClientState) (taken : Taken) (recording : Option RecordingState)
    → StaysApart name recording (note_taken recording client taken).recording (note_taken recording client taken).acts
takes_one name client taken None unnamed = (tt, tt)
takes_one name client taken (Some going) unnamed =
    let took = recorder_took going.stage client taken taken.answer in (
      cond_both took.ended None (Some (record going { stage = took.stage })) (λ (r : Option RecordingState). Unnamed name r) (λ ended. tt) (λ goes. unnamed),
      spares_extended name going.name took.bytes unnamed,
    )

-- ---- one recording into the file

-- it goes on, or has ended by itself
abbrev pub SoFar : List ℕ → Stage → Option RecordingState → Type 0
SoFar name stage recording = (recording ≡ Some (record { name = name; stage = stage })) ⊎ ((stage ≡ Ended) × Unnamed name recording)

-- the file gets bytes
abbrev pub Gets : List ℕ → List ℕ → List FileAct → Type 0
Gets name more acts = (told : Told) (bytes : List ℕ) → contents_of told.files name ≡ Some bytes → contents_of (after_acts told acts).files name ≡ Some (bytes ++ more)

pub gets_nothing : (name : List ℕ) (acts : List FileAct) → SparesAll name acts → Gets name [] acts
gets_nothing name acts spares told bytes is = spared told name acts spares ∙ (is ∙ ap (λ (b : List ℕ). Some b) (sym (append-nil bytes)))

-- what it takes is noted as the messages are that it applies
record Notes (stage : Stage) (notes : List Noted) (took : RecorderTook) : Type 0 where
  pub stages : took.stage ≡ (noted_from stage notes).stage
  pub bytes : took.bytes ≡ (noted_from stage notes).bytes
  pub over : took.ended ≡ true → took.stage ≡ Ended

over_ended : (stage : Stage) → is_ended stage ≡ true → stage ≡ Ended
over_ended Ended is = refl
over_ended Waits is = absurd cc
over_ended (Runs first) is = absurd cc

notes_of : (stage : Stage) (client : ClientState) (taken : Taken) (answer : ClientTook) → Notes stage (noted_of client taken answer) (recorder_took stage client taken answer)
unfolding noted_from
notes_of stage client taken (Applied applied) = record {
  stages = refl;
  bytes = sym (append-nil (recorder_took stage client taken (Applied applied)).bytes);
  over = over_ended (recorder_took stage client taken (Applied applied)).stage;
}
notes_of stage client taken other = record { stages = refl; bytes = refl; over = λ ended. absurd cc }

-- the file gets what is noted, and the recording is so far
pub record OneGoesOn (name : List ℕ) (stage : Stage) (notes : List Noted) (now : Option RecordingState) (acts : List FileAct) : Type 0 where
  pub so_far : SoFar name (noted_from stage notes).stage now
  pub adds : Gets name (noted_from stage notes).bytes acts

pub one_stays : (name : List ℕ) (stage : Stage) (now : Option RecordingState) (acts : List FileAct) → now ≡ Some (record { name = name; stage = stage }) → SparesAll name acts
    → OneGoesOn name stage [] now acts
unfolding noted_from
one_stays name stage now acts going spares = record { so_far = inl going; adds = gets_nothing name acts spares }

pub takes_going : (name : List ℕ) (stage : Stage) (client : ClientState) (taken : Taken) (recording : Option RecordingState) → recording ≡ Some (record { name = name; stage = stage })
    → OneGoesOn name stage (noted_of client taken taken.answer) (note_taken recording client taken).recording (note_taken recording client taken).acts
takes_going name stage client taken recording going =
    let took = recorder_took stage client taken taken.answer in
    let facts = notes_of stage client taken taken.answer in
    let noted_is = ap (λ (r : Option RecordingState). note_taken r client taken) going in
    record {
      so_far = subst (λ (s : Stage). SoFar name s (note_taken recording client taken).recording) facts.stages
          (goes_or_ended took.stage took.ended (note_taken recording client taken).recording (ap (λ (n : RecordingTook). n.recording) noted_is) facts.over);
      adds = λ told before is.
          ap (λ (acts : List FileAct). contents_of (after_acts told acts).files name) (ap (λ (n : RecordingTook). n.acts) noted_is)
          ∙ (extended told name before took.bytes is ∙ ap (λ (b : List ℕ). Some (before ++ b)) facts.bytes);
    }
  where
    goes_or_ended : (stage : Stage) (ended : Bool) (now : Option RecordingState) → now ≡ (if ended then None else Some (record { name = name; stage = stage }))
        → (ended ≡ true → stage ≡ Ended) → SoFar name stage now
    goes_or_ended stage true now is over = inr (over refl, subst (Unnamed name) (sym is) tt)
    goes_or_ended stage false now is over = inl is

-- it is stopped
pub stops_going : (name : List ℕ) (stage : Stage) (recording : Option RecordingState) → recording ≡ Some (record { name = name; stage = stage })
    → Unnamed name (stop_at recording).recording × ((stop_at recording).acts ≡ extends name (closing stage))
stops_going name stage recording going = (
  subst (Unnamed name) (sym (ap (λ (r : Option RecordingState). (stop_at r).recording) going)) tt,
  ap (λ (r : Option RecordingState). (stop_at r).acts) going,
)

-- a line that would begin another is refused
pub refuses_going : (n : List ℕ) (client : ClientState) (recording : Option RecordingState) (going : RecordingState) → recording ≡ Some going
    → ((begin_at client recording (new_recording n)).recording ≡ Some going) × ((begin_at client recording (new_recording n)).acts ≡ [])
refuses_going n client recording going is =
    cond_both client.state.has_game (begin_new recording (new_recording n)) (record { recording = recording; answer = Err NoGame; acts = [] })
    (λ (step : RecordingStep RecordRefused). (step.recording ≡ Some going) × (step.acts ≡ [])) (λ has. rw is (refl, refl)) (λ not. (is, refl))

-- it begins where the line is answered so, and else nothing is done
pub begins_new : (name : List ℕ) (client : ClientState) (recording : Option RecordingState) → is_ok (begin_at client recording (new_recording name)).answer ≡ true
    → ((begin_at client recording (new_recording name)).recording ≡ Some (new_recording name)) × ((begin_at client recording (new_recording name)).acts ≡ Makes name ∷ [])
begins_new name client recording =
    cond_both client.state.has_game (begin_new recording (new_recording name)) (record { recording = recording; answer = Err NoGame; acts = [] })
    (λ (step : RecordingStep RecordRefused). is_ok step.answer ≡ true → (step.recording ≡ Some (new_recording name)) × (step.acts ≡ Makes name ∷ []))
    (λ has. new recording) (λ not ok. absurd (cc))
  where
    new : (recording : Option RecordingState) → is_ok (begin_new recording (new_recording name)).answer ≡ true
        → ((begin_new recording (new_recording name)).recording ≡ Some (new_recording name)) × ((begin_new recording (new_recording name)).acts ≡ Makes name ∷ [])
    new None ok = (refl, refl)
    new (Some going) ok = absurd (cc)

pub begins_nothing : (n : List ℕ) (client : ClientState) (recording : Option RecordingState) → is_ok (begin_at client recording (new_recording n)).answer ≡ false
    → ((begin_at client recording (new_recording n)).recording ≡ recording) × ((begin_at client recording (new_recording n)).acts ≡ [])
begins_nothing n client recording =
    cond_both client.state.has_game (begin_new recording (new_recording n)) (record { recording = recording; answer = Err NoGame; acts = [] })
    (λ (step : RecordingStep RecordRefused). is_ok step.answer ≡ false → (step.recording ≡ recording) × (step.acts ≡ []))
    (λ has. new recording) (λ not failed. (refl, refl))
  where
    new : (recording : Option RecordingState) → is_ok (begin_new recording (new_recording n)).answer ≡ false
        → ((begin_new recording (new_recording n)).recording ≡ recording) × ((begin_new recording (new_recording n)).acts ≡ [])
    new None failed = absurd (cc)
    new (Some going) failed = (refl, refl)

-- ---- the place of one client

-- the recording of one client alone may change, and one into another file stays so
pub record AtOne (name : List ℕ) (d : ℕ) (old new : Ends) (acts : List FileAct) : Type 0 where
  pub others : (k : ℕ) → k ≢ d → recording_at (place_at new k) ≡ recording_at (place_at old k)
  pub one : StaysApart name (recording_at (place_at old d)) (recording_at (place_at new d)) acts

pub at_same : (name : List ℕ) (d : ℕ) (old new : Ends) → SameRecordings old new → AtOne name d old new []
at_same name d old new same = record { others = λ k ne. same k; one = λ unnamed. (subst (Unnamed name) (sym (same d)) unnamed, tt) }

at_put : (name : List ℕ) (d : ℕ) (ends : Ends) (place now : Place) (acts : List FileAct) → place_at ends d ≡ Some place → StaysApart name place.recording now.recording acts
    → AtOne name d ends (with_place ends d now) acts
at_put name d ends place now acts at stays = record {
  others = λ k ne. rw (get_or-set_other ends.clients d k (Some now) None ne) refl;
  one = λ unnamed.
      let after = stays (subst (λ (found : Option Place). Unnamed name (recording_at found)) at unnamed) in
      (subst (λ (found : Option Place). Unnamed name (recording_at found)) (sym (there ends d place now at)) after.0, after.1);
}

pub stops_at : (name : List ℕ) (d : ℕ) (ends : Ends) (found : Option Place) → place_at ends d ≡ found → AtOne name d ends (client_step_of ends d (events.Stop d) found).ends (place_acts found (events.Stop d))
stops_at name d ends None at = at_same name d ends ends (λ k. refl)
stops_at name d ends (Some place) at =
    at_put name d ends place (record place { recording = (stop_at place.recording).recording }) (stop_at place.recording).acts at (stops_one name place.recording)

pub begins_at : (name n : List ℕ) (d : ℕ) (ends : Ends) (found : Option Place) → n ≢ name → place_at ends d ≡ found → AtOne name d ends (client_step_of ends d (events.RecordTo d n) found).ends (place_acts found (events.RecordTo d n))
begins_at name n d ends None ne at = at_same name d ends ends (λ k. refl)
begins_at name n d ends (Some place) ne at =
    let begun = begin_at place.client place.recording (new_recording n) in
    at_put name d ends place (record place { recording = begun.recording }) begun.acts at (begins_one name n place.client place.recording ne)

pub takes_at : (name : List ℕ) (d : ℕ) (ends : Ends) (front : Front) (bytes : List ℕ) (found : Option Place) → place_at ends d ≡ found
    → AtOne name d ends (client_takes ends d front bytes found).ends (take_acts found bytes)
takes_at name d ends front bytes None at = at_same name d ends ends (λ k. refl)
takes_at name d ends front bytes (Some place) at =
    let taken = take_at place.client bytes in
    let noted = note_taken place.recording place.client taken in
    at_put name d ends place (record place { client = taken.client; recording = noted.recording }) noted.acts at (takes_one name place.client taken place.recording)

-- ---- where the file has no recording, or another client's

pub gone_at : (name : List ℕ) (d : ℕ) (old new : Ends) (acts : List FileAct) → AtOne name d old new acts → Gone name old → Gone name new × SparesAll name acts
gone_at name d old new acts at gone = (
  λ k. elim (cases_eq k d) [
    | inl same ↦ subst (λ (j : ℕ). Unnamed name (recording_at (place_at new j))) (sym same) (at.one (gone d)).0
    | inr not ↦ subst (Unnamed name) (sym (at.others k not)) (gone k)
  ],
  (at.one (gone d)).1,
)

apart_at : (name : List ℕ) (c d : ℕ) (old new : Ends) (acts : List FileAct) → AtOne name d old new acts → Apart name c old → Apart name c new
apart_at name c d old new acts at apart = λ k ne. elim (cases_eq k d) [
  | inl same ↦
      subst (λ (j : ℕ). Unnamed name (recording_at (place_at new j))) (sym same)
      (at.one (apart d (λ is. ne (same ∙ is)))).0
  | inr not ↦ subst (Unnamed name) (sym (at.others k not)) (apart k ne)
]

pub goes_at : (name : List ℕ) (c d : ℕ) (stage : Stage) (old new : Ends) (acts : List FileAct) → d ≢ c → AtOne name d old new acts → Goes name c stage old
    → Goes name c stage new × SparesAll name acts
goes_at name c d stage old new acts ne at goes = (
  record { going = at.others c (λ same. ne (sym same)) ∙ goes.going; apart = apart_at name c d old new acts at goes.apart },
  (at.one (goes.apart d ne)).1,
)

-- ---- the client whose recording it is

-- where its recording is now another, or none
pub gone_of : (name : List ℕ) (c : ℕ) (ends : Ends) → Apart name c ends → Unnamed name (recording_at (place_at ends c)) → Gone name ends
gone_of name c ends apart here = λ d. elim (cases_eq d c) [
  | inl same ↦ subst (λ (j : ℕ). Unnamed name (recording_at (place_at ends j))) (sym same) here
  | inr not ↦ apart d not
]

-- it goes on, or has ended by itself
abbrev pub IsSoFar : List ℕ → ℕ → Stage → Ends → Type 0
IsSoFar name c stage ends = Goes name c stage ends ⊎ ((stage ≡ Ended) × Gone name ends)

pub apart_put : (name : List ℕ) (c : ℕ) (ends : Ends) (now : Place) → Apart name c ends → Apart name c (with_place ends c now)
apart_put name c ends now apart = λ d ne. rw (get_or-set_other ends.clients c d (Some now) None ne) (apart d ne)

put_so_far : (name : List ℕ) (c : ℕ) (stage : Stage) (ends : Ends) (place now : Place) → place_at ends c ≡ Some place → Apart name c ends → SoFar name stage now.recording
    → IsSoFar name c stage (with_place ends c now)
put_so_far name c stage ends place now at apart (inl is) = inl (record { going = ap recording_at (there ends c place now at) ∙ is; apart = apart_put name c ends now apart })
put_so_far name c stage ends place now at apart (inr over) = inr (
  over.0,
  gone_of name c (with_place ends c now) (apart_put name c ends now apart) (subst (Unnamed name) (sym (ap recording_at (there ends c place now at))) over.1),
)

pub nobody : (going : RecordingState) (found : Option RecordingState) → found ≡ None → found ≡ Some going → ⊥
nobody going None none some = absurd cc
nobody going (Some other) none some = absurd cc

-- the file gets what is noted, and the recording is so far
pub record GoesOn (name : List ℕ) (c : ℕ) (stage : Stage) (notes : List Noted) (new : Ends) (acts : List FileAct) : Type 0 where
  pub so_far : IsSoFar name c (noted_from stage notes).stage new
  pub adds : Gets name (noted_from stage notes).bytes acts

pub takes_named : (name : List ℕ) (c : ℕ) (stage : Stage) (ends : Ends) (front : Front) (bytes : List ℕ) (found : Option Place) → place_at ends c ≡ found → Goes name c stage ends
    → GoesOn name c stage (noted_at found (Some bytes)) (client_takes ends c front bytes found).ends (take_acts found bytes)
takes_named name c stage ends front bytes None at goes = absurd (nobody (record { name = name; stage = stage }) (recording_at (place_at ends c)) (ap recording_at at) goes.going)
takes_named name c stage ends front bytes (Some place) at goes =
    let taken = take_at place.client bytes in
    let going : place.recording ≡ Some (record { name = name; stage = stage }) = ap recording_at (sym at) ∙ goes.going in
    let one = takes_going name stage place.client taken place.recording going in
    let now : Place = record place { client = taken.client; recording = (note_taken place.recording place.client taken).recording } in
    record {
      so_far = put_so_far name c (noted_from stage (noted_of place.client taken taken.answer)).stage ends place now at goes.apart one.so_far;
      adds = one.adds;
    }

-- it is stopped
pub stops_named : (name : List ℕ) (c : ℕ) (stage : Stage) (ends : Ends) (found : Option Place) → place_at ends c ≡ found → Goes name c stage ends
    → Gone name (client_step_of ends c (events.Stop c) found).ends × (place_acts found (events.Stop c) ≡ extends name (closing stage))
stops_named name c stage ends None at goes = absurd (nobody (record { name = name; stage = stage }) (recording_at (place_at ends c)) (ap recording_at at) goes.going)
stops_named name c stage ends (Some place) at goes =
    let going : place.recording ≡ Some (record { name = name; stage = stage }) = ap recording_at (sym at) ∙ goes.going in
    let stopped = stops_going name stage place.recording going in
    let now : Place = record place { recording = (stop_at place.recording).recording } in (
      gone_of name c (with_place ends c now) (apart_put name c ends now goes.apart) (subst (Unnamed name) (sym (ap recording_at (there ends c place now at))) stopped.0),
      stopped.1,
    )

-- a line that would begin another is refused
pub begins_named : (name n : List ℕ) (c : ℕ) (stage : Stage) (ends : Ends) (found : Option Place) → place_at ends c ≡ found → Goes name c stage ends
    → Goes name c stage (client_step_of ends c (events.RecordTo c n) found).ends × (place_acts found (events.RecordTo c n) ≡ [])
begins_named name n c stage ends None at goes = (goes, refl)
begins_named name n c stage ends (Some place) at goes =
    let going : place.recording ≡ Some (record { name = name; stage = stage }) = ap recording_at (sym at) ∙ goes.going in
    let begun = begin_at place.client place.recording (new_recording n) in
    let now : Place = record place { recording = begun.recording } in
    let refused = refuses_going n place.client place.recording (record { name = name; stage = stage }) going in (
      record { going = ap recording_at (there ends c place now at) ∙ refused.0; apart = apart_put name c ends now goes.apart },
      refused.1,
    )

-- it begins where the line is answered so
pub begun_named : (name : List ℕ) (c : ℕ) (ends : Ends) (place : Place) → place_at ends c ≡ Some place → Gone name ends
    → (begin_at place.client place.recording (new_recording name)).answer ≡ Ok tt
    → Goes name c Waits (client_step_of ends c (events.RecordTo c name) (Some place)).ends × (place_acts (Some place) (events.RecordTo c name) ≡ Makes name ∷ [])
begun_named name c ends place at gone ok =
    let begun = begin_at place.client place.recording (new_recording name) in
    let now : Place = record place { recording = begun.recording } in
    let is = begins_new name place.client place.recording (ap (λ (answer : Result (Unit {0}) RecordRefused). is_ok answer) ok) in (
      record { going = ap recording_at (there ends c place now at) ∙ is.0; apart = apart_put name c ends now (λ d ne. gone d) },
      is.1,
    )
