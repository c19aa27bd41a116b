-- What calls do to files, and which numbers stand for the files of recordings.
use Rattle.std.proofs.Common.{◌≡◌, ◌≢◌, ℕ, ◌<◌, ◌≤◌, List, [], length, get_or, set, Option, Some, None, Result, Ok, Err, refl, sym, subst, ◌∙◌, inl, inr, arith}
use Rattle.std.specs.Prelude.{IfSome, IsSome, is_some, true, IsErrOf, ◌⊎◌, nat_lt, slice_get, slice_index}
use Rattle.std.proofs.lemmas.Bool.{cases_Bool, cases_eq, ltb-false, ltb-true}
use Rattle.std.proofs.lemmas.Option.{slice_get_cases}
use Rattle.std.proofs.Math.ListN.{get_or-eq_default}
use Rattle.std.proofs.Math.Seq.{set_out}
use Rattle.std.proofs.lemmas.List.{get_or_default, get_or-set_other, get_or-set_same}
use Rattle.q3_io.specs.Told.{Told}
use Rattle.q3_profile.specs.declared.profile.Profile.{Profile}
use Rattle.q3_io.specs.declared.address.Address.{Address}
use Rattle.q3_script.specs.declared.event.Event.{Event}
use Rattle.q3_script.specs.declared.event.Event.TheVariants as events
use Rattle.q3_script.specs.Grammar.{IsReplayEvent}
use Rattle.q3_client.specs.Client.{new_client}
use Rattle.q3_client.specs.Sending as speaks
use Rattle.q3_server.specs.declared.server.SlotError.{SlotError}
use Rattle.q3_report.specs.declared.answer.Front.TheVariants as fronts
use Rattle.q3_world.specs.declared.made.Direction.TheVariants.{ToClient, ToServer}
use Rattle.q3_ends.specs.ClientLine.{client_line, client_named, fresh_of, client_after, recording_after, acts_in}
use Rattle.q3_ends.specs.AtServer.{ServerStep, server_line}
use Rattle.q3_world.specs.Kept.{Kept, SentBytes, deliver_at, kept_send}
use Rattle.q3_server.specs.Server.{ServerState, add_client_at, places}
use Rattle.q3_ends.specs.Recording.{RecordingState, asking, HasFile, StandsForName, stop_at}
use Rattle.q3_ends.proofs.Files.{writes_nothing}
use Rattle.q3_world.specs.declared.places.Place.{Place}
use Rattle.q3_world.specs.declared.told.StepError.{StepError}
use Rattle.q3_world.specs.declared.told.StepError.TheVariants.{NoMemory, WriteFault, FileFault}
use Rattle.q3_world.specs.Ends.{Ends, place_at, recording_at, with_place, client_step_of, client_takes, game_step, hand_server_of, join, joined, line_of, client_or_game_step, server_takes, set_port_of, step_in}
use Rattle.q3_io.specs.Written.{Written}
use Rattle.q3_counts.specs.declared.counts.Counts.{Counts}
use Rattle.q3_world.specs.Counting.{Counting}
use Rattle.q3_world.specs.Doing.{EndsDo, LeavesRecordings, Tells}
use Rattle.q3_world.specs.Ends.{EndsStep}
use Rattle.q3_world.specs.Files.{AreNumbered, DoesFiles, place_acts, line_acts, client_or_game_acts, deliver_acts, take_acts}
use Rattle.q3_world.specs.Outcome.{TakesMemory}
use Rattle.q3_world.proofs.OnePlace.{set_there}

-- nothing is done
pub does_nothing : (told : Option Told) (given faults write_faults : ℕ) (result : Result (Unit {0}) StepError) → (IsErrOf result FileFault → ⊥)
    → DoesFiles told told given given faults faults write_faults write_faults [] result
does_nothing told given faults write_faults (Ok x) not = writes_nothing told given faults write_faults
does_nothing told given faults write_faults (Err NoMemory) not = writes_nothing told given faults write_faults
does_nothing told given faults write_faults (Err WriteFault) not = writes_nothing told given faults write_faults
does_nothing told given faults write_faults (Err FileFault) not = absurd (not refl)

-- the names that numbers stand for stay
abbrev pub KeepsNames : Option Told → Option Told → ℕ → Type 0
KeepsNames told now given = (file : ℕ) (name : List ℕ) → file < given → StandsForName told file name → StandsForName now file name

-- so a recording keeps its file
pub keeps_file : (told now : Option Told) (given behind file : ℕ) (recording : Option RecordingState) → KeepsNames told now given → given ≤ behind → HasFile told given file recording
    → HasFile now behind file recording
keeps_file told now given behind file None names le has = tt
keeps_file told now given behind file (Some recording) names le has = let lt = has.0 in (omega (arith, lt, le), names file recording.name has.0 has.1)

-- one client's recording changes, or its number, or both
pub numbered_at : (told now : Option Told) (given behind c : ℕ) (numbers after : List ℕ) (old new : Ends) → KeepsNames told now given → given ≤ behind
    → ((d : ℕ) → d ≢ c → slice_index after d ≡ slice_index numbers d) → ((d : ℕ) → d ≢ c → recording_at (place_at new d) ≡ recording_at (place_at old d))
    → HasFile now behind (slice_index after c) (recording_at (place_at new c)) → AreNumbered told given numbers old → AreNumbered now behind after new
numbered_at told now given behind c numbers after old new names le same others here numbered = λ d lt. elim (cases_eq d c) [
  | inl is ↦ subst (λ (k : ℕ). HasFile now behind (slice_index after k) (recording_at (place_at new k))) (sym is) here
  | inr not ↦
      let kept = keeps_file told now given behind (slice_index numbers d) (recording_at (place_at old d)) names le (numbered d lt) in
      subst (λ (r : Option RecordingState). HasFile now behind (slice_index after d) r) (sym (others d not))
      (subst (λ (file : ℕ). HasFile now behind file (recording_at (place_at old d))) (sym (same d not)) kept)
]

-- a client's place changes
pub numbered_put : (told now : Option Told) (given behind c : ℕ) (numbers : List ℕ) (ends : Ends) (place : Place) → KeepsNames told now given → given ≤ behind → c < places
    → length ends.clients ≡ places → HasFile now behind (slice_index numbers c) place.recording → AreNumbered told given numbers ends → AreNumbered now behind numbers (with_place ends c place)
numbered_put told now given behind c numbers ends place names le lt count has numbered =
    numbered_at told now given behind c numbers numbers ends (with_place ends c place) names le (λ d not. refl)
    (λ d not. ap_recording (get_or-set_other ends.clients c d (Some place) None not))
    (subst (λ (found : Option Place). HasFile now behind (slice_index numbers c) (recording_at found)) (sym (set_there ends.clients c None (Some place) count lt)) has) numbered
  where
    ap_recording : {one other : Option Place} → one ≡ other → recording_at one ≡ recording_at other
    ap_recording is = rw is refl

-- and the number of its file
pub numbered_new : (told now : Option Told) (given behind c number : ℕ) (numbers : List ℕ) (ends : Ends) (place : Place) → KeepsNames told now given → given ≤ behind → c < places
    → length numbers ≡ 16 → length ends.clients ≡ places → HasFile now behind number place.recording → AreNumbered told given numbers ends
    → AreNumbered now behind (set numbers c number) (with_place ends c place)
numbered_new told now given behind c number numbers ends place names le lt room count has numbered =
    numbered_at told now given behind c numbers (set numbers c number) ends (with_place ends c place) names le (λ d not. get_or-set_other numbers c d number 0 not)
    (λ d not. ap_recording (get_or-set_other ends.clients c d (Some place) None not))
    (subst (λ (found : Option Place). HasFile now behind (slice_index (set numbers c number) c) (recording_at found)) (sym (set_there ends.clients c None (Some place) count lt))
    (subst (λ (file : ℕ). HasFile now behind file place.recording) (sym (get_or-set_same numbers c number 0 (omega (arith, lt, room)))) has)) numbered
  where
    ap_recording : {one other : Option Place} → one ≡ other → recording_at one ≡ recording_at other
    ap_recording is = rw is refl

-- nobody is at a place
pub numbered_gone : (told : Option Told) (given c : ℕ) (numbers : List ℕ) (ends : Ends) (found : Option Place) → found ≡ None → c < places → length ends.clients ≡ places
    → AreNumbered told given numbers ends → AreNumbered told given numbers (record ends { clients = set ends.clients c found })
numbered_gone told given c numbers ends found gone lt count numbered =
    numbered_at told told given given c numbers numbers ends (record ends { clients = set ends.clients c found }) (λ file name lt is. is) (omega arith) (λ d not. refl)
    (λ d not. rw (get_or-set_other ends.clients c d found None not) refl)
    (subst (λ (there : Option Place). HasFile told given (slice_index numbers c) (recording_at there)) (sym (set_there ends.clients c None found count lt ∙ gone)) tt) numbered

-- a recording that has its end needs no file
pub stopped_file : (told : Option Told) (given file : ℕ) (recording : Option RecordingState) → HasFile told given file (stop_at recording).recording
stopped_file told given file None = tt
stopped_file told given file (Some recording) = tt

-- nobody changes
pub numbered_same : (told : Option Told) (given : ℕ) (numbers : List ℕ) (old new : Ends) → ((d : ℕ) → recording_at (place_at new d) ≡ recording_at (place_at old d))
    → AreNumbered told given numbers old → AreNumbered told given numbers new
numbered_same told given numbers old new same numbered = λ d lt. subst (λ (r : Option RecordingState). HasFile told given (slice_index numbers d) r) (sym (same d)) (numbered d lt)

-- ---- a place of the ends

-- a place that was looked up
pub at_place : (clients : List (Option Place)) (c : ℕ) (found : Option Place) → found ≡ get_or clients c found → c < length clients → get_or clients c None ≡ found
at_place clients c found is lt = get_or_default clients c None found lt ∙ sym is

-- an answer was told, and nothing else was done
pub tells_ends : (old new : Ends) (counts_old counts : Counts) (before behind : Option Written) (were are : ℕ) (step : EndsStep) (result : Result (Unit {0}) StepError) → new ≡ step.ends
    → Tells counts_old counts before behind were are step.answer result → EndsDo old new counts_old counts before behind were are step result
tells_ends old new counts_old counts before behind were are step (Ok x) ends tells = record {
  ends = ends;
  told = tells.counts;
  printed = tells.printed;
  flushed = tells.flushed;
  cause = tells.cause;
  no_memory = λ is. absurd (tells.memory is);
}
tells_ends old new counts_old counts before behind were are step (Err e) ends tells = record {
  ends = tt;
  told = tt;
  printed = tells.printed;
  flushed = tells.flushed;
  cause = tells.cause;
  no_memory = λ is. absurd (tells.memory is);
}

-- ---- what leaves recordings as they are

abbrev pub SameRecordings : Ends → Ends → Type 0
SameRecordings old new = (d : ℕ) → recording_at (place_at new d) ≡ recording_at (place_at old d)

-- a place with the same recording
pub same_put : (ends : Ends) (c : ℕ) (place : Place) → place.recording ≡ recording_at (place_at ends c) → SameRecordings ends (with_place ends c place)
same_put ends c place is = λ d. elim (cases_eq d c) [
  | inl same ↦ elim (below (length ends.clients) c) [
    | inl lt ↦ rw (same, get_or-set_same ends.clients c (Some place) None lt) is
    | inr ge ↦ rw (set_out ends.clients c (Some place) ge) refl
  ]
  | inr not ↦ rw (get_or-set_other ends.clients c d (Some place) None not) refl
]
  where
    below : (count c : ℕ) → (c < count) ⊎ (count ≤ c)
    below count c = elim (cases_Bool (nat_lt c count)) [
      | inl lt ↦ inl (ltb-true c count lt)
      | inr ge ↦ inr (ltb-false c count ge)
    ]

-- a line of a client's own that leaves its recording
pub same_client : (ends : Ends) (c : ℕ) (event : Event) (found : Option Place) → place_at ends c ≡ found
    → ((place : Place) → recording_after place.recording (client_line place.client place.recording event) ≡ place.recording) → SameRecordings ends (client_step_of ends c event found).ends
same_client ends c event None at leaves = λ d. refl
same_client ends c event (Some place) at leaves =
    let line = client_line place.client place.recording event in
    same_put ends c (record place { client = client_after place.client line; recording = recording_after place.recording line }) (leaves place ∙ sym (rw at refl))

pub same_port : (ends : Ends) (c port : ℕ) (found : Option Place) → place_at ends c ≡ found → SameRecordings ends (set_port_of ends c port found).ends
same_port ends c port None at = λ d. refl
same_port ends c port (Some place) at = same_put ends c (record place { address = record place.address { port = port } }) (sym (rw at refl))

pub same_game : (ends : Ends) (found : Option ServerStep) → SameRecordings ends (game_step ends found).ends
same_game ends None = λ d. refl
same_game ends (Some step) = λ d. refl

pub same_handed : (ends : Ends) (c : ℕ) (bytes : List ℕ) (found : Option Place) → SameRecordings ends (hand_server_of ends c bytes found).ends
same_handed ends c bytes None = λ d. refl
same_handed ends c bytes (Some place) = λ d. refl

pub same_sent : (kept : Kept) (c : ℕ) (found : Option Place) → place_at kept.ends c ≡ found → SameRecordings kept.ends (kept_send kept c found).kept.ends
same_sent kept c None at = λ d. refl
same_sent kept c (Some place) at = same_put kept.ends c (record place { client = (speaks.emit_at (asking place.client place.recording)).client }) (sym (rw at refl))

-- a client that joins records nothing
pub numbered_joined : (told : Option Told) (given c : ℕ) (numbers : List ℕ) (profile : Profile) (ends : Ends) (challenge qport dup : ℕ) (address : Address) → AreNumbered told given numbers ends
    → AreNumbered told given numbers (join profile ends c challenge qport dup address).ends
numbered_joined told given c numbers profile ends challenge qport dup address numbered =
    let added = add_client_at ends.server c challenge qport address in
    by_answer added.server (record { client = new_client profile challenge qport dup; address = address; recording = None }) refl added.answer
  where
    by_answer : (server : ServerState) (place : Place) → place.recording ≡ None → (answer : Result (Unit {0}) SlotError)
        → AreNumbered told given numbers (joined (record ends { server = server }) c place answer).ends
    by_answer server place none (Ok x) = λ d lt. elim (cases_eq d c) [
      | inl same ↦ subst (HasFile told given (slice_index numbers d)) (sym (nothing_there d same)) tt
      | inr not ↦ subst (λ (found : Option Place). HasFile told given (slice_index numbers d) (recording_at found)) (sym (get_or-set_other ends.clients c d (Some place) None not)) (numbered d lt)
    ]
      where
        nothing_there : (d : ℕ) → d ≡ c → recording_at (get_or (set ends.clients c (Some place)) d None) ≡ None
        nothing_there d same = elim (cases_Bool (nat_lt c (length ends.clients))) [
          | inl lt ↦ rw (same, get_or-set_same ends.clients c (Some place) None (ltb-true c (length ends.clients) lt)) none
          | inr ge ↦
              let out = ltb-false c (length ends.clients) ge in
              rw (same, set_out ends.clients c (Some place) out, get_or-eq_default ends.clients None out) refl
        ]
    by_answer server place none (Err e) = numbered

-- ---- lines of the client that they name, or of the game

-- a line but for bytes that are handed to a client does to files what it does as one of a client's own
pub acts_of_client_or_game : (ends : Ends) (event : Event) → ((c : ℕ) (bytes : List ℕ) → event ≡ events.Toclient c bytes → ⊥) → line_acts ends event ≡ client_or_game_acts ends event (client_named event)
unfolding line_acts
acts_of_client_or_game ends (events.Toclient c bytes) toclient = absurd (toclient c bytes refl)
acts_of_client_or_game ends other toclient = refl

-- and a line that leaves files alone at every client does nothing to them
pub quiet_client : (event : Event) (found : Option Place) → ((place : Place) → acts_in (client_line place.client place.recording event) ≡ []) → place_acts found event ≡ []
quiet_client event None leaves = refl
quiet_client event (Some place) leaves = leaves place

pub does_client_or_game : (Says : EndsStep → Type 0) (profile : Profile) (ends : Ends) (event : Event)
    → ((c challenge qport dup : ℕ) (address : Address) → event ≡ events.Client c challenge qport dup address → ⊥) → ((c port : ℕ) → event ≡ events.Port c port → ⊥)
    → ((c : ℕ) (bytes : List ℕ) → event ≡ events.Toclient c bytes → ⊥) → ((c : ℕ) (bytes : List ℕ) → event ≡ events.Toserver c bytes → ⊥)
    → Says (client_or_game_step ends event (client_named event)) → IfSome (step_in (line_of profile ends event)) Says
unfolding line_of
does_client_or_game Says profile ends (events.Client c challenge qport dup address) client port toclient toserver says = absurd (client c challenge qport dup address refl)
does_client_or_game Says profile ends (events.Port c at) client port toclient toserver says = absurd (port c at refl)
does_client_or_game Says profile ends (events.Toclient c bytes) client port toclient toserver says = absurd (toclient c bytes refl)
does_client_or_game Says profile ends (events.Toserver c bytes) client port toclient toserver says = absurd (toserver c bytes refl)
does_client_or_game Says profile ends (events.Serve c) client port toclient toserver says = tt
does_client_or_game Says profile ends (events.Send c) client port toclient toserver says = tt
does_client_or_game Says profile ends (events.Deliver number) client port toclient toserver says = tt
does_client_or_game Says profile ends (events.Bytes number) client port toclient toserver says = tt
does_client_or_game Says profile ends other client port toclient toserver says = says

-- where it names no client, it is one of the game
pub is_game : (profile : Profile) (ends : Ends) (event : Event) → IsReplayEvent event
    → ((c challenge qport dup : ℕ) (address : Address) → event ≡ events.Client c challenge qport dup address → ⊥) → ((c port : ℕ) → event ≡ events.Port c port → ⊥)
    → ((c : ℕ) (bytes : List ℕ) → event ≡ events.Toclient c bytes → ⊥) → ((c : ℕ) (bytes : List ℕ) → event ≡ events.Toserver c bytes → ⊥)
    → IsSome (step_in (line_of profile ends event)) → client_named event ≡ None → IsSome (server_line ends.server event)
unfolding line_of server_line
is_game profile ends (events.Client c challenge qport dup address) is client port toclient toserver line none = absurd (client c challenge qport dup address refl)
is_game profile ends (events.Port c at) is client port toclient toserver line none = absurd (port c at refl)
is_game profile ends (events.Toclient c bytes) is client port toclient toserver line none = absurd (toclient c bytes refl)
is_game profile ends (events.Toserver c bytes) is client port toclient toserver line none = absurd (toserver c bytes refl)
is_game profile ends (events.TypeText c text) is client port toclient toserver line none = absurd cc
is_game profile ends (events.Move c one) is client port toclient toserver line none = absurd cc
is_game profile ends (events.RecordTo c name) is client port toclient toserver line none = absurd cc
is_game profile ends (events.Stop c) is client port toclient toserver line none = absurd cc
is_game profile ends (events.Show c) is client port toclient toserver line none = absurd cc
is_game profile ends (events.Serve c) is client port toclient toserver line none = line
is_game profile ends (events.Send c) is client port toclient toserver line none = line
is_game profile ends (events.Deliver number) is client port toclient toserver line none = line
is_game profile ends (events.Bytes number) is client port toclient toserver line none = line
is_game profile ends (events.At ms) is client port toclient toserver line none = absurd is
is_game profile ends (events.End ms) is client port toclient toserver line none = absurd is
is_game profile ends other is client port toclient toserver line none = refl

-- the client that it names has a place
pub named_within : (event : Event) → IsReplayEvent event → IfSome (client_named event) (λ c. c < places)
named_within (events.TypeText c text) is = omega (arith, is.0)
named_within (events.Move c one) is = omega (arith, is.0)
named_within (events.RecordTo c name) is = omega (arith, is.0)
named_within (events.Stop c) is = omega (arith, is)
named_within (events.Show c) is = omega (arith, is)
named_within other is = tt

-- and the recording that it would begin takes memory
pub fresh_takes : (event : Event) → is_some (fresh_of event) ≡ true → TakesMemory event
fresh_takes (events.RecordTo c name) is = tt
fresh_takes other is = absurd cc

-- a datagram that was made goes to its end
pub delivers_none : (ends : Ends) (datagrams : List SentBytes) (k : ℕ) → length datagrams ≤ k → deliver_acts ends (slice_get datagrams k) ≡ []
delivers_none ends datagrams k ge = elim (slice_get_cases datagrams k).1 [
  | inl found ↦ let lt = found.1 in absurd (omega (arith, ge, lt))
  | inr none ↦ rw none.1 refl
]

-- ---- what leaves recordings, of the world

pub numbered_left : (told : Option Told) (given : ℕ) (old new : Counting) (result : Result (Unit {0}) StepError) → LeavesRecordings old new result → AreNumbered told given old.numbers old.kept.ends
    → AreNumbered told given new.numbers new.kept.ends
numbered_left told given old new result leaves numbered =
    numbered_same told given new.numbers old.kept.ends new.kept.ends leaves.recordings
    (subst (λ (numbers : List ℕ). AreNumbered told given numbers old.kept.ends) (sym leaves.numbers) numbered)

pub leaves_told : (old new : Counting) (kept : Kept) (result : Result (Unit {0}) StepError) → new.kept ≡ kept → new.numbers ≡ old.numbers → SameRecordings old.kept.ends kept.ends → (IsErrOf result FileFault → ⊥)
    → LeavesRecordings old new result
leaves_told old new kept result is numbers same files = record { numbers = numbers; recordings = λ c. rw is (same c); files = files }

-- ---- a datagram that was made arrives

pub server_does : (Says : EndsStep → Type 0) (ends : Ends) (number k : ℕ) (datagrams : List SentBytes) (sent : SentBytes) (from : Address) (bytes : List ℕ) → slice_get datagrams k ≡ Some sent
    → sent.direction ≡ ToServer from → sent.bytes ≡ bytes → Says (server_takes ends (fronts.Deliver number) from bytes) → Says (deliver_at ends number (slice_get datagrams k))
server_does Says ends number k datagrams sent from bytes found way is says = rw (found, way, is) says

pub server_acts : (ends : Ends) (k : ℕ) (datagrams : List SentBytes) (sent : SentBytes) (from : Address) → slice_get datagrams k ≡ Some sent → sent.direction ≡ ToServer from
    → deliver_acts ends (slice_get datagrams k) ≡ []
server_acts ends k datagrams sent from found way = rw (found, way) refl

pub client_does : (Says : EndsStep → Type 0) (ends : Ends) (number k c : ℕ) (datagrams : List SentBytes) (sent : SentBytes) (bytes : List ℕ) → slice_get datagrams k ≡ Some sent
    → sent.direction ≡ ToClient → sent.client ≡ c → sent.bytes ≡ bytes → Says (client_takes ends c (fronts.Deliver number) bytes (place_at ends c)) → Says (deliver_at ends number (slice_get datagrams k))
client_does Says ends number k c datagrams sent bytes found way of is says = rw (found, way, of, is) says

pub client_acts : (ends : Ends) (k c : ℕ) (datagrams : List SentBytes) (sent : SentBytes) (bytes : List ℕ) → slice_get datagrams k ≡ Some sent → sent.direction ≡ ToClient → sent.client ≡ c
    → sent.bytes ≡ bytes → deliver_acts ends (slice_get datagrams k) ≡ take_acts (place_at ends c) bytes
client_acts ends k c datagrams sent bytes found way of is = rw (found, way, of, is) refl
