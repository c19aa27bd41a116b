-- What an event does to the client at a place.
use Rattle.std.proofs.Common.{◌≡◌, ℕ, List, Option, Some, None, Result, Ok, Err, true, refl, sym, ap, subst, ◌∙◌, inl, inr, length}
use Rattle.std.specs.Prelude.{◌==◌, ◌-◌, if◌then◌else◌, Bool, slice_get}
use Rattle.std.specs.Option.{is_some}
use Rattle.std.proofs.lemmas.Bool.{cases_eq, cases_lt, cond_both, eqb-true, eqb-false}
use Rattle.std.proofs.lemmas.List.{get_or-set_other, get_or-set_same}
use Rattle.std.proofs.lemmas.Option.{none-some, same_Some}
use Rattle.std.proofs.Math.ListN.{get_or-eq_default}
use Rattle.std.proofs.Math.Seq.{set_out}
use Rattle.q3_schedules.specs.Slots.{HaveSlots, SlotsAreKept}
use Rattle.q3_profile.specs.declared.profile.Profile.{Profile}
use Rattle.q3_clmsg.specs.declared.moves.Move.{Move}
use Rattle.q3_script.specs.declared.event.Event.{Event}
use Rattle.q3_script.specs.declared.event.Event.TheVariants as events
use Rattle.q3_server.specs.declared.server.SlotError.{SlotError}
use Rattle.q3_server.specs.Server.{ServerState, add_client_at, slot_at}
use Rattle.q3_client.specs.Client.{ClientState, new_client, take_at, type_at}
use Rattle.q3_client.specs.Moves.{add_move_at}
use Rattle.q3_client.specs.Sending as speaks
use Rattle.q3_report.specs.declared.answer.Front.{Front}
use Rattle.q3_report.specs.declared.answer.Front.TheVariants as fronts
use Rattle.q3_ends.specs.AtServer.{server_line}
use Rattle.q3_ends.specs.Recording.{RecordingState, asking, note_taken, waits_in}
use Rattle.q3_world.specs.declared.made.Direction.{Direction}
use Rattle.q3_world.specs.declared.made.Direction.TheVariants.{ToClient, ToServer}
use Rattle.q3_world.specs.declared.places.Place.{Place}
use Rattle.q3_world.specs.Ends.{Ends, client_takes, hand_server_of, joined, line_of, Line, Sends, client_step_of, place_at, set_port_of, with_place}
use Rattle.q3_ends.specs.ClientLine.{client_line, client_after, recording_after}
use Rattle.q3_world.specs.Kept.{Kept, SentBytes, arrive_at, deliver_at, kept_line, kept_send, kept_step}
use Rattle.q3_schedules.specs.Recorded.{bytes_for, sent_for, sent_to}
use Rattle.q3_recordings.proofs.Sound.{IsSound, Keeps}

-- what is known of a client's calls
pub record ClientLaws (profile : Profile) : Type 0 where
  pub joins : (challenge qport dup : ℕ) → IsSound profile (new_client profile challenge qport dup)
  pub types : (client : ClientState) (text : List ℕ) → Keeps profile client (type_at client text).client
  pub moves : (client : ClientState) (one : Move) → Keeps profile client (add_move_at client one).client
  pub emits : (client : ClientState) (on : Bool) → Keeps profile client (speaks.emit_at (record client { asks_whole = on })).client
  pub takes : (client : ClientState) (bytes : List ℕ) → IsSound profile client → IsSound profile (take_at client bytes).client

-- it takes bytes with the event, or none, and then what the messages left stays
abbrev pub Becomes : Profile → ClientState → Option (List ℕ) → ClientState → Type 0
Becomes profile old None new = Keeps profile old new
Becomes profile old (Some bytes) new = new ≡ (take_at old bytes).client

pub record GoesOnAt (profile : Profile) (new : Ends) (c : ℕ) (old : Place) (bytes : Option (List ℕ)) : Type 0 where
  pub place : Place
  pub at : place_at new c ≡ Some place
  pub becomes : Becomes profile old.client bytes place.client

-- a client that just joined
record IsNew (by : Profile) (client : ClientState) : Type 0 where
  challenge : ℕ
  qport : ℕ
  dup : ℕ
  is : client ≡ new_client by challenge qport dup

-- a client that is there stays there, and one that comes there is new
record GoesOn (profile by : Profile) (old new : Ends) (took : ℕ → Option (List ℕ)) : Type 0 where
  stays : (c : ℕ) (place : Place) → place_at old c ≡ Some place → GoesOnAt profile new c place (took c)
  comes : (c : ℕ) (place : Place) → place_at old c ≡ None → place_at new c ≡ Some place → IsNew by place.client

-- ---- what is done at one place

same_client : (profile : Profile) (client : ClientState) → Keeps profile client client
same_client profile client = record { state = refl; sound = λ is. is }

-- nobody changes
nobody_changes : (profile by : Profile) {old new : Ends} → new.clients ≡ old.clients → GoesOn profile by old new (λ c. None)
nobody_changes profile by {old} {new} same = record {
  stays = λ c place at. record { place = place; at = rw same at; becomes = same_client profile place.client };
  comes = λ c place none at. absurd (none-some place (sym none ∙ sym (ap (λ (clients : List (Option Place)). place_at (record old { clients = clients }) c) same) ∙ at));
}

-- what stands at a place where a client was
there : (ends : Ends) (c : ℕ) (place now : Place) → place_at ends c ≡ Some place → place_at (with_place ends c now) c ≡ Some now
there ends c place now at = elim (cases_lt c (length ends.clients)) [
  | inl lt ↦ get_or-set_same ends.clients c (Some now) None lt
  | inr ge ↦ absurd (none-some place (sym (get_or-eq_default ends.clients None ge) ∙ at))
]

-- a place of one who was there
changes_at : (profile by : Profile) (ends : Ends) (d : ℕ) (old new : Place) (took : ℕ → Option (List ℕ)) → place_at ends d ≡ Some old → Becomes profile old.client (took d) new.client
    → ((c : ℕ) → (c ≡ d → ⊥) → took c ≡ None) → GoesOn profile by ends (with_place ends d new) took
changes_at profile by ends d old new took was becomes untaken = record { stays = stays; comes = comes }
  where
    at_it : (place : Place) → place_at ends d ≡ Some place → GoesOnAt profile (with_place ends d new) d place (took d)
    at_it place at = record {
      place = new;
      at = there ends d old new was;
      becomes = subst (λ (one : Place). Becomes profile one.client (took d) new.client) (same_Some old place (sym was ∙ at)) becomes;
    }

    elsewhere : (c : ℕ) (place : Place) → (c ≡ d → ⊥) → place_at ends c ≡ Some place → GoesOnAt profile (with_place ends d new) c place (took c)
    elsewhere c place not at = record {
      place = place;
      at = get_or-set_other ends.clients d c (Some new) None not ∙ at;
      becomes = subst (λ (bytes : Option (List ℕ)). Becomes profile place.client bytes place.client) (sym (untaken c not)) (same_client profile place.client);
    }

    stays : (c : ℕ) (place : Place) → place_at ends c ≡ Some place → GoesOnAt profile (with_place ends d new) c place (took c)
    stays c place at = elim (cases_eq c d) [
      | inl same ↦ subst (λ (k : ℕ). place_at ends k ≡ Some place → GoesOnAt profile (with_place ends d new) k place (took k)) (sym same) (at_it place) at
      | inr not ↦ elsewhere c place not at
    ]

    comes : (c : ℕ) (place : Place) → place_at ends c ≡ None → place_at (with_place ends d new) c ≡ Some place → IsNew by place.client
    comes c place none at = elim (cases_eq c d) [
      | inl same ↦ absurd (none-some old (sym none ∙ ap (place_at ends) same ∙ was))
      | inr not ↦ absurd (none-some place (sym none ∙ sym (get_or-set_other ends.clients d c (Some new) None not) ∙ at))
    ]

-- and no bytes are taken, or some
keeps_at : (profile by : Profile) (ends : Ends) (d : ℕ) (old new : Place) → place_at ends d ≡ Some old → Keeps profile old.client new.client → GoesOn profile by ends (with_place ends d new) (λ c. None)
keeps_at profile by ends d old new was keeps = changes_at profile by ends d old new (λ c. None) was keeps (λ c not. refl)

takes_at : (profile by : Profile) (ends : Ends) (d : ℕ) (bytes : List ℕ) (old new : Place) → place_at ends d ≡ Some old → new.client ≡ (take_at old.client bytes).client
    → GoesOn profile by ends (with_place ends d new) (λ c. if d == c then Some bytes else None)
takes_at profile by ends d bytes old new was is =
    changes_at profile by ends d old new (λ c. if d == c then Some bytes else None) was
    (cond_both (d == d) (Some bytes) None (λ (took : Option (List ℕ)). Becomes profile old.client took new.client) (λ same. is) (λ other. absurd (eqb-false d d other refl)))
    (λ c not. cond_both (d == c) (Some bytes) None (λ (took : Option (List ℕ)). took ≡ None) (λ same. absurd (not (sym (eqb-true d c same)))) (λ other. refl))

-- ---- the lines

-- a client joins where none was
joins_there : (profile by : Profile) (ends : Ends) (server : ServerState) (d : ℕ) (new : Place) (answer : Result (Unit {0}) SlotError) → IsNew by new.client
    → (answer ≡ Ok tt → slot_at ends.server d ≡ None) → HaveSlots ends → GoesOn profile by ends (joined (record ends { server = server }) d new answer).ends (λ c. None)
joins_there profile by ends server d new (Err e) is free have = nobody_changes profile by refl
joins_there profile by ends server d new (Ok x) is free have = record { stays = stays; comes = comes }
  where
    nobody : (place : Place) → place_at ends d ≡ Some place → ⊥
    nobody place at = both (slot_at ends.server d) (free refl) (have d (rw at refl))
      where
        both : {A : Type 0} (found : Option A) → found ≡ None → is_some found ≡ true → ⊥
        both None none is = absurd cc
        both (Some x) none is = absurd cc

    stays : (c : ℕ) (place : Place) → place_at ends c ≡ Some place → GoesOnAt profile (with_place (record ends { server = server }) d new) c place None
    stays c place at = elim (cases_eq c d) [
      | inl same ↦ absurd (nobody place (sym (ap (place_at ends) same) ∙ at))
      | inr not ↦ record { place = place; at = get_or-set_other ends.clients d c (Some new) None not ∙ at; becomes = same_client profile place.client }
    ]

    at_it : (place : Place) → place_at ends d ≡ None → place_at (with_place (record ends { server = server }) d new) d ≡ Some place → IsNew by place.client
    at_it place none at = elim (cases_lt d (length ends.clients)) [
      | inl lt ↦ subst (λ (one : Place). IsNew by one.client) (same_Some new place (sym (get_or-set_same ends.clients d (Some new) None lt) ∙ at)) is
      | inr ge ↦ absurd (none-some place (sym none ∙ sym (ap (λ (clients : List (Option Place)). place_at (record ends { clients = clients }) d) (set_out ends.clients d (Some new) ge)) ∙ at))
    ]

    comes : (c : ℕ) (place : Place) → place_at ends c ≡ None → place_at (with_place (record ends { server = server }) d new) c ≡ Some place → IsNew by place.client
    comes c place none at = elim (cases_eq c d) [
      | inl same ↦ at_it place (sym (ap (place_at ends) same) ∙ none) (sym (ap (place_at (with_place (record ends { server = server }) d new)) same) ∙ at)
      | inr not ↦ absurd (none-some place (sym none ∙ sym (get_or-set_other ends.clients d c (Some new) None not) ∙ at))
    ]

sets_port : (profile by : Profile) (ends : Ends) (d port : ℕ) (found : Option Place) → place_at ends d ≡ found → GoesOn profile by ends (set_port_of ends d port found).ends (λ c. None)
sets_port profile by ends d port None at = nobody_changes profile by refl
sets_port profile by ends d port (Some place) at =
    keeps_at profile by ends d place (record place { address = record place.address { port = port } }) at (same_client profile place.client)

does_line : (profile by : Profile) (ends : Ends) (d : ℕ) (event : Event)
    → ((client : ClientState) (recording : Option RecordingState) → Keeps profile client (client_after client (client_line client recording event)))
    → (found : Option Place) → place_at ends d ≡ found → GoesOn profile by ends (client_step_of ends d event found).ends (λ c. None)
does_line profile by ends d event keeps None at = nobody_changes profile by refl
does_line profile by ends d event keeps (Some place) at =
    let line = client_line place.client place.recording event in
    keeps_at profile by ends d place (record place { client = client_after place.client line; recording = recording_after place.recording line }) at (keeps place.client place.recording)

sends_at : (profile by : Profile) → ClientLaws profile → (kept : Kept) (d : ℕ) (found : Option Place) → place_at kept.ends d ≡ found
    → GoesOn profile by kept.ends (kept_send kept d found).kept.ends (λ c. None)
sends_at profile by laws kept d None at = nobody_changes profile by refl
sends_at profile by laws kept d (Some place) at =
    keeps_at profile by kept.ends d place (record place { client = (speaks.emit_at (asking place.client place.recording)).client }) at (laws.emits place.client (waits_in place.recording))

-- where nobody is, nobody takes bytes
nobody_takes : (profile by : Profile) (ends : Ends) (d : ℕ) (bytes : List ℕ) → place_at ends d ≡ None → GoesOn profile by ends ends (λ c. if d == c then Some bytes else None)
nobody_takes profile by ends d bytes none = record {
  stays = λ c place at. cond_both (d == c) (Some bytes) None (λ (took : Option (List ℕ)). GoesOnAt profile ends c place took)
      (λ same. absurd (none-some place (sym none ∙ ap (place_at ends) (eqb-true d c same) ∙ at)))
      (λ other. record { place = place; at = at; becomes = same_client profile place.client });
  comes = λ c place none at. absurd (none-some place (sym none ∙ at));
}

takes_there : (profile by : Profile) (ends : Ends) (d : ℕ) (front : Front) (bytes : List ℕ) (found : Option Place) → place_at ends d ≡ found
    → GoesOn profile by ends (client_takes ends d front bytes found).ends (λ c. if d == c then Some bytes else None)
takes_there profile by ends d front bytes None at = nobody_takes profile by ends d bytes at
takes_there profile by ends d front bytes (Some place) at =
    let taken = take_at place.client bytes in
    takes_at profile by ends d bytes place (record place { client = taken.client; recording = (note_taken place.recording place.client taken).recording }) at refl

arrives_at : (profile by : Profile) (ends : Ends) (number : ℕ) (sent : SentBytes) (direction : Direction)
    → GoesOn profile by ends (arrive_at ends number sent direction).ends (λ c. sent_to c sent direction)
arrives_at profile by ends number sent ToClient = takes_there profile by ends sent.client (fronts.Deliver number) sent.bytes (place_at ends sent.client) refl
arrives_at profile by ends number sent (ToServer from) = nobody_changes profile by refl

delivers_at : (profile by : Profile) (ends : Ends) (number : ℕ) (found : Option SentBytes) → GoesOn profile by ends (deliver_at ends number found).ends (λ c. sent_for c found)
delivers_at profile by ends number None = nobody_changes profile by refl
delivers_at profile by ends number (Some sent) = arrives_at profile by ends number sent sent.direction

hands_server : (profile by : Profile) (ends : Ends) (d : ℕ) (bytes : List ℕ) (found : Option Place) → GoesOn profile by ends (hand_server_of ends d bytes found).ends (λ c. None)
hands_server profile by ends d bytes None = nobody_changes profile by refl
hands_server profile by ends d bytes (Some place) = nobody_changes profile by refl

-- ---- every event

goes_on : (slots : SlotsAreKept) (profile : Profile) → ClientLaws profile → (kept : Kept) → HaveSlots kept.ends → (event : Event)
    → GoesOn profile kept.profile kept.ends (kept_step kept event).kept.ends (λ c. bytes_for kept event c)
unfolding kept_step line_of server_line
goes_on slots profile laws kept have (events.Client d challenge qport dup address) =
    let added = add_client_at kept.ends.server d challenge qport address in
    joins_there profile kept.profile kept.ends added.server d (record { client = new_client kept.profile challenge qport dup; address = address; recording = None }) added.answer
    (record { challenge = challenge; qport = qport; dup = dup; is = refl }) (slots.free kept.ends.server d challenge qport address) have
goes_on slots profile laws kept have (events.Port d port) = sets_port profile kept.profile kept.ends d port (place_at kept.ends d) refl
goes_on slots profile laws kept have (events.TypeText d text) =
    does_line profile kept.profile kept.ends d (events.TypeText d text) (λ client recording. laws.types client text) (place_at kept.ends d) refl
goes_on slots profile laws kept have (events.Move d one) =
    does_line profile kept.profile kept.ends d (events.Move d one) (λ client recording. laws.moves client one) (place_at kept.ends d) refl
goes_on slots profile laws kept have (events.Send d) = sends_at profile kept.profile laws kept d (place_at kept.ends d) refl
goes_on slots profile laws kept have (events.Deliver number) = delivers_at profile kept.profile kept.ends number (slice_get kept.datagrams (number - 1))
goes_on slots profile laws kept have (events.RecordTo d name) =
    does_line profile kept.profile kept.ends d (events.RecordTo d name) (λ client recording. same_client profile client) (place_at kept.ends d) refl
goes_on slots profile laws kept have (events.Stop d) =
    does_line profile kept.profile kept.ends d (events.Stop d) (λ client recording. same_client profile client) (place_at kept.ends d) refl
goes_on slots profile laws kept have (events.Show d) =
    does_line profile kept.profile kept.ends d (events.Show d) (λ client recording. same_client profile client) (place_at kept.ends d) refl
goes_on slots profile laws kept have (events.Toclient d bytes) = takes_there profile kept.profile kept.ends d (fronts.Toclient d) bytes (place_at kept.ends d) refl
goes_on slots profile laws kept have (events.Toserver d bytes) = hands_server profile kept.profile kept.ends d bytes (place_at kept.ends d)
goes_on slots profile laws kept have event = nobody_changes profile kept.profile refl

-- a client that is there stays there
pub goes_on_at : (slots : SlotsAreKept) (profile : Profile) → ClientLaws profile → (kept : Kept) → HaveSlots kept.ends → (event : Event) (c : ℕ) (place : Place) → place_at kept.ends c ≡ Some place
    → GoesOnAt profile (kept_step kept event).kept.ends c place (bytes_for kept event c)
goes_on_at slots profile laws kept have event = (goes_on slots profile laws kept have event).stays

-- one that comes there is new
abbrev pub AllSound : Profile → Ends → Type 0
AllSound profile ends = (c : ℕ) (place : Place) → place_at ends c ≡ Some place → IsSound profile place.client

becomes_sound : (profile : Profile) → ClientLaws profile → (old : ClientState) (bytes : Option (List ℕ)) (new : ClientState) → Becomes profile old bytes new → IsSound profile old → IsSound profile new
becomes_sound profile laws old None new becomes is = becomes.sound is
becomes_sound profile laws old (Some bytes) new becomes is = subst (IsSound profile) (sym becomes) (laws.takes old bytes is)

pub all_sound : (slots : SlotsAreKept) (profile : Profile) → ClientLaws profile → (kept : Kept) → kept.profile ≡ profile → HaveSlots kept.ends → (event : Event) → AllSound profile kept.ends
    → AllSound profile (kept_step kept event).kept.ends
all_sound slots profile laws kept by have event sound = λ c place at. by_old c place at (place_at kept.ends c) refl
  where
    goes : GoesOn profile kept.profile kept.ends (kept_step kept event).kept.ends (λ c. bytes_for kept event c)
    goes = goes_on slots profile laws kept have event

    by_old : (c : ℕ) (place : Place) → place_at (kept_step kept event).kept.ends c ≡ Some place → (old : Option Place) → place_at kept.ends c ≡ old → IsSound profile place.client
    by_old c place at None was =
        let new : IsNew kept.profile place.client = goes.comes c place was at in
        subst (IsSound profile) (sym new.is) (subst (λ (one : Profile). IsSound profile (new_client one new.challenge new.qport new.dup)) (sym by) (laws.joins new.challenge new.qport new.dup))
    by_old c place at (Some old) was =
        let on : GoesOnAt profile (kept_step kept event).kept.ends c old (bytes_for kept event c) = goes.stays c old was in
        subst (λ (one : Place). IsSound profile one.client) (same_Some on.place place (sym on.at ∙ at))
        (becomes_sound profile laws old.client (bytes_for kept event c) on.place.client on.becomes (sound c old was))

-- the profile stays
line_profile : (kept : Kept) (line : Line) → (kept_line kept line).kept.profile ≡ kept.profile
line_profile kept (Sends c) = sends (place_at kept.ends c)
  where
    sends : (found : Option Place) → (kept_send kept c found).kept.profile ≡ kept.profile
    sends None = refl
    sends (Some place) = refl
line_profile kept line = refl

pub profile_kept : (kept : Kept) (event : Event) → (kept_step kept event).kept.profile ≡ kept.profile
unfolding kept_step
profile_kept kept event = line_profile kept (line_of kept.profile kept.ends event)
