-- What an event does to recordings, and to their files.
use Rattle.std.proofs.Common.{◌≡◌, ℕ, List, [], length, Option, Some, None, Result, Ok, Err, true, false, refl, sym, ap, ◌∙◌, inl, inr}
use Rattle.std.specs.Prelude.{◌⊎◌, ◌==◌, ◌-◌, if◌then◌else◌, slice_get}
use Rattle.std.specs.Option.{is_some}
use Rattle.std.proofs.lemmas.Bool.{cases_eq, cases_lt}
use Rattle.std.proofs.lemmas.List.{get_or-set_other, get_or-set_same}
use Rattle.std.proofs.Math.ListN.{get_or-eq_default}
use Rattle.std.proofs.Math.Seq.{set_out}
use Rattle.q3_io.specs.Acts.{FileAct}
use Rattle.q3_script.specs.declared.event.Event.{Event}
use Rattle.q3_script.specs.declared.event.Event.TheVariants as events
use Rattle.q3_server.specs.declared.server.SlotError.{SlotError}
use Rattle.q3_server.specs.Server.{ServerState, add_client_at, slot_at}
use Rattle.q3_client.specs.Client.{new_client}
use Rattle.q3_report.specs.declared.answer.Front.{Front}
use Rattle.q3_report.specs.declared.answer.Front.TheVariants as fronts
use Rattle.q3_ends.specs.ClientLine.{client_line, recording_after, acts_in}
use Rattle.q3_ends.specs.AtServer.{server_line}
use Rattle.q3_world.specs.declared.made.Direction.{Direction}
use Rattle.q3_world.specs.declared.made.Direction.TheVariants.{ToClient, ToServer}
use Rattle.q3_world.specs.declared.places.Place.{Place}
use Rattle.q3_world.specs.Ends.{Ends, client_step, client_takes, joined, line_of, place_at, recording_at, with_place}
use Rattle.q3_world.specs.Kept.{Kept, SentBytes, arrive_at, deliver_at, kept_step}
use Rattle.q3_world.specs.Files.{acts_of, place_acts, line_acts, arrive_acts, deliver_acts, take_acts}
use Rattle.q3_world.proofs.Filing.{SameRecordings, quiet_client, same_client, same_handed, same_port, same_sent}
use Rattle.q3_schedules.specs.Recorded.{bytes_for, is_stop, sent_for, sent_to}
use Rattle.q3_schedules.specs.Slots.{HaveSlots}
use Rattle.q3_schedules.proofs.SlotsStay.{joins}

-- ---- events that leave recordings, or of which a client takes bytes

-- no recording changes, nothing is done to files, and no client takes bytes
pub record Quiet (old new : Ends) (acts : List FileAct) (took : ℕ → Option (List ℕ)) : Type 0 where
  pub same : SameRecordings old new
  pub none : acts ≡ []
  pub untaken : (c : ℕ) → took c ≡ None

-- a client, if it is there, takes bytes
pub record Takes (old new : Ends) (acts : List FileAct) (took : ℕ → Option (List ℕ)) : Type 0 where
  pub client : ℕ
  pub front : Front
  pub bytes : List ℕ
  pub ends : new ≡ (client_takes old client front bytes (place_at old client)).ends
  pub does : acts ≡ take_acts (place_at old client) bytes
  pub taken : (c : ℕ) → took c ≡ (if client == c then Some bytes else None)

abbrev pub Happens : Ends → Ends → List FileAct → (ℕ → Option (List ℕ)) → Type 0
Happens old new acts took = Takes old new acts took ⊎ Quiet old new acts took

quiet : {old new : Ends} → SameRecordings old new → Happens old new [] (λ c. None)
quiet {old} {new} same = inr (record { same = same; none = refl; untaken = λ c. refl })

arrives : (ends : Ends) (number : ℕ) (sent : SentBytes) (direction : Direction)
    → Happens ends (arrive_at ends number sent direction).ends (arrive_acts ends sent direction) (λ c. sent_to c sent direction)
arrives ends number sent ToClient = inl (record { client = sent.client; front = fronts.Deliver number; bytes = sent.bytes; ends = refl; does = refl; taken = λ c. refl })
arrives ends number sent (ToServer from) = quiet (λ d. refl)

delivers : (ends : Ends) (number : ℕ) (found : Option SentBytes) → Happens ends (deliver_at ends number found).ends (deliver_acts ends found) (λ c. sent_for c found)
delivers ends number None = quiet (λ d. refl)
delivers ends number (Some sent) = arrives ends number sent sent.direction

-- a client joins where none was
joins_same : (ends : Ends) (server : ServerState) (c : ℕ) (place : Place) (answer : Result (Unit {0}) SlotError) → place.recording ≡ None → (answer ≡ Ok tt → slot_at ends.server c ≡ None)
    → HaveSlots ends → SameRecordings ends (joined (record ends { server = server }) c place answer).ends
joins_same ends server c place (Ok x) none free have = λ d. elim (cases_eq d c) [
  | inl same ↦ rw same (puts_none (place_at ends c) refl)
  | inr not ↦ rw (get_or-set_other ends.clients c d (Some place) None not) refl
]
  where
    free_slot : is_some (slot_at ends.server c) ≡ true → ⊥
    free_slot is = both (slot_at ends.server c) (free refl) is
      where
        both : {A : Type 0} (found : Option A) → found ≡ None → is_some found ≡ true → ⊥
        both None at is = absurd cc
        both (Some x) at is = absurd cc

    nothing_put : recording_at (place_at (with_place ends c place) c) ≡ None
    nothing_put = elim (cases_lt c (length ends.clients)) [
      | inl lt ↦ rw (get_or-set_same ends.clients c (Some place) None lt) none
      | inr ge ↦ rw (set_out ends.clients c (Some place) ge, get_or-eq_default ends.clients None ge) refl
    ]

    puts_none : (found : Option Place) → place_at ends c ≡ found → recording_at (place_at (with_place ends c place) c) ≡ recording_at (place_at ends c)
    puts_none None at = nothing_put ∙ ap recording_at (sym at)
    puts_none (Some old) at = absurd (free_slot (have c (rw at refl)))
joins_same ends server c place (Err e) none free have = λ d. refl

-- a line of a client's own that leaves its recording, and files alone
quiet_own : (ends : Ends) (c : ℕ) (event : Event) → ((place : Place) → recording_after place.recording (client_line place.client place.recording event) ≡ place.recording)
    → ((place : Place) → acts_in (client_line place.client place.recording event) ≡ [])
    → Happens ends (client_step ends c event).ends (place_acts (place_at ends c) event) (λ c. None)
quiet_own ends c event leaves spares = inr (record {
  same = same_client ends c event (place_at ends c) refl leaves;
  none = quiet_client event (place_at ends c) spares;
  untaken = λ c. refl;
})

-- an event either ends a recording, or begins one, or is of one of both kinds
pub by_kind : (P : Event → Type 0) (kept : Kept) → HaveSlots kept.ends → ((c : ℕ) → P (events.Stop c)) → ((c : ℕ) (name : List ℕ) → P (events.RecordTo c name))
    → ((event : Event) → ((c : ℕ) → is_stop c event ≡ false) → Happens kept.ends (kept_step kept event).kept.ends (acts_of kept event) (λ c. bytes_for kept event c) → P event)
    → (event : Event) → P event
unfolding kept_step line_of server_line acts_of line_acts
by_kind P kept have stop begun on (events.Client c challenge qport dup address) =
    let added = add_client_at kept.ends.server c challenge qport address in
    let facts = joins kept.ends.server c challenge qport address in
    let place : Place = record { client = new_client kept.profile challenge qport dup; address = address; recording = None } in
    on (events.Client c challenge qport dup address) (λ d. refl) (quiet (joins_same kept.ends added.server c place added.answer refl facts.free have))
by_kind P kept have stop begun on (events.Port c port) = on (events.Port c port) (λ d. refl) (quiet (same_port kept.ends c port (place_at kept.ends c) refl))
by_kind P kept have stop begun on (events.TypeText c text) = on (events.TypeText c text) (λ d. refl) (quiet_own kept.ends c (events.TypeText c text) (λ place. refl) (λ place. refl))
by_kind P kept have stop begun on (events.Move c one) = on (events.Move c one) (λ d. refl) (quiet_own kept.ends c (events.Move c one) (λ place. refl) (λ place. refl))
by_kind P kept have stop begun on (events.Show c) = on (events.Show c) (λ d. refl) (quiet_own kept.ends c (events.Show c) (λ place. refl) (λ place. refl))
by_kind P kept have stop begun on (events.Send c) = on (events.Send c) (λ d. refl) (quiet (same_sent kept c (place_at kept.ends c) refl))
by_kind P kept have stop begun on (events.Deliver number) = on (events.Deliver number) (λ d. refl) (delivers kept.ends number (slice_get kept.datagrams (number - 1)))
by_kind P kept have stop begun on (events.RecordTo c name) = begun c name
by_kind P kept have stop begun on (events.Stop c) = stop c
by_kind P kept have stop begun on (events.Toclient c bytes) =
    on (events.Toclient c bytes) (λ d. refl) (inl (record { client = c; front = fronts.Toclient c; bytes = bytes; ends = refl; does = refl; taken = λ d. refl }))
by_kind P kept have stop begun on (events.Toserver c bytes) = on (events.Toserver c bytes) (λ d. refl) (quiet (same_handed kept.ends c bytes (place_at kept.ends c)))
by_kind P kept have stop begun on event = on event (λ d. refl) (quiet (λ d. refl))
