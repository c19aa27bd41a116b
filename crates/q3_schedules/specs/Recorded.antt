-- What the file of a recording holds: the messages that its client applied.
use Rattle.std.specs.Prelude.{◌≡◌, ◌≢◌, ℕ, ◌==◌, ◌-◌, if◌then◌else◌, Bool, false, List, [], ◌∷◌, ◌++◌, Option, Some, None, Ok, slice_get}
use Rattle.std.specs.List.{AllByRecursion}
use Rattle.q3_io.specs.Acts.{after_acts}
use Rattle.q3_io.specs.Told.{Told, contents_of}
use Rattle.q3_window.specs.Outgoing.{issued_of}
use Rattle.q3_profile.specs.declared.profile.Profile.{Profile}
use Rattle.q3_script.specs.declared.event.Event.{Event}
use Rattle.q3_script.specs.declared.event.Event.TheVariants as events
use Rattle.q3_client.specs.declared.client.ClientTook.{ClientTook}
use Rattle.q3_client.specs.declared.client.ClientTook.TheVariants.{Applied}
use Rattle.q3_client.specs.Client.{ClientState, Taken, take_at}
use Rattle.q3_demo.specs.Recording.{Noted, recording}
use Rattle.q3_report.specs.declared.answer.HandedIn.TheVariants as handed
use Rattle.q3_report.specs.Answers.{Given}
use Rattle.q3_world.specs.declared.made.Direction.{Direction}
use Rattle.q3_world.specs.declared.made.Direction.TheVariants.{ToClient, ToServer}
use Rattle.q3_world.specs.declared.places.Place.{Place}
use Rattle.q3_world.specs.Ends.{place_at}
use Rattle.q3_world.specs.Kept.{SentBytes, Kept, opening_kept, kept_step}
use Rattle.q3_world.specs.Files.{acts_from}
use Rattle.q3_world.specs.ByTags.{kept_then}

-- the bytes that a client takes with an event, if it takes some
abbrev pub sent_to : ℕ → SentBytes → Direction → Option (List ℕ)
sent_to c sent ToClient = if sent.client == c then Some sent.bytes else None
sent_to c sent (ToServer from) = None

abbrev pub sent_for : ℕ → Option SentBytes → Option (List ℕ)
sent_for c None = None
sent_for c (Some sent) = sent_to c sent sent.direction

abbrev pub bytes_for : Kept → Event → ℕ → Option (List ℕ)
bytes_for kept (events.Deliver number) c = sent_for c (slice_get kept.datagrams (number - 1))
bytes_for kept (events.Toclient d bytes) c = if d == c then Some bytes else None
bytes_for kept other c = None

-- the message that it applied with that, if it did, with what it had before
abbrev pub noted_of : ClientState → Taken → ClientTook → List Noted
noted_of client taken (Applied applied) =
    record {
      before = client.state;
      issued = issued_of client.issued;
      message = taken.client.message;
      applied = record { state = taken.client.state; answer = applied; accepted = taken.accepted; heard = taken.heard };
    } ∷ []
noted_of client taken other = []

abbrev pub noted_at : Option Place → Option (List ℕ) → List Noted
noted_at (Some place) (Some bytes) =
    let taken = take_at place.client bytes in
    noted_of place.client taken taken.answer
noted_at place bytes = []

-- the messages that a client applies with these events, up to the first `stop` of it
abbrev pub is_stop : ℕ → Event → Bool
is_stop c (events.Stop d) = d == c
is_stop c other = false

unfoldable pub applied_until : Kept → List Event → ℕ → List Noted
applied_until kept [] c = []
applied_until kept (event ∷ events) c =
    if is_stop c event then []
    else noted_at (place_at kept.ends c) (bytes_for kept event c) ++ applied_until (kept_step kept event).kept events c

-- an event that is no `record` line of a name
abbrev pub MakesOther : List ℕ → Event → Type 0
MakesOther name (events.RecordTo c other) = other ≢ name
MakesOther name other = Unit {0}

-- the file that exactly one `record` line of a replay names, which is answered `ok`, holds in the end the recording of the messages that the
-- client applied after that line, whatever bytes arrive, and whatever files there were
abbrev pub RecordingIsItsMessages : Type 0
RecordingIsItsMessages = (profile : Profile) (first rest : List Event) (c : ℕ) (name : List ℕ) (told : Told)
    → AllByRecursion (MakesOther name) first → AllByRecursion (MakesOther name) rest
    → (kept_step (kept_then profile first) (events.RecordTo c name)).answer ≡ Given (handed.Record c (Ok tt))
    → contents_of (after_acts told (acts_from (opening_kept profile) (first ++ events.RecordTo c name ∷ rest))).files name
    ≡ Some (recording (applied_until (kept_step (kept_then profile first) (events.RecordTo c name)).kept rest c))
