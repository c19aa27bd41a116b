-- What the program's world keeps, and what an event does to it: datagrams are taken by their bytes.
use Rattle.std.specs.Prelude.{ℕ, ◌+◌, ◌-◌, ◌^◌, List, [], ◌∷◌, ◌++◌, length, Option, Some, None, option_map, Ok, Err, slice_get}
use Rattle.q3_profile.specs.declared.profile.Profile.{Profile}
use Rattle.q3_script.specs.declared.event.Event.{Event}
use Rattle.q3_chan.specs.Sending.{Piece}
use Rattle.q3_server.specs.Server.{Emission, emit_at}
use Rattle.q3_client.specs.Sending as speaks
use Rattle.q3_report.specs.declared.answer.Front.TheVariants as fronts
use Rattle.q3_report.specs.declared.answer.TakeRefused.TheVariants as refused
use Rattle.q3_report.specs.Answers.{Answered, Served, SentOut, Untaken, Bytes}
use Rattle.q3_ends.specs.Recording.{asking}
use Rattle.q3_world.specs.declared.made.Direction.{Direction}
use Rattle.q3_world.specs.declared.made.Direction.TheVariants.{ToClient, ToServer}
use Rattle.q3_world.specs.declared.places.Place.{Place}
use Rattle.q3_world.specs.Ends.{Ends, EndsStep, place_at, with_client, new_ends, client_takes, server_takes, Line, Hands, Serves, Sends, Delivers, TellsBytes, HandsBytes, line_of}

-- a datagram that was made: the client that it is for or comes from, which of the two, and its bytes
pub record SentBytes : Type 0 where
  pub client : ℕ
  pub direction : Direction
  pub bytes : List ℕ

-- datagrams have numbers of 32 bits
abbrev pub most_datagrams : ℕ
most_datagrams = 2 ^ 32 - 1

-- by which profile, both ends, and every datagram that was made
pub record Kept : Type 0 where
  pub profile : Profile
  pub ends : Ends
  pub datagrams : List SentBytes

-- what is kept after an event, and the answer
pub record KeptStep : Type 0 where
  pub kept : Kept
  pub answer : Answered

-- before the first event
abbrev pub opening_kept : Profile → Kept
opening_kept profile = record { profile = profile; ends = new_ends profile; datagrams = [] }

-- the ends after a line, and its answer
abbrev pub kept_ends : Kept → EndsStep → KeptStep
kept_ends kept step = record { kept = record kept { ends = step.ends }; answer = step.answer }

-- the datagrams, and after them what an emission for a client, or of a client, hands out
abbrev pub datagrams_after : List SentBytes → ℕ → Direction → Option Piece → List SentBytes
datagrams_after datagrams c direction None = datagrams
datagrams_after datagrams c direction (Some piece) = datagrams ++ record { client = c; direction = direction; bytes = piece.bytes } ∷ []

-- the server makes a datagram, which is kept if it is handed out
abbrev pub kept_serve : Kept → ℕ → Emission → KeptStep
kept_serve kept c emission =
    record {
      kept = record kept {
        ends = record kept.ends { server = emission.server };
        datagrams = datagrams_after kept.datagrams c ToClient emission.piece;
      };
      answer = Served c emission.answer (length kept.datagrams + 1);
    }

-- a client makes a datagram, which is kept if it is handed out
abbrev pub kept_said : Kept → ℕ → Place → speaks.Emission → KeptStep
kept_said kept c place emission =
    record {
      kept = record kept {
        ends = with_client kept.ends c place emission.client;
        datagrams = datagrams_after kept.datagrams c (ToServer place.address) emission.piece;
      };
      answer = SentOut c (Ok emission.answer) (length kept.datagrams + 1);
    }

-- a datagram of the client at a place, if there is one: it asks for whole snapshots exactly while its recording waits
abbrev pub kept_send : Kept → ℕ → Option Place → KeptStep
kept_send kept c None = record { kept = kept; answer = SentOut c (Err (record {})) (length kept.datagrams + 1) }
kept_send kept c (Some place) = kept_said kept c place (speaks.emit_at (asking place.client place.recording))

-- the end that a datagram goes to takes it
abbrev pub arrive_at : Ends → ℕ → SentBytes → Direction → EndsStep
arrive_at ends number sent ToClient = client_takes ends sent.client (fronts.Deliver number) sent.bytes (place_at ends sent.client)
arrive_at ends number sent (ToServer from) = server_takes ends (fronts.Deliver number) from sent.bytes

-- the datagram of a number, if it was made, arrives
abbrev pub deliver_at : Ends → ℕ → Option SentBytes → EndsStep
deliver_at ends number None = record { ends = ends; answer = Untaken (fronts.Deliver number) refused.Unknown }
deliver_at ends number (Some sent) = arrive_at ends number sent sent.direction

-- the bytes of the datagram of a number, if it was made
abbrev pub kept_bytes : List SentBytes → ℕ → Option (List ℕ)
kept_bytes datagrams number = option_map (λ (sent : SentBytes). sent.bytes) (slice_get datagrams (number - 1))

-- what a line does
abbrev pub kept_line : Kept → Line → KeptStep
kept_line kept (Hands step) = kept_ends kept step
kept_line kept (Serves c) = kept_serve kept c (emit_at kept.ends.server c)
kept_line kept (Sends c) = kept_send kept c (place_at kept.ends c)
kept_line kept (Delivers number) = kept_ends kept (deliver_at kept.ends number (slice_get kept.datagrams (number - 1)))
kept_line kept (TellsBytes number) = record { kept = kept; answer = Bytes number (kept_bytes kept.datagrams number) }
kept_line kept (HandsBytes c step) = kept_ends kept step

-- one event
unfoldable pub kept_step : Kept → Event → KeptStep
kept_step kept event = kept_line kept (line_of kept.profile kept.ends event)

-- what is kept after these events
unfoldable pub kept_after : Kept → List Event → Kept
kept_after kept [] = kept
kept_after kept (event ∷ events) = kept_after (kept_step kept event).kept events

-- what these events answer
unfoldable pub kept_answers : Kept → List Event → List Answered
kept_answers kept [] = []
kept_answers kept (event ∷ events) = (kept_step kept event).answer ∷ kept_answers (kept_step kept event).kept events
