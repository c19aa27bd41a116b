-- A line by bytes of what is kept is one of the whole world, once a line handed other bytes to an end.
use Rattle.std.proofs.Common.{List, None, Option, Some, [], refl, sym, true, ◌-◌, ◌∷◌, ◌≡◌, ℕ}
use Rattle.std.specs.Prelude.{map, slice_get}
use Rattle.std.specs.Option.{option_map}
use Rattle.std.proofs.lemmas.List.{length-map, map-append}
use Rattle.std.proofs.lemmas.Option.{slice_get-map}
use Rattle.q3_profile.specs.declared.profile.Profile.{Profile}
use Rattle.q3_chan.specs.Sending.{Piece}
use Rattle.q3_server.specs.Server.{Emission, emit_at}
use Rattle.q3_client.specs.Sending as speaks
use Rattle.q3_ends.specs.Recording.{asking}
use Rattle.q3_report.specs.Answers.{Answered}
use Rattle.q3_world.specs.declared.made.Direction.{Direction}
use Rattle.q3_world.specs.declared.made.Direction.TheVariants.{ToClient, ToServer}
use Rattle.q3_world.specs.declared.places.Place.{Place}
use Rattle.q3_world.specs.Ends.{EndsStep, place_at, Line, Hands, Serves, Sends, Delivers, TellsBytes, HandsBytes}
use Rattle.q3_world.specs.Kept.{SentBytes, datagrams_after, deliver_at, kept_bytes, kept_ends, kept_said, kept_send, kept_serve, kept_line}
use Rattle.q3_world.specs.World.{Tag, Whole, History, deliver_as, say, send, sent_after, sent_bytes, serve, whole_line, with_handed, bytes_of}
use Rattle.q3_world.proofs.StepsByTags.{kept_of, seen}

-- what an emission hands out
made_seen : (sent : List Tag) (c : ℕ) (direction : Direction) (piece : Option Piece) → datagrams_after (map bytes_of sent) c direction piece ≡ map bytes_of (sent_after sent c direction piece)
made_seen sent c direction None = refl
made_seen sent c direction (Some piece) =
    sym (map-append bytes_of sent (record { client = c; direction = direction; number = piece.number; index = piece.index; bytes = piece.bytes } ∷ []))

serve_seen : (profile : Profile) (whole : Whole) (c : ℕ) (emission : Emission) → kept_serve (kept_of profile whole) c emission ≡ seen profile (serve whole c emission)
serve_seen profile whole c emission = rw (length-map whole.sent bytes_of, made_seen whole.sent c ToClient emission.piece) refl

said_seen : (profile : Profile) (whole : Whole) (c : ℕ) (place : Place) (emission : speaks.Emission) → kept_said (kept_of profile whole) c place emission ≡ seen profile (say whole c place emission)
said_seen profile whole c place emission = rw (length-map whole.sent bytes_of, made_seen whole.sent c (ToServer place.address) emission.piece) refl

send_seen : (profile : Profile) (whole : Whole) (c : ℕ) (found : Option Place) → kept_send (kept_of profile whole) c found ≡ seen profile (send whole c found)
send_seen profile whole c None = rw (length-map whole.sent bytes_of) refl
send_seen profile whole c (Some place) = said_seen profile whole c place (speaks.emit_at (asking place.client place.recording))

-- bytes that arrive
delivers_seen : (profile : Profile) (whole : Whole) (number : ℕ) → whole.foreign ≡ true
    → kept_ends (kept_of profile whole) (deliver_at whole.ends number (slice_get (map bytes_of whole.sent) (number - 1)))
    ≡ seen profile (deliver_as whole.foreign profile whole number (slice_get whole.sent (number - 1)))
delivers_seen profile whole number foreign = rw (foreign, slice_get-map bytes_of whole.sent (number - 1)) refl

pub handed_seen : (profile : Profile) (whole : Whole) (found : Option Place) (step : EndsStep) → kept_ends (kept_of profile whole) step ≡ seen profile (with_handed whole found step)
handed_seen profile whole None step = refl
handed_seen profile whole (Some place) step = refl

-- the bytes of a datagram
bytes_are : (found : Option Tag) → option_map (λ (s : SentBytes). s.bytes) (option_map bytes_of found) ≡ option_map (λ (t : Tag). t.bytes) found
bytes_are None = refl
bytes_are (Some tag) = refl

pub bytes_seen : (sent : List Tag) (number : ℕ) → kept_bytes (map bytes_of sent) number ≡ sent_bytes sent number
bytes_seen sent number = rw (slice_get-map bytes_of sent (number - 1)) (bytes_are (slice_get sent (number - 1)))

-- every line
pub line_seen : (profile : Profile) (whole : Whole) (note : Answered → List History) (line : Line) → whole.foreign ≡ true
    → kept_line (kept_of profile whole) line ≡ seen profile (whole_line profile whole note line)
line_seen profile whole note (Hands step) foreign = refl
line_seen profile whole note (Serves c) foreign = serve_seen profile whole c (emit_at whole.ends.server c)
line_seen profile whole note (Sends c) foreign = send_seen profile whole c (place_at whole.ends c)
line_seen profile whole note (Delivers number) foreign = delivers_seen profile whole number foreign
line_seen profile whole note (TellsBytes number) foreign = rw (bytes_seen whole.sent number) refl
line_seen profile whole note (HandsBytes c step) foreign = handed_seen profile whole (place_at whole.ends c) step
