-- An event of one client leaves what the others have.
use Rattle.std.specs.Prelude.{◌≡◌, ◌≢◌, ℕ, ◌-◌, Option, Some, None, IfSome, slice_get}
use Rattle.q3_frames.specs.Frames.{FramesState}
use Rattle.q3_script.specs.declared.event.Event.{Event}
use Rattle.q3_script.specs.declared.event.Event.TheVariants.{Client, Port, Map, Player, Area, Config, Say, TypeText, Move, Serve, Send, Deliver, RecordTo, Stop, Toclient, Toserver}
use Rattle.q3_server.specs.Server.{slot_at}
use Rattle.q3_server.specs.Apart.{LosesByRing, taker_of}
use Rattle.q3_world.specs.declared.made.Direction.{Direction}
use Rattle.q3_world.specs.declared.made.Direction.TheVariants.{ToClient, ToServer}
use Rattle.q3_world.specs.Ends.{Ends, place_at}
use Rattle.q3_world.specs.Kept.{SentBytes, Kept, kept_step}

-- a datagram is neither for the client at a place nor found to be of it
abbrev pub IsOfOther : Ends → ℕ → SentBytes → Direction → Type 0
IsOfOther ends d sent ToClient = d ≢ sent.client
IsOfOther ends d sent (ToServer from) = taker_of ends.server from sent.bytes ≢ Some d

-- nor is the datagram of a number, if it was made
abbrev pub IsOfOthers : Ends → ℕ → Option SentBytes → Type 0
IsOfOthers ends d None = Unit {0}
IsOfOthers ends d (Some sent) = IsOfOther ends d sent sent.direction

-- an event isn't of the client at a place: it names another one, or hands an end bytes that aren't for that client. A new map, and a
-- change of a config string, are of every client; the time, entities and baselines are of none
abbrev pub IsApart : Kept → Event → ℕ → Type 0
IsApart kept (Client c challenge qport dup address) d = d ≢ c
IsApart kept (Port c port) d = d ≢ c
IsApart kept (Map id feed) d = ⊥
IsApart kept (Config index text) d = ⊥
IsApart kept (Player c player) d = d ≢ c
IsApart kept (Area c area) d = d ≢ c
IsApart kept (Say c text) d = d ≢ c
IsApart kept (TypeText c text) d = d ≢ c
IsApart kept (Move c one) d = d ≢ c
IsApart kept (Serve c) d = d ≢ c
IsApart kept (Send c) d = d ≢ c
IsApart kept (Deliver number) d = IsOfOthers kept.ends d (slice_get kept.datagrams (number - 1))
IsApart kept (RecordTo c name) d = d ≢ c
IsApart kept (Stop c) d = d ≢ c
IsApart kept (Toclient c bytes) d = d ≢ c
IsApart kept (Toserver c bytes) d = IfSome (place_at kept.ends c) (λ place. taker_of kept.ends.server place.address bytes ≢ Some d)
IsApart kept other d = Unit {0}

-- where another client is served a slot loses frames by the ring alone; any other event leaves the frames of all slots as they were
abbrev pub FramesAreLeft : Event → ℕ → FramesState → FramesState → Type 0
FramesAreLeft (Serve c) d old new = LosesByRing d old new
FramesAreLeft other d old new = new ≡ old

-- a client has the same slot, its frames are left, and at its place are the same end, address and recording
pub record IsLeft (event : Event) (d : ℕ) (old new : Ends) : Type 0 where
  pub slot : slot_at new.server d ≡ slot_at old.server d
  pub frames : FramesAreLeft event d old.server.frames new.server.frames
  pub place : place_at new d ≡ place_at old d

-- an event that isn't of a client leaves its slot, its end, its address and its recording, and its frames but for what the ring's room
-- takes where another is served, in every state and whatever bytes arrive
abbrev pub SlotsApart : Type 0
SlotsApart = (kept : Kept) (event : Event) (d : ℕ) → IsApart kept event d → IsLeft event d kept.ends (kept_step kept event).kept.ends
