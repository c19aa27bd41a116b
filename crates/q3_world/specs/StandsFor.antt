-- What is kept stands for a whole world: both ends are the same, and each datagram's bytes are those of the message
-- that its tag names.
use Rattle.std.specs.Prelude.{◌≡◌, ℕ, zero, suc, ◌+◌, ◌^◌, ◌<◌, ◌≤◌, ◌⊎◌, ◌↔◌, true, false, List, [], ◌∷◌, ◌++◌, length, map, All, Contains, Option, Some, None, IfSome, slice_index_or}
use Rattle.std.specs.List.{last_or}
use Rattle.q3_profile.specs.declared.profile.Profile.{Profile}
use Rattle.q3_profile.specs.Profile.{IsCodec, IsProfile}
use Rattle.q3_io.specs.declared.address.Address.{Address}
use Rattle.q3_chan.specs.Checks.{check_for}
use Rattle.q3_chan.specs.Datagrams.{Header, server_form, client_form, server_header, client_header, sequence_end, piece_count, datagram}
use Rattle.q3_chan.specs.Sending.{Sending}
use Rattle.q3_chan.specs.Laws.{IsSendable, Gathers, Sends}
use Rattle.q3_text.specs.declared.text.Command.{Command}
use Rattle.q3_text.specs.Texts.{IsText}
use Rattle.q3_window.specs.Outgoing.{IsOutgoing}
use Rattle.q3_window.specs.Flow.{Carriage, Flow}
use Rattle.q3_clmsg.specs.declared.moves.Move.{Move}
use Rattle.q3_clmsg.specs.Moves.{IsMove}
use Rattle.q3_svmsg.specs.Values as told
use Rattle.q3_svmsg.specs.Values.{Told}
use Rattle.q3_entity_ring.specs.Snapshot.{Snapshot}
use Rattle.q3_frames.specs.Frames.{FramesState, AreFrames, held_frame}
use Rattle.q3_rings.specs.Rings.{view_at}
use Rattle.q3_rings.specs.Accepted.{SnapshotsStandFor}
use Rattle.q3_map.specs.Map.{MapState}
use Rattle.q3_built.specs.Built.{Built, IsHeld, IsArea, IsBuilt, built_bytes}
use Rattle.q3_slot.specs.Slot.{SlotState}
use Rattle.q3_slot.specs.Taking.{last_time}
use Rattle.q3_server.specs.Standing.{IsMap, HoldSnapshots}
use Rattle.q3_server.specs.Server.{places, slot_at}
use Rattle.q3_server.specs.Taking.{sender_of}
use Rattle.q3_clstate.specs.Standing.{IsApplied}
use Rattle.q3_client.specs.declared.moves.Issued.{Issued}
use Rattle.q3_client.specs.Client.{ClientState}
use Rattle.q3_client.specs.Moves.{most_moves}
use Rattle.q3_client.specs.Sending.{said_bytes, Said, IsSaid}
use Rattle.q3_world.specs.declared.made.Direction.{Direction}
use Rattle.q3_world.specs.declared.made.Direction.TheVariants.{ToClient, ToServer}
use Rattle.q3_world.specs.declared.places.Place.{Place}
use Rattle.q3_world.specs.Ends.{place_at}
use Rattle.q3_world.specs.Kept.{Kept}
use Rattle.q3_world.specs.World.{Tag, History, Whole, no_history, history_at, built_at, said_at, bytes_of}
use Rattle.q3_world.specs.Moves.{TimesRise, AreConsecutive}
use Rattle.q3_world.specs.Games.{accepted_since, standing_of, AreSince, AreMapped}
use Rattle.q3_slot.specs.Slots.{changes_own}

-- a profile that passed its check
pub record IsChecked (profile : Profile) : Type 0 where
  pub codec : IsCodec profile
  pub rings : IsProfile profile

-- ---- what each end keeps by itself

-- the bytes of the message under a number, which the server built for a client, and which the client began; the number 0 has
-- none
abbrev pub messages_of : Profile → List Built → ℕ → List ℕ
messages_of profile built zero = []
messages_of profile built (suc number) = built_bytes profile (built_at built (suc number))

abbrev pub messages_said : Profile → List Said → ℕ → List ℕ
messages_said profile said zero = []
messages_said profile said (suc number) = said_bytes profile (said_at said (suc number))

-- an end, by its header, began so many messages, each of which may be sent, and has one of them under way or none
pub record BeginsMessages (header : Header) (messages : ℕ → List ℕ) (count : ℕ) (sending : Sending) : Type 0 where
  pub begun : sending.number ≡ count
  pub short : count < sequence_end
  pub header_is : sending.header ≡ header
  pub sends : Sends messages sending
  pub sendable : (number : ℕ) → 1 ≤ number → number ≤ count → IsSendable (messages number)

-- the snapshot that a section has, if it has one
abbrev pub snapshot_in : Told → Option Snapshot
snapshot_in (told.Snap base head entities) = Some (record { head = head; entities = entities })
snapshot_in other = None

-- a snapshot was built under its number
abbrev pub WasBuilt : List Built → Snapshot → Type 0
WasBuilt built snapshot =
    (1 ≤ snapshot.head.number) × (snapshot.head.number ≤ length built)
    × (snapshot_in (built_at built snapshot.head.number).message.section ≡ Some snapshot)

-- a snapshot was built under a number
abbrev pub HasSnapshot : List Built → ℕ → Type 0
HasSnapshot built number = (snapshot : Snapshot) × (snapshot_in (built_at built number).message.section ≡ Some snapshot)

-- the frames that a slot holds under numbers of messages that were begun with a snapshot are what was built under them; under the
-- number of a gamestate, and past the last number, one may be left of a message that proved too long
abbrev pub AreOfBuilt : FramesState → ℕ → List Built → Type 0
AreOfBuilt frames c began = (number : ℕ) (snapshot : Snapshot) → held_frame frames c number ≡ Some snapshot → 1 ≤ number → number ≤ length began → HasSnapshot began number
    → (snapshot.head.number ≡ number) × WasBuilt began snapshot

-- what the server keeps of a client that joined with this qport from this host, what it built for it, each against a base that
-- was built before, the moves of it that it ran: their times rise, up to the one that it keeps; and the commands that it issued for it,
-- none of which changes the map's id
pub record KeepsSlot (profile : Profile) (slot : SlotState) (of_qport of_host : ℕ) (began : List Built) (ran : List Move) (commands : List (List ℕ)) : Type 0 where
  pub qport : slot.qport ≡ of_qport
  pub host : slot.address.host ≡ of_host
  pub sending : BeginsMessages (server_header (check_for profile.protocol slot.challenge)) (messages_of profile began) (length began) slot.sending
  pub player : IsHeld profile slot.player
  pub area : IsArea slot.area.items
  pub built : (k : ℕ) (d : Built) → k < length began → IsBuilt profile slot.challenge (k + 1) (slice_index_or began k d)
  pub bases : All (λ (built : Built). IfSome built.base (WasBuilt began)) began
  pub from : slot.gathering.form ≡ client_form (check_for profile.protocol slot.challenge)
  pub last : last_time 0 ran ≤ slot.last_run
  pub rise : TimesRise 0 ran
  pub window : IsOutgoing slot.issued
  pub texts : All IsText commands
  pub own : All (λ text. changes_own text ≡ false) commands

-- of each move, how many messages were begun before it: that doesn't fall, and is at most as many as were begun
abbrev pub MarksRise : ℕ → ℕ → List Issued → Type 0
MarksRise least most [] = Unit {0}
MarksRise least most (issued ∷ others) = (least ≤ issued.begun) × (issued.begun ≤ most) × MarksRise issued.begun most others

-- the moves that a client keeps are the newest that it issued
pub record KeepsMoves (moves : List Issued) (begun : ℕ) (issued : List Move) : Type 0 where
  pub before : List Move
  pub newest : issued ≡ before ++ map (λ (i : Issued). i.one) moves
  pub few : length moves ≤ most_moves
  pub marks : MarksRise 0 begun moves
  pub each : All (λ (i : Issued). IsMove i.one) moves

-- what a client keeps that joined with this qport: all that the messages left is well formed; what it said, the moves that it issued: their times rise, and those of
-- each message were issued one directly after the other; and the commands that it issued
pub record KeepsClient (profile : Profile) (client : ClientState) (of_qport : ℕ) (began : List Said) (issued : List Move) (commands : List (List ℕ)) : Type 0 where
  pub by : client.state.profile ≡ profile
  pub applied : IsApplied client.state
  pub ring : client.state.held.ring ≡ profile.parse_ring
  pub from : client.gathering.form ≡ server_form (check_for profile.protocol client.challenge)
  pub qport : client.qport ≡ of_qport
  pub fits : of_qport < 2 ^ 16
  pub sending : BeginsMessages (client_header (check_for profile.protocol client.challenge) of_qport) (messages_said profile began) (length began) client.sending
  pub said : (k : ℕ) (d : Said) → k < length began → IsSaid profile client.challenge (slice_index_or began k d)
  pub last : client.last_time ≡ last_time 0 issued
  pub rise : TimesRise 0 issued
  pub moves : KeepsMoves client.moves (length began) issued
  pub carried : (k : ℕ) (d : Said) → k < length began → AreConsecutive (slice_index_or began k d).message.moves issued
  pub window : IsOutgoing client.issued
  pub texts : All IsText commands

-- what both ends of a client keep, and from which host it sends
pub record AreEnds (profile : Profile) (slot : SlotState) (client : ClientState) (address : Address) (history : History) : Type 0 where
  pub of_slot : KeepsSlot profile slot history.qport history.host history.built history.run history.server_commands
  pub of_client : KeepsClient profile client history.qport history.said history.issued history.client_commands
  pub challenge : slot.challenge ≡ client.challenge
  pub joined : slot.challenge ≡ history.challenge
  pub host : address.host ≡ history.host

-- a client is at both ends or at none
abbrev pub IsClient : Profile → Option SlotState → Option Place → History → Type 0
IsClient profile None None history = history ≡ no_history
IsClient profile (Some slot) (Some place) history = AreEnds profile slot place.client place.address history
IsClient profile slot place history = ⊥

-- a datagram carries a piece of a message that was begun, and has its bytes
pub record IsPiece (header : Header) (messages : ℕ → List ℕ) (last : ℕ) (tag : Tag) : Type 0 where
  pub some : 1 ≤ tag.number
  pub begun : tag.number ≤ last
  pub piece : tag.index < piece_count (length (messages tag.number))
  pub bytes : tag.bytes ≡ datagram header tag.number (messages tag.number) tag.index

-- of a message that was built for its client, or of one that its client began and sent from its host
abbrev pub IsWay : Profile → History → Tag → Direction → Type 0
IsWay profile history tag ToClient = IsPiece (server_header (check_for profile.protocol history.challenge)) (messages_of profile history.built) (length history.built) tag
IsWay profile history tag (ToServer from) =
    (from.host ≡ history.host) × IsPiece (client_header (check_for profile.protocol history.challenge) history.qport) (messages_said profile history.said) (length history.said) tag

-- a tag names a message that was begun, and has its bytes
pub record IsSent (profile : Profile) (histories : List History) (tag : Tag) : Type 0 where
  pub client : tag.client < places
  pub way : IsWay profile (history_at histories tag.client) tag tag.direction

-- the server has frames for each client, each a snapshot as it is built, and they are what was built for it
pub record KeepsFrames (profile : Profile) (frames : FramesState) (histories : List History) : Type 0 where
  pub are : AreFrames frames
  pub snapshots : HoldSnapshots profile frames
  pub count : length frames.slots ≡ places
  pub each : (c : ℕ) → c < places → AreOfBuilt frames c (history_at histories c).built

-- what holds of the whole world: its parts have a place for each client, what the game handed in is as the server holds it, each
-- client is at both ends or at none, the server finds it by its host and its qport, and each tag and each frame is so
pub record Facts (profile : Profile) (whole : Whole) : Type 0 where
  pub checked : IsChecked profile
  pub by : whole.ends.server.profile ≡ profile
  pub slots : length whole.ends.server.slots ≡ places
  pub clients : length whole.ends.clients ≡ places
  pub histories : length whole.histories ≡ places
  pub map : IsMap profile whole.ends.server.map
  pub each : (c : ℕ) → c < places
      → IsClient profile (slot_at whole.ends.server c) (place_at whole.ends c) (history_at whole.histories c)
  pub found : (c : ℕ) (slot : SlotState) → slot_at whole.ends.server c ≡ Some slot
      → sender_of whole.ends.server slot.address.host slot.qport ≡ Some c
  pub sent : (k : ℕ) (d : Tag) → k < length whole.sent → IsSent profile whole.histories (slice_index_or whole.sent k d)
  pub frames : KeepsFrames profile whole.ends.server.frames whole.histories

-- ---- what joins the two ends of a client

-- numbers rise
abbrev pub Rise : List Snapshot → Type 0
Rise snapshots = (j k : ℕ) (d : Snapshot) → j < k → k < length snapshots
    → (slice_index_or snapshots j d).head.number < (slice_index_or snapshots k d).head.number

-- a snapshot of a number was accepted
abbrev pub WasAccepted : List Snapshot → ℕ → Type 0
WasAccepted accepted number = (snapshot : Snapshot) × Contains accepted snapshot × (snapshot.head.number ≡ number)

-- a client takes and gathers only what was built for it, so it wasn't dropped; each snapshot that it accepted was built, their
-- numbers rise, what it holds is what it accepted since the last gamestate, and the newest that it lends is the last; none is above the
-- newest number taken, and it asks for deltas exactly where the snapshot of that number was accepted since
pub record TakesBuilt (profile : Profile) (client : ClientState) (began : List Built) (took since : List Snapshot) : Type 0 where
  pub accepted : All (WasBuilt began) took
  pub rise : Rise took
  pub stands : SnapshotsStandFor since client.state.held
  pub shows : view_at client.state.held client.state.held.newest ≡ last_or None since
  pub below : client.state.held.newest ≤ client.gathering.taken
  pub most : All (λ (snapshot : Snapshot). snapshot.head.number ≤ client.gathering.taken) took
  pub asks : (client.delta ≡ true) ↔ WasAccepted since client.gathering.taken
  pub gathers : Gathers (messages_of profile began) (length began) client.gathering
  pub legible : client.dropped ≡ None

-- a slot takes and gathers only what its client began, and each move that was run was issued
pub record TakesSaid (profile : Profile) (slot : SlotState) (said : List Said) (issued run : List Move) : Type 0 where
  pub gathers : Gathers (messages_said profile said) (length said) slot.gathering
  pub ran : All (Contains issued) run

-- each snapshot against which a client asks to write others was accepted; the one against which its slot writes is none or was
-- accepted; and so was each base against which a message was built
pub record AreAsked (slot : SlotState) (said : List Said) (began : List Built) (accepted : List Snapshot) : Type 0 where
  pub asks : All (λ (message : Said). message.message.delta ≡ true → WasAccepted accepted message.message.acknowledged) said
  pub delta : (slot.delta ≡ 0) ⊎ WasAccepted accepted slot.delta
  pub bases : All (λ (built : Built). IfSome built.base (Contains accepted)) began

-- what each message carries, and what it acknowledges: of those built, and of those said
abbrev pub carried_built : List Built → List Carriage
carried_built began = map (λ (b : Built). record { last = b.last; commands = b.message.commands }) began

abbrev pub acks_built : List Built → List Command
acks_built began = map (λ (b : Built). record { number = b.message.ack; text = b.key.text }) began

abbrev pub carried_said : List Said → List Carriage
carried_said began = map (λ (s : Said). record { last = s.last; commands = s.message.commands }) began

abbrev pub acks_said : List Said → List Command
acks_said began = map (λ (s : Said). record { number = s.message.command; text = s.key.text }) began

-- the commands of the server on their way to a client, and those of the client on theirs to the server: each end executed a front
-- of what the other issued, and each window has the texts by which the messages to come are scrambled by protocol 68
pub record AreCommanded (slot : SlotState) (client : ClientState) (history : History) : Type 0 where
  pub to_client : Flow slot.issued client.state.executed history.server_commands history.client_executed (carried_built history.built)
      (acks_said history.said) slot.gathering.taken client.gathering.taken
  pub to_server : Flow client.issued slot.executed history.client_commands history.server_executed (carried_said history.said)
      (acks_built history.built) client.gathering.taken slot.gathering.taken

-- what joins the two ends of a client
pub record AreJoined (profile : Profile) (map : MapState) (slot : SlotState) (client : ClientState) (history : History) : Type 0 where
  pub of_client : TakesBuilt profile client history.built history.accepted (accepted_since history.games history.accepted)
  pub of_slot : TakesSaid profile slot history.said history.issued history.run
  pub asked : AreAsked slot history.said history.built history.accepted
  pub commanded : AreCommanded slot client history
  pub mapped : AreMapped map (standing_of slot) client.state client.gathering.taken client.last_time history.built history.games history.said history.accepted
      history.client_executed
  pub since : AreSince history.games client.moves

-- of a client that is at both ends
abbrev pub IsJoined : Profile → MapState → Option SlotState → Option Place → History → Type 0
IsJoined profile map (Some slot) (Some place) history = AreJoined profile map slot place.client history
IsJoined profile map slot place history = Unit {0}

-- of every client
abbrev pub AllJoined : Profile → Whole → Type 0
AllJoined profile whole = (c : ℕ) → c < places
    → IsJoined profile whole.ends.server.map (slot_at whole.ends.server c) (place_at whole.ends c) (history_at whole.histories c)

-- ---- the two worlds

-- the ends are the same, each datagram has the bytes of its tag, and, as long as no line handed other bytes to an end, all of the
-- above holds
pub record StandsFor (profile : Profile) (kept : Kept) (whole : Whole) : Type 0 where
  pub by : kept.profile ≡ profile
  pub ends : kept.ends ≡ whole.ends
  pub datagrams : kept.datagrams ≡ map bytes_of whole.sent
  pub facts : whole.foreign ≡ false → Facts profile whole
  pub joined : whole.foreign ≡ false → AllJoined profile whole
