-- Laws over every list of events.
use Rattle.std.specs.Prelude.{ℕ, ◌≡◌, ◌↔◌, ◌⊎◌, ◌||◌, ◌+◌, ◌-◌, ◌<◌, Bool, true, false, List, [], ◌∷◌, ◌++◌, length, map, filter, take, replicate, ◌≤◌, All, Contains, Option, Some, None, IfSome, MatchOption, Ok, slice_get, slice_index_or}
use Rattle.std.specs.List.{AllByRecursion, last_or, range_with_len}
use Rattle.q3_clmsg.specs.declared.moves.Move.{Move}
use Rattle.q3_profile.specs.declared.profile.Profile.{Profile}
use Rattle.q3_script.specs.declared.event.Event.{Event}
use Rattle.q3_script.specs.declared.event.Event.TheVariants as events
use Rattle.q3_script.specs.Grammar.{IsReplayEvent}
use Rattle.q3_entity_ring.specs.Snapshot.{Snapshot}
use Rattle.q3_rings.specs.declared.rings.NoBase.TheVariants.{NeverHeld, Overwritten}
use Rattle.q3_rings.specs.Rings.{held_snapshot, view_at}
use Rattle.q3_rings.specs.Accepted.{held_among}
use Rattle.q3_clstate.specs.State.{AppliedState}
use Rattle.q3_clstate.specs.declared.applied.Applied.{Applied as AppliedSo}
use Rattle.q3_clstate.specs.declared.applied.SnapOutcome.{SnapOutcome}
use Rattle.q3_clstate.specs.declared.applied.SnapOutcome.TheVariants.{NoSnap, Accepted, Skipped, Stale}
use Rattle.q3_client.specs.declared.client.ClientTook.{ClientTook}
use Rattle.q3_client.specs.declared.client.ClientTook.TheVariants.{Runt, Connectionless, BadCheck, BadFragment, Illegible, Dropped, Applied}
use Rattle.q3_client.specs.declared.client.Sent.TheVariants as sent
use Rattle.q3_slot.specs.declared.taking.ServerTook.{ServerTook}
use Rattle.q3_slot.specs.declared.taking.ServerTook.TheVariants as took
use Rattle.q3_io.specs.declared.address.Address.{Address}
use Rattle.q3_chan.specs.declared.gatherer.Gathered.TheVariants.{Whole as CameWhole}
use Rattle.q3_chan.specs.Datagrams.{sequence_end, longest_message, piece_count, last_index}
use Rattle.q3_chan.specs.Sending.{IsIdle}
use Rattle.q3_chan.specs.Gathering.{gathered}
use Rattle.q3_report.specs.declared.answer.Front.TheVariants as fronts
use Rattle.q3_report.specs.declared.answer.TakeRefused.{TakeRefused}
use Rattle.q3_report.specs.declared.answer.TakeRefused.TheVariants as refused
use Rattle.q3_report.specs.Answers.{Answered, ByClient, ByServer, SentOut, Took, Untaken, ran_in, snapshot_in}
use Rattle.q3_world.specs.declared.made.Direction.TheVariants as direction
use Rattle.q3_built.specs.Built.{Built, number_of, IsNear, is_unclear, built_bytes}
use Rattle.q3_slot.specs.Slot.{SlotState, is_active}
use Rattle.q3_slot.specs.Emitting.{next_snapshot, begun_next, most_placed}
use Rattle.q3_map.specs.Map.{MapState, is_other}
use Rattle.q3_client.specs.Sending.{Said, wants_delta}
use Rattle.q3_slot.specs.Taking.{Playing, asks_game, goes_on, heads_of, nothing_heard}
use Rattle.q3_server.specs.Server.{ServerState, places, slot_at}
use Rattle.q3_client.specs.Client.{ClientState}
use Rattle.q3_world.specs.Moves.{TimesRise, StandAmong}
use Rattle.q3_ends.specs.Recording.{asking, waits_in}
use Rattle.q3_world.specs.declared.places.Place.{Place}
use Rattle.q3_world.specs.Ends.{Ends, client_at, place_at, newest}
use Rattle.q3_world.specs.Kept.{SentBytes, opening_kept, kept_step, kept_answers}
use Rattle.q3_world.specs.declared.made.Direction.{Direction}
use Rattle.q3_text.specs.declared.text.Command.{Command}
use Rattle.q3_text.specs.Commands.{numbered}
use Rattle.q3_window.specs.Incoming.{fresh_of}
use Rattle.q3_window.specs.Outgoing.{text_at}
use Rattle.q3_config.specs.Commands.{change_in}
use Rattle.q3_config.specs.Strings.{server_id}
use Rattle.q3_slot.specs.declared.taking.Heard.{Heard}
use Rattle.q3_world.specs.ByTags.{kept_then, whole_then, IsOwn}
use Rattle.q3_world.specs.Answering.{outcome_of, applied_of}
use Rattle.q3_world.specs.World.{Tag, Played, History, history_at, built_at, said_at, texts_of, after}
use Rattle.q3_world.specs.StandsFor.{IsChecked, WasBuilt, Rise, WasAccepted}
use Rattle.q3_world.specs.Games.{Carries, Tells, IsOf, IsFresh, MapsRise, AcceptedUnder, last_played, accepted_since}

-- the history of a client then
abbrev pub history_then : Profile → List Event → ℕ → History
history_then profile all c = history_at (whole_then profile all).histories c

-- the snapshots that it accepted since the last gamestate that it applied
abbrev pub since_then : Profile → List Event → ℕ → List Snapshot
since_then profile all c = accepted_since (history_then profile all c).games (history_then profile all c).accepted

-- a client made this of the datagram of a number, and executed these commands
abbrev pub ClientTookSo : Answered → ℕ → ℕ → ClientTook → List Command → Type 0
ClientTookSo answer number c made commands = (state : AppliedState) × (ended : Bool) × (answer ≡ Took (fronts.Deliver number) (ByClient c made state commands ended))

-- the server made this of it, and ran this
abbrev pub ServerTookSo : Answered → ℕ → ServerTook → Heard → Type 0
ServerTookSo answer number made heard = answer ≡ Took (fronts.Deliver number) (ByServer made heard)

-- an event of a schedule in which each end gets only what the other made; the laws below are said of such schedules
abbrev pub IsScheduled : Event → Type 0
IsScheduled event = IsReplayEvent event × IsOwn event

-- what may become of a snapshot, where a message has one: it is accepted, or the entities of its base are gone
abbrev pub MayBecome : SnapOutcome → Type 0
MayBecome Stale = ⊥
MayBecome (Skipped base NeverHeld) = ⊥
MayBecome (Skipped base (Overwritten other)) = ⊥
MayBecome other = Unit {0}

-- what a client, or the server, made of something that it could read; the client wasn't dropped
abbrev pub IsReadByClient : ClientTook → Type 0
IsReadByClient Runt = ⊥
IsReadByClient Connectionless = ⊥
IsReadByClient BadFragment = ⊥
IsReadByClient BadCheck = ⊥
IsReadByClient (Illegible cause) = ⊥
IsReadByClient (Dropped cause) = ⊥
IsReadByClient (Applied applied) = MayBecome applied.snap
IsReadByClient other = Unit {0}

abbrev pub IsReadByServer : ServerTook → Type 0
IsReadByServer took.Runt = ⊥
IsReadByServer took.Connectionless = ⊥
IsReadByServer took.Stranger = ⊥
IsReadByServer (took.BadFragment slot) = ⊥
IsReadByServer (took.BadCheck slot) = ⊥
IsReadByServer (took.Illegible slot cause) = ⊥
IsReadByServer (took.Gap slot number) = ⊥
IsReadByServer other = Unit {0}

-- the answer of an end that could make something of what arrived, and of a client that wasn't dropped
abbrev pub IsLegible : Answered → Type 0
IsLegible (Took front (ByClient c made state commands ended)) = IsReadByClient made
IsLegible (Took front (ByServer made run)) = IsReadByServer made
IsLegible (SentOut c (Ok (sent.Dropped cause)) datagram) = ⊥
IsLegible other = Unit {0}

-- commands that were executed, by which end, and what is noted of it before and after
abbrev pub GoesOn : List Command → History → History → Direction → Type 0
GoesOn commands before after direction.ToClient =
    (commands ≡ numbered (length before.client_executed + 1) (texts_of commands)) × (after.client_executed ≡ before.client_executed ++ texts_of commands)
    × (after.server_executed ≡ before.server_executed)
GoesOn commands before after (direction.ToServer from) =
    (commands ≡ numbered (length before.server_executed + 1) (texts_of commands)) × (after.server_executed ≡ before.server_executed ++ texts_of commands)
    × (after.client_executed ≡ before.client_executed)

-- in a replay no end ever gets what it can't read, no acknowledgement is refused, no command leaves a gap, the server finds each
-- datagram's client, no client is dropped, no snapshot is stale, and none is skipped but for the entities of its base
abbrev pub AlwaysLegible : Type 0
AlwaysLegible = (profile : Profile) (all : List Event) → IsChecked profile → AllByRecursion IsScheduled all
    → AllByRecursion IsLegible (kept_answers (opening_kept profile) all)

-- a delivery is unknown where no datagram of its number was made; and there alone does nobody take it, for whatever cause
abbrev pub UnknownWasNotMade : Type 0
UnknownWasNotMade = (profile : Profile) (all : List Event) (number : ℕ) → IsChecked profile → AllByRecursion IsScheduled all
    → (slice_get (kept_then profile all).datagrams (number - 1) ≡ None
    → (kept_step (kept_then profile all) (events.Deliver number)).answer ≡ Untaken (fronts.Deliver number) refused.Unknown)
    × ((cause : TakeRefused) → (kept_step (kept_then profile all) (events.Deliver number)).answer ≡ Untaken (fronts.Deliver number) cause
    → slice_get (kept_then profile all).datagrams (number - 1) ≡ None)

-- each end has executed a front of the commands that the other issued, each once and in order; and its window counts them
abbrev pub CommandsArePrefixes : Type 0
CommandsArePrefixes = (profile : Profile) (all : List Event) (c : ℕ) (slot : SlotState) (client : ClientState) → IsChecked profile
    → AllByRecursion IsScheduled all → c < places
    → slot_at (kept_then profile all).ends.server c ≡ Some slot → client_at (kept_then profile all).ends c ≡ Some client
    → (history_then profile all c).client_executed
    ≡ take client.state.executed.executed (history_then profile all c).server_commands
    × ((history_then profile all c).server_executed ≡ take slot.executed.executed (history_then profile all c).client_commands)
    × (client.state.executed.executed ≡ length (history_then profile all c).client_executed)
    × (slot.executed.executed ≡ length (history_then profile all c).server_executed)

-- the text by which an end that takes a newer message clears it is the one by which the other end scrambled it: under the number
-- that the message acknowledges its window has the text that the other end had executed last when it began the message
abbrev pub KeysAgree : Type 0
KeysAgree = (profile : Profile) (all : List Event) (c : ℕ) (slot : SlotState) (client : ClientState) → IsChecked profile
    → AllByRecursion IsScheduled all → c < places
    → slot_at (kept_then profile all).ends.server c ≡ Some slot → client_at (kept_then profile all).ends c ≡ Some client
    → ((n : ℕ) → client.gathering.taken < n → n ≤ length (history_then profile all c).built
    → text_at client.issued (built_at (history_then profile all c).built n).message.ack ≡ (built_at (history_then profile all c).built n).key.text)
    × ((n : ℕ) → slot.gathering.taken < n → n ≤ length (history_then profile all c).said
    → text_at slot.issued (said_at (history_then profile all c).said n).message.command ≡ (said_at (history_then profile all c).said n).key.text)

-- what an event prints as executed, at a client or at the server, goes on where that end stood: its numbers follow on the count of
-- all executed before, and its texts are noted after them
abbrev pub ExecutedGoesOn : Type 0
ExecutedGoesOn = (profile : Profile) (all : List Event) (number : ℕ) (tag : Tag) → IsChecked profile → AllByRecursion IsScheduled all
    → IsScheduled (events.Deliver number) → slice_get (whole_then profile all).sent (number - 1) ≡ Some tag
    → GoesOn (ran_in (kept_step (kept_then profile all) (events.Deliver number)).answer).commands
    (history_then profile all tag.client) (history_then profile (all ++ events.Deliver number ∷ []) tag.client) tag.direction

-- each snapshot that a client accepted is the one that the server built for it under that number, and the numbers rise
abbrev pub AcceptedWereBuilt : Type 0
AcceptedWereBuilt = (profile : Profile) (all : List Event) (c : ℕ) → IsChecked profile → AllByRecursion IsScheduled all → c < places
    → All (WasBuilt (history_then profile all c).built) (history_then profile all c).accepted × Rise (history_then profile all c).accepted

-- where a client that takes datagrams by their bytes shows a snapshot, it is the one that the server built for it
-- under that number
abbrev pub ShownWasBuilt : Type 0
ShownWasBuilt = (profile : Profile) (all : List Event) (c : ℕ) (snapshot : Snapshot) → IsChecked profile
    → AllByRecursion IsScheduled all → c < places
    → snapshot_in (kept_step (kept_then profile all) (events.Show c)).answer ≡ Some snapshot
    → WasBuilt (history_then profile all c).built snapshot

-- what a show prints is the newest snapshot that the client accepted since the last gamestate that it applied, if it accepted one
abbrev pub ShownIsNewest : Type 0
ShownIsNewest = (profile : Profile) (all : List Event) (c : ℕ) → IsChecked profile → AllByRecursion IsScheduled all → c < places
    → snapshot_in (kept_step (kept_then profile all) (events.Show c)).answer ≡ last_or None (since_then profile all c)

-- a client's next message may ask for a delta exactly where the snapshot of the newest message that it took was accepted, no gamestate was
-- applied since, and no recording of it waits for a whole snapshot
abbrev pub AsksForAccepted : Type 0
AsksForAccepted = (profile : Profile) (all : List Event) (c : ℕ) (place : Place) → IsChecked profile → AllByRecursion IsScheduled all
    → c < places → place_at (kept_then profile all).ends c ≡ Some place
    → (wants_delta (asking place.client place.recording) ≡ true) ↔ (WasAccepted (since_then profile all c) place.client.gathering.taken × (waits_in place.recording ≡ false))

-- each base against which a message was built is below it, at most by 28, was built itself and was accepted by the client
abbrev pub BasesWereAccepted : Type 0
BasesWereAccepted = (profile : Profile) (all : List Event) (c k : ℕ) (d : Built) → IsChecked profile → AllByRecursion IsScheduled all → c < places
    → k < length (history_then profile all c).built
    → IfSome (slice_index_or (history_then profile all c).built k d).base
    (λ base. IsNear (k + 1) base × WasBuilt (history_then profile all c).built base × Contains (history_then profile all c).accepted base)

-- a client accepted the snapshot of a number under a gamestate of a map
abbrev pub AcceptedUnderMap : History → ℕ → ℕ → Type 0
AcceptedUnderMap history id number = (played : Played) × Tells played.game id × AcceptedUnder history.games history.accepted played number

-- each message of a client that asks for deltas acknowledges a snapshot that the client accepted under the gamestate of the map whose id
-- the message has
abbrev pub SaidUnderItsMap : History → Type 0
SaidUnderItsMap history = All (λ (said : Said). said.message.delta ≡ true → AcceptedUnderMap history said.message.id said.message.acknowledged) history.said

-- so was the snapshot accepted against which a slot writes, under the gamestate of the present map; where its client doesn't play, there
-- is none
abbrev pub SlotUnderMap : MapState → History → SlotState → Type 0
SlotUnderMap map history slot = (slot.delta ≡ 0) ⊎ ((is_active slot.stage ≡ true) × AcceptedUnderMap history map.id slot.delta)

-- and each base against which a message was built, under the gamestate under which its client played then
abbrev pub BuiltUnderItsGame : History → Type 0
BuiltUnderItsGame history =
    All (λ (built : Built). IfSome built.base (λ base. (played : Played) × (built.under ≡ Some played.number) × AcceptedUnder history.games history.accepted played base.head.number)) history.built

-- what is asked for, and what is written against, its client accepted under the gamestate of that map
abbrev pub AskedUnderGame : Type 0
AskedUnderGame = (profile : Profile) (all : List Event) (c : ℕ) → IsChecked profile → AllByRecursion IsScheduled all → c < places
    → SaidUnderItsMap (history_then profile all c)
    × IfSome (slot_at (kept_then profile all).ends.server c) (SlotUnderMap (kept_then profile all).ends.server.map (history_then profile all c))
    × BuiltUnderItsGame (history_then profile all c)

-- each gamestate that a client applied tells the id of its map, of two the later one a greater id: so of a map it applied at most one
abbrev pub OneGamePerMap : Type 0
OneGamePerMap = (profile : Profile) (all : List Event) (c : ℕ) → IsChecked profile → AllByRecursion IsScheduled all → c < places
    → All (λ (played : Played). (id : ℕ) × Tells played.game id) (history_then profile all c).games
    × MapsRise (history_then profile all c).games
    × ((j k id : ℕ) (d : Played) → j < length (history_then profile all c).games → k < length (history_then profile all c).games
    → Tells (slice_index_or (history_then profile all c).games j d).game id → Tells (slice_index_or (history_then profile all c).games k d).game id → j ≡ k)

-- what a client holds is told by all that it accepted since the last gamestate that it applied: under a number exactly the snapshot accepted under it, as long as no later one
-- stands in its place and its entities are there
abbrev pub HeldIsAccepted : Type 0
HeldIsAccepted = (profile : Profile) (all : List Event) (c number : ℕ) (client : ClientState) → IsChecked profile → AllByRecursion IsScheduled all
    → c < places → client_at (kept_then profile all).ends c ≡ Some client
    → held_snapshot client.state.held number ≡ held_among profile.parse_ring (since_then profile all c) number

-- so a client lends under a number the snapshot that the server built for it under that number, or none
abbrev pub ViewsWereBuilt : Type 0
ViewsWereBuilt = (profile : Profile) (all : List Event) (c number : ℕ) (client : ClientState) (snapshot : Snapshot) → IsChecked profile
    → AllByRecursion IsScheduled all → c < places → client_at (kept_then profile all).ends c ≡ Some client → view_at client.state.held number ≡ Some snapshot
    → (snapshot.head.number ≡ number) × WasBuilt (history_then profile all c).built snapshot

-- what is answered where a client takes the last of a message that was built for it, by what it accepted since its last gamestate
abbrev pub applied_then : Profile → List Event → ℕ → ℕ → AppliedSo
applied_then profile all c n = applied_of profile.parse_ring (since_then profile all c) n (built_at (history_then profile all c).built n)

-- the commands that a client executes of the message under a number: those above all that it executed before
abbrev pub heard_of : History → ℕ → List Command
heard_of history n = fresh_of (length history.client_executed) (built_at history.built n).message.commands

-- and those that the server executes of a client's message
abbrev pub run_of : History → ℕ → List Command
run_of history n = fresh_of (length history.server_executed) (said_at history.said n).message.commands

-- the client shows the snapshot that was built under a number
abbrev pub Shows : Ends → ℕ → ℕ → List Built → Type 0
Shows ends c n built = (snapshot : Snapshot) × (newest (client_at ends c) ≡ Some snapshot) × (snapshot.head.number ≡ n) × WasBuilt built snapshot

-- where a client that takes datagrams by their bytes applies one, the datagram was made for it, of a message whose number is above
-- every number that it took before; what it answers is told by the message that was built under that number and by what it accepted;
-- where it accepts the snapshot, its newest is the one that the server built for it under that number; and after the delivery the
-- client there has that number
abbrev pub AppliedWasBuilt : Type 0
AppliedWasBuilt = (profile : Profile) (all : List Event) (number c : ℕ) (applied : AppliedSo) (commands : List Command) → IsChecked profile
    → AllByRecursion IsScheduled all
    → ClientTookSo (kept_step (kept_then profile all) (events.Deliver number)).answer number c (Applied applied) commands
    → ((client : ClientState) × (client_at (kept_then profile all).ends c ≡ Some client) × (client.gathering.taken < applied.number))
    × (applied ≡ applied_then profile all c applied.number)
    × ((tag : Tag) × (slice_get (whole_then profile all).sent (number - 1) ≡ Some tag) × (tag.direction ≡ direction.ToClient) × (tag.client ≡ c) × (tag.number ≡ applied.number))
    × ((base : ℕ) → applied.snap ≡ Accepted base
    → Shows (kept_step (kept_then profile all) (events.Deliver number)).kept.ends c applied.number (history_then profile all c).built)
    × ((after : ClientState) × (client_at (kept_step (kept_then profile all) (events.Deliver number)).kept.ends c ≡ Some after) × (after.state.number ≡ applied.number))

-- a line that lets the server make a datagram
abbrev pub is_serve : Event → Bool
is_serve (events.Serve c) = true
is_serve other = false

-- where a client applies one, its number is at most that of these lines before
abbrev pub AppliedWasServed : Type 0
AppliedWasServed = (profile : Profile) (all : List Event) (number c : ℕ) (applied : AppliedSo) (commands : List Command) → IsChecked profile
    → AllByRecursion IsScheduled all
    → ClientTookSo (kept_step (kept_then profile all) (events.Deliver number)).answer number c (Applied applied) commands
    → applied.number ≤ length (filter is_serve all)

-- where the bytes of a datagram bring a message whole to a client, it is applied: a gamestate always, and a snapshot is accepted
-- exactly where it has no base, or the entities of its base are there
abbrev pub NewerIsAccepted : Type 0
NewerIsAccepted = (profile : Profile) (all : List Event) (number n count : ℕ) (sent : SentBytes) (client : ClientState) → IsChecked profile
    → AllByRecursion IsScheduled all
    → slice_get (kept_then profile all).datagrams (number - 1) ≡ Some sent → sent.direction ≡ direction.ToClient
    → client_at (kept_then profile all).ends sent.client ≡ Some client
    → (gathered client.gathering sent.bytes).answer ≡ CameWhole n count
    → ClientTookSo (kept_step (kept_then profile all) (events.Deliver number)).answer number sent.client (Applied (applied_then profile all sent.client n))
    (heard_of (history_then profile all sent.client) n)

-- with a ring that has the usual room for 8,192 entities, or more, no snapshot is skipped
abbrev pub UsualNeverSkips : Type 0
UsualNeverSkips = (profile : Profile) (all : List Event) (number c : ℕ) (applied : AppliedSo) (commands : List Command) → IsChecked profile
    → AllByRecursion IsScheduled all → 8192 ≤ profile.parse_ring
    → ClientTookSo (kept_step (kept_then profile all) (events.Deliver number)).answer number c (Applied applied) commands
    → (applied.snap ≡ NoSnap) ⊎ ((base : ℕ) × (applied.snap ≡ Accepted base))

-- what the moves do of the message that a client began under a number
abbrev pub playing_of : SlotState → History → ℕ → Playing
playing_of slot history n = goes_on slot (said_at history.said n).message (said_at history.said n).message.moves

-- the slot of a client is there, and goes on as the moves of a message say
abbrev pub GoesOnPlaying : Option SlotState → Playing → Type 0
GoesOnPlaying after playing = MatchOption after ⊥ (λ slot. (slot.stage ≡ playing.stage) × (slot.delta ≡ playing.delta) × (slot.last_run ≡ playing.last_run))

-- where the bytes of a client's datagram bring a message whole to its slot, and the message is of the map, it is run: its commands
-- above the last one executed, and its moves as the slot stands. Of one of another map nothing is run, and a gamestate may be owed
abbrev pub NewerIsRun : Type 0
NewerIsRun = (profile : Profile) (all : List Event) (number n count : ℕ) (sent : SentBytes) (from : Address) (slot : SlotState) → IsChecked profile
    → AllByRecursion IsScheduled all
    → slice_get (kept_then profile all).datagrams (number - 1) ≡ Some sent → sent.direction ≡ direction.ToServer from
    → slot_at (kept_then profile all).ends.server sent.client ≡ Some slot
    → (gathered slot.gathering sent.bytes).answer ≡ CameWhole n count
    → (is_other (kept_then profile all).ends.server.map (said_at (history_then profile all sent.client).said n).message.id ≡ false
    → ServerTookSo (kept_step (kept_then profile all) (events.Deliver number)).answer number (took.Ran sent.client n)
    (record {
      commands = run_of (history_then profile all sent.client) n;
      moves = record { items = (playing_of slot (history_then profile all sent.client) n).moves };
      entered = (playing_of slot (history_then profile all sent.client) n).entered;
      owed = slot.owed;
    })
    × GoesOnPlaying (slot_at (kept_step (kept_then profile all) (events.Deliver number)).kept.ends.server sent.client)
    (playing_of slot (history_then profile all sent.client) n))
    × (is_other (kept_then profile all).ends.server.map (said_at (history_then profile all sent.client).said n).message.id ≡ true
    → ServerTookSo (kept_step (kept_then profile all) (events.Deliver number)).answer number
    (took.Ignored sent.client (said_at (history_then profile all sent.client).said n).message.id)
    (nothing_heard (slot.owed || asks_game (kept_then profile all).ends.server.map slot (heads_of (said_at (history_then profile all sent.client).said n).message))))

-- the moves of a client that the server ran stand among those that the client issued, each once and in their order, and their
-- times rise
abbrev pub MovesWereIssued : Type 0
MovesWereIssued = (profile : Profile) (all : List Event) (c : ℕ) → IsChecked profile → AllByRecursion IsScheduled all → c < places
    → StandAmong (history_then profile all c).run (history_then profile all c).issued × TimesRise 0 (history_then profile all c).run

-- a move with which a client enters a map isn't among those that are run: all that were run before it are earlier, and all that
-- are run later are later
abbrev pub EnteringIsNotRun : Type 0
EnteringIsNotRun = (profile : Profile) (before rest : List Event) (c number n time : ℕ) (heard : Heard) → IsChecked profile
    → AllByRecursion IsScheduled (before ++ events.Deliver number ∷ rest) → c < places
    → ServerTookSo (kept_step (kept_then profile before) (events.Deliver number)).answer number (took.Ran c n) heard → heard.entered ≡ Some time
    → All (λ (one : Move). one.time < time) (history_then profile before c).run
    × ((later : List Move)
    × ((history_then profile (before ++ events.Deliver number ∷ rest) c).run ≡ (history_then profile before c).run ++ later)
    × All (λ (one : Move). time < one.time) later)

-- the datagrams of these numbers have the pieces of the message under a number for a client, from an index on
abbrev pub ArePieces : List Tag → ℕ → ℕ → ℕ → List ℕ → Type 0
ArePieces sent c n index [] = Unit {0}
ArePieces sent c n index (number ∷ numbers) =
    (tag : Tag) × (slice_get sent (number - 1) ≡ Some tag) × (tag.direction ≡ direction.ToClient) × (tag.client ≡ c) × (tag.number ≡ n) × (tag.index ≡ index)
    × ArePieces sent c n (index + 1) numbers

-- datagrams are delivered, one after the other
abbrev pub deliveries : List ℕ → List Event
deliveries numbers = map (λ number. events.Deliver number) numbers

-- whatever came before, where all pieces of a message arrive in order, whose number is above every number that its client
-- has taken, with the last it is applied: its snapshot is accepted unless the entities of its base are gone
abbrev pub InOrderIsAccepted : Type 0
InOrderIsAccepted = (profile : Profile) (all : List Event) (c n last : ℕ) (numbers : List ℕ) (client : ClientState) → IsChecked profile
    → AllByRecursion IsScheduled all → AllByRecursion IsScheduled (deliveries numbers)
    → client_at (whole_then profile all).ends c ≡ Some client → client.gathering.taken < n
    → ArePieces (whole_then profile all).sent c n 0 (numbers ++ last ∷ [])
    → length numbers ≡ last_index (built_bytes profile (built_at (history_then profile all c).built n))
    → ClientTookSo (kept_step (kept_then profile (all ++ deliveries numbers)) (events.Deliver last)).answer last c (Applied (applied_then profile all c n))
    (heard_of (history_then profile all c) n)

-- so many datagrams of a message are made for a client, and delivered in the order in which they are made, from a number on
abbrev pub serve_and_deliver : ℕ → ℕ → ℕ → List Event
serve_and_deliver c first count = replicate count (events.Serve c) ++ deliveries (range_with_len first count)

-- the message that a server begins next for a client
abbrev pub built_next : Profile → ServerState → ℕ → SlotState → Built
built_next profile server c slot = begun_next profile server.map server.frames c slot

-- how many datagrams it takes
abbrev pub datagrams_of : Profile → ServerState → ℕ → SlotState → ℕ
datagrams_of profile server c slot = piece_count (length (built_bytes profile (built_next profile server c slot)))

-- a snapshot may be begun for a client: nothing is under way to it and no gamestate is owed, numbers haven't ended, and the message
-- isn't too long
pub record MayBegin (profile : Profile) (server : ServerState) (c : ℕ) (slot : SlotState) : Type 0 where
  pub idle : IsIdle slot.sending
  pub plays : slot.owed ≡ false
  pub fits : slot.sending.number + 1 < sequence_end
  pub placed : server.frames.placed ≤ most_placed
  pub clear : is_unclear profile slot.executed.executed ≡ false
  pub short : length (built_bytes profile (built_next profile server c slot)) ≤ longest_message

-- whatever came before: where a message may be begun for a client, all of its datagrams are made and arrive in order, and the
-- entities of its base are there, the client then shows the snapshot that the server had for it
abbrev pub ServedIsShown : Type 0
ServedIsShown = (profile : Profile) (all : List Event) (c : ℕ) (slot : SlotState) (client : ClientState) → IsChecked profile
    → AllByRecursion IsScheduled all
    → AllByRecursion IsScheduled (serve_and_deliver c (length (whole_then profile all).sent + 1) (datagrams_of profile (whole_then profile all).ends.server c slot))
    → slot_at (whole_then profile all).ends.server c ≡ Some slot → client_at (whole_then profile all).ends c ≡ Some client
    → MayBegin profile (whole_then profile all).ends.server c slot
    → outcome_of profile.parse_ring (since_then profile all c) (built_next profile (whole_then profile all).ends.server c slot).base
    ≡ Accepted (number_of (built_next profile (whole_then profile all).ends.server c slot).base)
    → snapshot_in (kept_step (kept_then profile (all ++ serve_and_deliver c (length (whole_then profile all).sent + 1)
    (datagrams_of profile (whole_then profile all).ends.server c slot))) (events.Show c)).answer
    ≡ Some (next_snapshot (whole_then profile all).ends.server.map slot)

-- ---- config strings follow the server

-- a client's strings, baselines, id, slot and feed are those of the last gamestate that it applied, which was built for it, with the
-- changes that the texts tell which it executed since; before one its id, slot and feed are 0, it has no baselines, and its
-- strings tell no id
abbrev pub StateIsOfGame : Type 0
StateIsOfGame = (profile : Profile) (all : List Event) (c : ℕ) (client : ClientState) → IsChecked profile → AllByRecursion IsScheduled all
    → c < places → client_at (kept_then profile all).ends c ≡ Some client
    → MatchOption (last_played (history_then profile all c).games)
    (IsFresh client.state)
    (λ played. Carries (history_then profile all c).built played.number played.game × IsOf client.state played (history_then profile all c).client_executed)

-- and once it has one, its strings tell the id of its map
abbrev pub StringsTellId : Type 0
StringsTellId = (profile : Profile) (all : List Event) (c : ℕ) (client : ClientState) → IsChecked profile → AllByRecursion IsScheduled all
    → c < places → client_at (kept_then profile all).ends c ≡ Some client → client.state.has_game ≡ true → server_id client.state.strings ≡ Some client.state.id

-- the game says no text that has the shape of a config change
abbrev pub SaysNoChange : Event → Type 0
SaysNoChange (events.Say c text) = change_in text ≡ None
SaysNoChange other = Unit {0}

-- where the game says no such text, and the last message that a client applied was begun by a `serve` under the client's own map, its
-- strings are those that the server had then
abbrev pub StringsFollow : Type 0
StringsFollow = (profile : Profile) (before rest : List Event) (c : ℕ) (client : ClientState) → IsChecked profile
    → AllByRecursion IsScheduled (before ++ events.Serve c ∷ rest) → AllByRecursion SaysNoChange (before ++ events.Serve c ∷ rest) → c < places
    → length (history_then profile (before ++ events.Serve c ∷ []) c).built ≡ length (history_then profile before c).built + 1
    → client_at (kept_then profile (before ++ events.Serve c ∷ rest)).ends c ≡ Some client → client.state.has_game ≡ true
    → client.state.number ≡ length (history_then profile before c).built + 1
    → client.state.id ≡ (kept_then profile before).ends.server.map.id
    → client.state.strings ≡ (kept_then profile before).ends.server.map.strings

-- nor is a long string ever being put together at a client that has a gamestate
abbrev pub NothingPends : Type 0
NothingPends = (profile : Profile) (all : List Event) (c : ℕ) (client : ClientState) → IsChecked profile → AllByRecursion IsScheduled all → AllByRecursion SaysNoChange all
    → c < places → client_at (kept_then profile all).ends c ≡ Some client → client.state.has_game ≡ true → client.state.strings.pending ≡ None
