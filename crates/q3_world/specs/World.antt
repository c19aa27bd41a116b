-- The whole world: both ends, and what nothing wipes. A step delivers a datagram by its tag: what arrives is the message that was
-- begun under its number. Once a line handed other bytes to an end, it delivers a datagram by its bytes.
use Rattle.std.specs.Prelude.{ℕ, ◌+◌, ◌-◌, if◌then◌else◌, Bool, true, false, List, [], ◌∷◌, ◌++◌, length, map, replicate, Option, Some, None, option_map, Ok, Err, slice_get, slice_set, slice_index_or}
use Rattle.std.specs.List.{range_with_len}
use Rattle.q3_profile.specs.declared.profile.Profile.{Profile}
use Rattle.q3_io.specs.declared.address.Address.{Address}
use Rattle.q3_player.specs.Heads.{empty_head}
use Rattle.q3_script.specs.declared.event.Event.{Event}
use Rattle.q3_script.specs.declared.event.Event.TheVariants as events
use Rattle.q3_chan.specs.Tags.{tagged}
use Rattle.q3_chan.specs.Sending.{Piece}
use Rattle.q3_chan.specs.Keys.{Key}
use Rattle.q3_text.specs.declared.text.Command.{Command}
use Rattle.q3_clmsg.specs.declared.moves.Move.{Move}
use Rattle.q3_clmsg.specs.Values.{empty_message}
use Rattle.q3_entity_ring.specs.Snapshot.{Snapshot}
use Rattle.q3_entity.specs.Baselines.{no_baselines}
use Rattle.q3_config.specs.Laws.{piece_texts}
use Rattle.q3_gamestate.specs.Values.{Gamestate}
use Rattle.q3_svmsg.specs.Values as told
use Rattle.q3_svmsg.specs.Values.{Told}
use Rattle.q3_built.specs.Built.{Built, built_of, built_bytes, plain_bytes}
use Rattle.q3_slot.specs.declared.taking.ServerTook.TheVariants.{Stranger}
use Rattle.q3_slot.specs.Slot.{SlotState, is_connected}
use Rattle.q3_slot.specs.Taking.{came_as}
use Rattle.q3_slot.specs.Taking as by_slot
use Rattle.q3_client.specs.declared.client.ClientTook.{ClientTook}
use Rattle.q3_client.specs.declared.client.ClientTook.TheVariants as took
use Rattle.q3_client.specs.Client.{Taken, receive_message, take_gathered}
use Rattle.q3_client.specs.Sending as speaks
use Rattle.q3_client.specs.Sending.{Said, said_bytes}
use Rattle.q3_slot.specs.declared.taking.Heard.{Heard}
use Rattle.q3_config.specs.Strings.{has_string}
use Rattle.q3_server.specs.Server.{ServerState, Emission, places, slot_at, emit_at}
use Rattle.q3_server.specs.Taking as hears
use Rattle.q3_report.specs.declared.answer.HandedIn.TheVariants as handed
use Rattle.q3_report.specs.declared.answer.Front.TheVariants as fronts
use Rattle.q3_report.specs.declared.answer.TakeRefused.TheVariants as refused
use Rattle.q3_report.specs.Answers.{Answered, Given, Served, SentOut, Untaken, Bytes}
use Rattle.q3_ends.specs.Recording.{asking}
use Rattle.q3_world.specs.declared.made.Direction.{Direction}
use Rattle.q3_world.specs.declared.made.Direction.TheVariants.{ToClient, ToServer}
use Rattle.q3_world.specs.Ends as by_ends
use Rattle.q3_world.specs.declared.places.Place.{Place}
use Rattle.q3_world.specs.Ends.{Ends, EndsStep, place_at, with_client, new_ends, Line, Hands, Serves, Sends, Delivers, TellsBytes, HandsBytes, line_of}
use Rattle.q3_world.specs.Kept.{SentBytes, deliver_at}

-- a datagram that was made: the client that it is for or comes from, which of the two, its message's number, which of its
-- pieces it carries, and its bytes
pub record Tag : Type 0 where
  pub client : ℕ
  pub direction : Direction
  pub number : ℕ
  pub index : ℕ
  pub bytes : List ℕ

-- a gamestate that a client applied: the number of its message, what it says, how many snapshots the client had accepted and how many
-- commands it had executed by then, and the time of the last move that it had issued
pub record Played : Type 0 where
  pub number : ℕ
  pub game : Gamestate
  pub accepted : ℕ
  pub executed : ℕ
  pub time : ℕ

-- what is kept of it
abbrev pub bytes_of : Tag → SentBytes
bytes_of tag = record { client = tag.client; direction = tag.direction; bytes = tag.bytes }

-- of one client: the challenge, the qport and the host that it joined with, the messages that the server began for it, the one under number
-- 1 first, the gamestates that it applied, the snapshots that it accepted, the messages that it began, the moves that it issued, and
-- those that the server ran; the commands that the server issued for it, those of them that it executed, the commands that it issued,
-- and those of them that the server executed
pub record History : Type 0 where
  pub challenge : ℕ
  pub qport : ℕ
  pub host : ℕ
  pub built : List Built
  pub games : List Played
  pub accepted : List Snapshot
  pub said : List Said
  pub issued : List Move
  pub run : List Move
  pub server_commands : List (List ℕ)
  pub client_executed : List (List ℕ)
  pub client_commands : List (List ℕ)
  pub server_executed : List (List ℕ)

-- both ends, each client's history at its place, every datagram that was made, and whether a line handed other bytes to an end
pub record Whole : Type 0 where
  pub ends : Ends
  pub histories : List History
  pub sent : List Tag
  pub foreign : Bool

-- the world after an event, and the answer
pub record Step : Type 0 where
  pub whole : Whole
  pub answer : Answered

-- of a client that never joined
abbrev pub no_history : History
no_history = record {
  challenge = 0;
  qport = 0;
  host = 0;
  built = [];
  games = [];
  accepted = [];
  said = [];
  issued = [];
  run = [];
  server_commands = [];
  client_executed = [];
  client_commands = [];
  server_executed = [];
}

-- the history at a client's place
abbrev pub history_at : List History → ℕ → History
history_at histories c = slice_index_or histories c no_history

-- and another one at it
abbrev pub with_history : List History → ℕ → History → List History
with_history histories c history = slice_set histories c history

-- by what nothing is scrambled
abbrev pub no_key : Key
no_key = record { start = None; text = [] }

-- what stands where no message was built
abbrev pub no_message : Built
no_message = built_of (record { ack = 0; commands = []; last = 0; under = None; key = no_key }) no_baselines None (record { head = empty_head; entities = [] })

-- and where none was said
abbrev pub no_said : Said
no_said = record { message = empty_message; last = 0; feed = 0; key = no_key }

-- the message that was built under a number, and the one that a client began under it
abbrev pub built_at : List Built → ℕ → Built
built_at built number = slice_index_or built (number - 1) no_message

abbrev pub said_at : List Said → ℕ → Said
said_at said number = slice_index_or said (number - 1) no_said

-- ---- what is noted of a client

-- how it joined, if it did
abbrev pub with_joined : History → ℕ → ℕ → Address → Answered → History
with_joined history challenge qport address (Given (handed.Client c (Ok x))) = record history { challenge = challenge; qport = qport; host = address.host }
with_joined history challenge qport address other = history

-- a message that the server began for it, if it did
abbrev pub with_built : History → Option Built → History
with_built history None = history
with_built history (Some built) = record history { built = history.built ++ built ∷ [] }

-- a snapshot that it accepted, if it did
abbrev pub with_accepted : History → Option Snapshot → History
with_accepted history None = history
with_accepted history (Some snapshot) = record history { accepted = history.accepted ++ snapshot ∷ [] }

-- the texts of commands
abbrev pub texts_of : List Command → List (List ℕ)
texts_of commands = map (λ (c : Command). c.text) commands

-- and the commands that it executed
abbrev pub with_heard : History → Option Snapshot → List Command → History
with_heard history snapshot commands =
    record (with_accepted history snapshot) { client_executed = history.client_executed ++ texts_of commands }

-- and a gamestate that it applied with the message of a number, if it did
abbrev pub with_game : History → ℕ → ℕ → Option Gamestate → History
with_game history number time None = history
with_game history number time (Some game) = record history {
  games = history.games ++ record {
    number = number;
    game = game;
    accepted = length history.accepted;
    executed = length history.client_executed;
    time = time;
  } ∷ [];
}

-- a command that the server issued for it, if it did
abbrev pub with_spoken : History → List ℕ → Answered → History
with_spoken history text (Given (handed.Say c (Ok number))) = record history { server_commands = history.server_commands ++ text ∷ [] }
with_spoken history text other = history

-- the commands of a config change that the client in a slot is told, if there is one
abbrev pub texts_told : List (List ℕ) → Option SlotState → List (List ℕ)
texts_told texts None = []
texts_told texts (Some slot) = if is_connected slot.stage then [] else texts

-- what the server issued for each client by one
abbrev pub with_texts_told : ServerState → List (List ℕ) → List History → List History
with_texts_told server texts histories =
    map (λ c. record (history_at histories c) { server_commands = (history_at histories c).server_commands ++ texts_told texts (slot_at server c) }) (range_with_len 0 places)

-- if it did; a change to the text that was there issues nothing
abbrev pub with_told : ServerState → ℕ → List ℕ → Answered → List History → List History
with_told server index text (Given (handed.Config i (Ok x))) histories =
    if has_string server.map.strings index text then histories else with_texts_told server (piece_texts index text) histories
with_told server index text other histories = histories

-- a command that it issued, if it did
abbrev pub with_typed : History → List ℕ → Answered → History
with_typed history text (Given (handed.TypeText c (Ok number))) = record history { client_commands = history.client_commands ++ text ∷ [] }
with_typed history text other = history

-- a message that it began, if it did
abbrev pub with_said : History → Option Said → History
with_said history None = history
with_said history (Some said) = record history { said = history.said ++ said ∷ [] }

-- a move that it issued, if it did
abbrev pub with_issued : History → Move → Answered → History
with_issued history one (Given (handed.Move c (Ok x))) = record history { issued = history.issued ++ one ∷ [] }
with_issued history one other = history

-- the commands that the server executed, and the moves that it ran
abbrev pub with_run : History → Heard → History
with_run history heard =
    record history { run = history.run ++ heard.moves.items; server_executed = history.server_executed ++ texts_of heard.commands }

-- what is noted of a line that hands something in, by its answer
abbrev pub noted : ServerState → List History → Event → Answered → List History
noted server histories (events.Client c challenge qport dup address) answer = with_history histories c (with_joined (history_at histories c) challenge qport address answer)
noted server histories (events.Config index text) answer = with_told server index text answer histories
noted server histories (events.Say c text) answer = with_history histories c (with_spoken (history_at histories c) text answer)
noted server histories (events.TypeText c text) answer = with_history histories c (with_typed (history_at histories c) text answer)
noted server histories (events.Move c one) answer = with_history histories c (with_issued (history_at histories c) one answer)
noted server histories other answer = histories

-- ---- events

-- before the first event
unfoldable pub opening : Profile → Whole
opening profile = record { ends = new_ends profile; histories = replicate places no_history; sent = []; foreign = false }

-- something was handed in, or a client shown, and this is noted
abbrev pub with_noted : Whole → List History → EndsStep → Step
with_noted whole histories step = record { whole = record whole { ends = step.ends; histories = histories }; answer = step.answer }

-- the tags, and after them that of what an emission for a client, or of a client, hands out
abbrev pub sent_after : List Tag → ℕ → Direction → Option Piece → List Tag
sent_after sent c direction None = sent
sent_after sent c direction (Some piece) =
    sent ++ record { client = c; direction = direction; number = piece.number; index = piece.index; bytes = piece.bytes } ∷ []

-- the server makes a datagram, which gets a tag if it is handed out
abbrev pub serve : Whole → ℕ → Emission → Step
serve whole c emission =
    record {
      whole = record whole {
        ends = record whole.ends { server = emission.server };
        histories = with_history whole.histories c (with_built (history_at whole.histories c) emission.began);
        sent = sent_after whole.sent c ToClient emission.piece;
      };
      answer = Served c emission.answer (length whole.sent + 1);
    }

-- a client makes a datagram, which gets a tag if it is handed out
abbrev pub say : Whole → ℕ → Place → speaks.Emission → Step
say whole c place emission =
    record {
      whole = record whole {
        ends = with_client whole.ends c place emission.client;
        histories = with_history whole.histories c (with_said (history_at whole.histories c) emission.began);
        sent = sent_after whole.sent c (ToServer place.address) emission.piece;
      };
      answer = SentOut c (Ok emission.answer) (length whole.sent + 1);
    }

-- a datagram of the client at a place, if there is one: it asks for whole snapshots exactly while its recording waits
abbrev pub send : Whole → ℕ → Option Place → Step
send whole c None = record { whole = whole; answer = SentOut c (Err (record {})) (length whole.sent + 1) }
send whole c (Some place) = say whole c place (speaks.emit_at (asking place.client place.recording))

-- the message that the tag of a datagram for a client names
abbrev pub named : List History → Tag → Built
named histories tag = built_at (history_at histories tag.client).built tag.number

-- the gamestate of a message that a client applied, if it has one
abbrev pub game_in : ClientTook → Told → Option Gamestate
game_in (took.Applied applied) (told.Game game) = Some game
game_in other section = None

-- what is noted of a client that took a datagram of a message: what it accepted and executed, and after that its gamestate
abbrev pub with_taken : History → ℕ → Told → Taken → History
with_taken history number section taken =
    with_game (with_heard history taken.accepted taken.heard) number taken.client.last_time (game_in taken.answer section)

-- a client took a datagram of the message under a number, which has this section
abbrev pub client_took : Whole → ℕ → ℕ → Place → ℕ → Told → Taken → Step
client_took whole datagram c place number section taken =
    with_noted whole (with_history whole.histories c (with_taken (history_at whole.histories c) number section taken))
    (by_ends.client_took whole.ends c (fronts.Deliver datagram) place taken)

-- a datagram arrives at its client, by its tag: the number and the piece decide what it does, and of a message that comes
-- whole the client applies the value that was built
abbrev pub to_client : Profile → Whole → ℕ → Tag → Option Place → Step
to_client profile whole datagram tag None = record { whole = whole; answer = Untaken (fronts.Deliver datagram) refused.NoClient }
to_client profile whole datagram tag (Some place) =
    client_took whole datagram tag.client place tag.number (named whole.histories tag).message.section
    (take_gathered place.client (tagged place.client.gathering tag.number (built_bytes profile (named whole.histories tag)) tag.index)
    (λ n. Ok (receive_message place.client n (named whole.histories tag).message (plain_bytes profile (named whole.histories tag)))))

-- the message that the tag of a client's datagram names
abbrev pub said_under : List History → Tag → Said
said_under histories tag = said_at (history_at histories tag.client).said tag.number

-- the server took a datagram of a client, and what it ran is noted
abbrev pub server_took : Whole → ℕ → ℕ → hears.Taken → Step
server_took whole number c taken =
    with_noted whole (with_history whole.histories c (with_run (history_at whole.histories c) taken.heard))
    (by_ends.server_took whole.ends (fronts.Deliver number) taken)

-- a client's datagram comes to its slot, from an address, by its tag: of a message that comes whole the slot runs the value
-- that the client began
abbrev pub to_server : Profile → Whole → ℕ → Tag → Address → Option SlotState → Step
to_server profile whole number tag from None = server_took whole number tag.client (hears.unmoved whole.ends.server Stranger)
to_server profile whole number tag from (Some slot) =
    server_took whole number tag.client
    (hears.taken_at whole.ends.server tag.client
    (by_slot.take_gathered whole.ends.server.map (record slot { address = from }) tag.client
    (tagged slot.gathering tag.number (said_bytes profile (said_under whole.histories tag)) tag.index)
    (λ n. Ok (came_as whole.ends.server.map (said_under whole.histories tag).message))))

-- a datagram arrives at the end that it goes to
abbrev pub arrive : Profile → Whole → ℕ → Tag → Direction → Step
arrive profile whole number tag ToClient = to_client profile whole number tag (place_at whole.ends tag.client)
arrive profile whole number tag (ToServer from) = to_server profile whole number tag from (slot_at whole.ends.server tag.client)

-- the datagram of a number, if it was made, arrives
abbrev pub deliver : Profile → Whole → ℕ → Option Tag → Step
deliver profile whole number None = record { whole = whole; answer = Untaken (fronts.Deliver number) refused.Unknown }
deliver profile whole number (Some tag) = arrive profile whole number tag tag.direction

-- ---- bytes arrive

-- an end took bytes. What is noted of clients stays as it is: of what comes after bytes that no end made nothing is noted
abbrev pub with_took : Whole → EndsStep → Step
with_took whole step = record { whole = record whole { ends = step.ends }; answer = step.answer }

-- a datagram arrives by its bytes once a line handed other bytes to an end, and by its tag before
abbrev pub deliver_as : Bool → Profile → Whole → ℕ → Option Tag → Step
deliver_as false profile whole number found = deliver profile whole number found
deliver_as true profile whole number found = with_took whole (deliver_at whole.ends number (option_map bytes_of found))

-- the bytes of the datagram of a number, if it was made
abbrev pub sent_bytes : List Tag → ℕ → Option (List ℕ)
sent_bytes sent number = option_map (λ (tag : Tag). tag.bytes) (slice_get sent (number - 1))

-- a line hands bytes to an end, where its client is there; with no such client nothing is handed over
abbrev pub with_handed : Whole → Option Place → EndsStep → Step
with_handed whole None step = with_took whole step
with_handed whole (Some place) step = record { whole = record whole { ends = step.ends; foreign = true }; answer = step.answer }

-- what a line does, where this is noted of what it hands in
abbrev pub whole_line : Profile → Whole → (Answered → List History) → Line → Step
whole_line profile whole note (Hands step) = with_noted whole (note step.answer) step
whole_line profile whole note (Serves c) = serve whole c (emit_at whole.ends.server c)
whole_line profile whole note (Sends c) = send whole c (place_at whole.ends c)
whole_line profile whole note (Delivers number) = deliver_as whole.foreign profile whole number (slice_get whole.sent (number - 1))
whole_line profile whole note (TellsBytes number) = record { whole = whole; answer = Bytes number (sent_bytes whole.sent number) }
whole_line profile whole note (HandsBytes c step) = with_handed whole (place_at whole.ends c) step

-- one event
unfoldable pub step : Profile → Whole → Event → Step
step profile whole event =
    whole_line profile whole (λ answer. noted whole.ends.server whole.histories event answer) (line_of profile whole.ends event)

-- the world after these events
unfoldable pub after : Profile → Whole → List Event → Whole
after profile whole [] = whole
after profile whole (event ∷ events) = after profile (step profile whole event).whole events

-- what these events answer
unfoldable pub answers : Profile → Whole → List Event → List Answered
answers profile whole [] = []
answers profile whole (event ∷ events) = (step profile whole event).answer ∷ answers profile (step profile whole event).whole events
