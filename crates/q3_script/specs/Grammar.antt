-- The grammar of a script: which words spell which event, and which lines which events.
use Rattle.std.specs.Prelude.{◌≡◌, ℕ, ◌^◌, ◌<◌, ◌≤◌, Bool, true, false, List, [], ◌∷◌, length, codes, decimal, All}
use Rattle.std.specs.List.{AllByRecursion}
use Rattle.q3_fields.specs.States.{AreWords}
use Rattle.q3_clmsg.specs.Moves.{IsHeldMove}
use Rattle.q3_clmsg.specs.Report.{move_words}
use Rattle.q3_player.specs.State.{IsState}
use Rattle.q3_text.specs.Texts.{IsText}
use Rattle.q3_script.specs.declared.event.Event.{Event}
use Rattle.q3_script.specs.declared.event.Event.TheVariants.{Client, Port, Map, Entity, Remove, Baseline, Player, Area, Time, Config, Say, TypeText, Move, Serve, Send, Deliver, RecordTo, Stop, Show, Bytes, Toclient, Toserver, At, End}
use Rattle.q3_script.specs.declared.cause.ScriptKind.{ScriptKind}
use Rattle.q3_script.specs.declared.cause.ScriptKind.TheVariants as kinds
use Rattle.q3_words.specs.Words.{words_of}
use Rattle.q3_words.specs.Addresses.{SpellsAddress}
use Rattle.q3_words.specs.Hex.{most_area, most_handed, SpellsHex}
use Rattle.q3_words.specs.Names.{IsName}
use Rattle.q3_words.specs.Fields.{SpellsEntity, SpellsPlayer}
use Rattle.q3_words.specs.Numbers.{last_client, last_entity}
use Rattle.q3_words.specs.Quotes.{most_config, SpellsBytes, SpellsText}
use Rattle.q3_script.specs.Lines.{last_datagram, last_time}
use Rattle.q3_script.specs.Script.{is_passed_over, lines_of, longest_script, most_events}

-- an event whose numbers and bytes are within their ranges
abbrev pub IsInRange : Event → Type 0
IsInRange (Client c challenge qport dup address) =
    (c ≤ last_client) × (challenge < 2 ^ 32) × (qport < 2 ^ 16) × (dup ≤ 5) × (1 ≤ address.port) × (address.port < 2 ^ 16) × (address.host < 2 ^ 32)
IsInRange (Port c port) = (c ≤ last_client) × (1 ≤ port) × (port < 2 ^ 16)
IsInRange (Map id feed) = (1 ≤ id) × (id < 2 ^ 31) × (feed < 2 ^ 32)
IsInRange (Entity state) = (state.number ≤ last_entity) × AreWords 64 state.words
IsInRange (Remove number) = number ≤ last_entity
IsInRange (Baseline state) = (1 ≤ state.number) × (state.number ≤ last_entity) × AreWords 64 state.words
IsInRange (Player c player) = (c ≤ last_client) × IsState player
IsInRange (Area c area) = (c ≤ last_client) × (length area.items ≤ most_area) × All (λ byte. byte < 256) area.items
IsInRange (Time time) = time < 2 ^ 32
IsInRange (Config index text) = (index < 2 ^ 32) × (length text ≤ most_config) × All (λ byte. (0 < byte) × (byte < 256)) text
IsInRange (Say c text) = (c ≤ last_client) × IsText text
IsInRange (TypeText c text) = (c ≤ last_client) × IsText text
IsInRange (Move c one) = (c ≤ last_client) × IsHeldMove one
IsInRange (Serve c) = c ≤ last_client
IsInRange (Send c) = c ≤ last_client
IsInRange (Deliver datagram) = (1 ≤ datagram) × (datagram ≤ last_datagram)
IsInRange (RecordTo c name) = (c ≤ last_client) × IsName name
IsInRange (Stop c) = c ≤ last_client
IsInRange (Show c) = c ≤ last_client
IsInRange (Bytes datagram) = (1 ≤ datagram) × (datagram ≤ last_datagram)
IsInRange (Toclient c bytes) = (c ≤ last_client) × (length bytes ≤ most_handed) × All (λ byte. byte < 256) bytes
IsInRange (Toserver c bytes) = (c ≤ last_client) × (length bytes ≤ most_handed) × All (λ byte. byte < 256) bytes
IsInRange (At ms) = ms ≤ last_time
IsInRange (End ms) = ms ≤ last_time

-- an event that a replay's script may have: any but `at` and `end`
abbrev pub IsReplayEvent : Event → Type 0
IsReplayEvent (At ms) = ⊥
IsReplayEvent (End ms) = ⊥
IsReplayEvent event = IsInRange event

-- an event that a server's script may have: what the game hands in, a datagram for a client, and a time
abbrev pub IsServeEvent : Event → Type 0
IsServeEvent (Port c port) = ⊥
IsServeEvent (TypeText c text) = ⊥
IsServeEvent (Move c one) = ⊥
IsServeEvent (Send c) = ⊥
IsServeEvent (Deliver datagram) = ⊥
IsServeEvent (RecordTo c name) = ⊥
IsServeEvent (Stop c) = ⊥
IsServeEvent (Show c) = ⊥
IsServeEvent (Bytes datagram) = ⊥
IsServeEvent (Toclient c bytes) = ⊥
IsServeEvent (Toserver c bytes) = ⊥
IsServeEvent event = IsInRange event

-- an event that a client's script may have: that it joins, a command, a move, a datagram, a recording, a snapshot to be shown, and a time
abbrev pub IsJoinEvent : Event → Type 0
IsJoinEvent (Port c port) = ⊥
IsJoinEvent (Map id feed) = ⊥
IsJoinEvent (Entity state) = ⊥
IsJoinEvent (Remove number) = ⊥
IsJoinEvent (Baseline state) = ⊥
IsJoinEvent (Player c player) = ⊥
IsJoinEvent (Area c area) = ⊥
IsJoinEvent (Time time) = ⊥
IsJoinEvent (Config index text) = ⊥
IsJoinEvent (Say c text) = ⊥
IsJoinEvent (Serve c) = ⊥
IsJoinEvent (Deliver datagram) = ⊥
IsJoinEvent (Bytes datagram) = ⊥
IsJoinEvent (Toclient c bytes) = ⊥
IsJoinEvent (Toserver c bytes) = ⊥
IsJoinEvent event = IsInRange event

-- an event that a script of a kind may have
abbrev pub IsEventOf : ScriptKind → Event → Type 0
IsEventOf kinds.Replay event = IsReplayEvent event
IsEventOf kinds.Serve event = IsServeEvent event
IsEventOf kinds.Join event = IsJoinEvent event

-- the words that an event is spelled by
abbrev pub HasWords : List (List ℕ) → Event → Type 0
HasWords words (Client c challenge qport dup address) =
    (last : List ℕ) × SpellsAddress last address × (words ≡ codes "client" ∷ decimal c ∷ decimal challenge ∷ decimal qport ∷ decimal dup ∷ last ∷ [])
HasWords words (Port c port) = words ≡ codes "port" ∷ decimal c ∷ decimal port ∷ []
HasWords words (Map id feed) = words ≡ codes "map" ∷ decimal id ∷ decimal feed ∷ []
HasWords words (Entity state) = (fields : List (List ℕ)) × SpellsEntity fields state × (words ≡ codes "entity" ∷ decimal state.number ∷ fields)
HasWords words (Remove number) = words ≡ codes "remove" ∷ decimal number ∷ []
HasWords words (Baseline state) = (fields : List (List ℕ)) × SpellsEntity fields state × (words ≡ codes "baseline" ∷ decimal state.number ∷ fields)
HasWords words (Player c player) = (fields : List (List ℕ)) × SpellsPlayer fields player × (words ≡ codes "player" ∷ decimal c ∷ fields)
HasWords words (Area c area) = (last : List ℕ) × SpellsHex last area.items × (words ≡ codes "area" ∷ decimal c ∷ last ∷ [])
HasWords words (Time time) = words ≡ codes "time" ∷ decimal time ∷ []
HasWords words (Config index text) = (last : List (List ℕ)) × SpellsBytes last text × (words ≡ codes "config" ∷ decimal index ∷ last)
HasWords words (Say c text) = (last : List (List ℕ)) × SpellsText last text × (words ≡ codes "say" ∷ decimal c ∷ last)
HasWords words (TypeText c text) = (last : List (List ℕ)) × SpellsText last text × (words ≡ codes "type" ∷ decimal c ∷ last)
HasWords words (Move c one) = words ≡ codes "move" ∷ decimal c ∷ move_words one
HasWords words (Serve c) = words ≡ codes "serve" ∷ decimal c ∷ []
HasWords words (Send c) = words ≡ codes "send" ∷ decimal c ∷ []
HasWords words (Deliver datagram) = words ≡ codes "deliver" ∷ decimal datagram ∷ []
HasWords words (RecordTo c name) = words ≡ codes "record" ∷ decimal c ∷ name ∷ []
HasWords words (Stop c) = words ≡ codes "stop" ∷ decimal c ∷ []
HasWords words (Show c) = words ≡ codes "show" ∷ decimal c ∷ []
HasWords words (Bytes datagram) = words ≡ codes "bytes" ∷ decimal datagram ∷ []
HasWords words (Toclient c bytes) = (last : List ℕ) × SpellsHex last bytes × (words ≡ codes "toclient" ∷ decimal c ∷ last ∷ [])
HasWords words (Toserver c bytes) = (last : List ℕ) × SpellsHex last bytes × (words ≡ codes "toserver" ∷ decimal c ∷ last ∷ [])
HasWords words (At ms) = words ≡ codes "at" ∷ decimal ms ∷ []
HasWords words (End ms) = words ≡ codes "end" ∷ decimal ms ∷ []

-- the words of a line spell an event
pub record SpellsEvent (kind : ScriptKind) (words : List (List ℕ)) (event : Event) : Type 0 where
  pub event_of : IsEventOf kind event
  pub whole : HasWords words event

-- each line spells the next event, but for those that are passed over
abbrev pub SpellLine : ScriptKind → Bool → List ℕ → (List Event → Type 0) → List Event → Type 0
SpellLine kind true line Others events = Others events
SpellLine kind false line Others [] = ⊥
SpellLine kind false line Others (event ∷ events) = SpellsEvent kind (words_of line) event × Others events

abbrev pub SpellEvents : ScriptKind → List (List ℕ) → List Event → Type 0
SpellEvents kind [] events = events ≡ []
SpellEvents kind (line ∷ lines) events = SpellLine kind (is_passed_over line) line (SpellEvents kind lines) events

-- ---- the order of a node's lines

-- no time is less than the one before it
abbrev pub TimesRise : ℕ → List Event → Type 0
TimesRise least [] = Unit {0}
TimesRise least (At ms ∷ events) = (least ≤ ms) × TimesRise ms events
TimesRise least (End ms ∷ events) = (least ≤ ms) × TimesRise ms events
TimesRise least (event ∷ events) = TimesRise least events

-- the last line is `end`, and no other
abbrev pub EndsLast : List Event → Type 0
EndsLast [] = ⊥
EndsLast (End ms ∷ events) = events ≡ []
EndsLast (event ∷ events) = EndsLast events

-- a line that a client's script may have after its first, `client`
abbrev pub IsOfClient : ℕ → Event → Type 0
IsOfClient c (Client d challenge qport dup address) = ⊥
IsOfClient c (TypeText d text) = d ≡ c
IsOfClient c (Move d one) = d ≡ c
IsOfClient c (Send d) = d ≡ c
IsOfClient c (RecordTo d name) = d ≡ c
IsOfClient c (Stop d) = d ≡ c
IsOfClient c (Show d) = d ≡ c
IsOfClient c event = Unit {0}

-- the first line is `client`, and all others are of that client
abbrev pub IsOneClient : List Event → Type 0
IsOneClient (Client c challenge qport dup address ∷ events) = AllByRecursion (IsOfClient c) events
IsOneClient events = ⊥

-- the events stand in an order that a script of a kind may have
abbrev pub AreOrdered : ScriptKind → List Event → Type 0
AreOrdered kinds.Replay events = Unit {0}
AreOrdered kinds.Serve events = TimesRise 0 events × EndsLast events
AreOrdered kinds.Join events = TimesRise 0 events × EndsLast events × IsOneClient events

-- the bytes are a script of a kind, of these events
pub record SpellsScript (kind : ScriptKind) (bytes : List ℕ) (events : List Event) : Type 0 where
  pub small : length bytes ≤ longest_script
  pub few : length events ≤ most_events
  pub spelled : SpellEvents kind (lines_of bytes) events
  pub ordered : AreOrdered kind events
