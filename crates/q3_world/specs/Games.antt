-- The maps of a server at both ends of a client: the gamestates that were built for it, those that it applied, and what its own
-- messages say of them.
use Rattle.std.specs.Prelude.{◌≡◌, ◌≢◌, ℕ, ◌<◌, ◌≤◌, ◌⊎◌, Bool, true, false, List, [], length, drop, All, Contains, Option, Some, None, IfSome, MatchOption, slice_index_or, IsSome}
use Rattle.std.specs.List.{last_or}
use Rattle.q3_config.specs.Strings.{server_id}
use Rattle.q3_config.specs.Changes.{after_commands}
use Rattle.q3_entity.specs.Baselines.{no_baselines}
use Rattle.q3_clmsg.specs.declared.moves.Move.{Move}
use Rattle.q3_gamestate.specs.Values.{Gamestate}
use Rattle.q3_svmsg.specs.Values as told
use Rattle.q3_entity_ring.specs.Snapshot.{Snapshot}
use Rattle.q3_clstate.specs.State.{AppliedState}
use Rattle.q3_map.specs.Map.{MapState}
use Rattle.q3_built.specs.Built.{Built}
use Rattle.q3_slot.specs.Slot.{SlotState, game_of, is_active}
use Rattle.q3_client.specs.declared.moves.Issued.{Issued}
use Rattle.q3_client.specs.Sending.{Said}
use Rattle.q3_world.specs.World.{Played, built_at}

-- ---- gamestates

-- the message under a number was built with this gamestate
pub record Carries (built : List Built) (n : ℕ) (game : Gamestate) : Type 0 where
  pub some : 1 ≤ n
  pub begun : n ≤ length built
  pub is : (built_at built n).message.section ≡ told.Game game

-- a gamestate tells the id of its map
abbrev pub Tells : Gamestate → ℕ → Type 0
Tells game id = server_id game.strings ≡ Some id

-- a client applied the gamestate of the message under a number
abbrev pub WasPlayed : List Played → ℕ → Type 0
WasPlayed games n = (played : Played) × Contains games played × (played.number ≡ n)

-- ---- the server's map and a slot

-- what a slot has of the map: whether its client plays, the last gamestate of the map, whether one is owed, the snapshot that it asks
-- to write against, and the time of the last move run
pub record Standing : Type 0 where
  pub plays : Bool
  pub game : Option ℕ
  pub owed : Bool
  pub delta : ℕ
  pub last_run : ℕ

abbrev pub standing_of : SlotState → Standing
standing_of slot = record { plays = is_active slot.stage; game = game_of slot.stage; owed = slot.owed; delta = slot.delta; last_run = slot.last_run }

-- the gamestates that were built are of maps up to the present one, and later ones of no earlier map; those of the present one have
-- its baselines and its feed
pub record OfMaps (map : MapState) (built : List Built) : Type 0 where
  pub ids : (n id : ℕ) (game : Gamestate) → Carries built n game → Tells game id → (1 ≤ id) × (id ≤ map.id)
  pub rise : (m n x y : ℕ) (first second : Gamestate) → Carries built m first → Carries built n second → m < n → Tells first x → Tells second y → x ≤ y
  pub same : (n : ℕ) (game : Gamestate) → Carries built n game → Tells game map.id → (map.begun ≡ true) × (game.baselines ≡ map.baselines) × (game.feed ≡ map.feed)

-- a slot whose last gamestate of the present map is that of a number: none was built after it; or none of the map was built
abbrev pub HasLast : MapState → List Built → Option ℕ → Type 0
HasLast map built None = (n : ℕ) (game : Gamestate) → Carries built n game → Tells game map.id → ⊥
HasLast map built (Some last) =
    ((game : Gamestate) × Carries built last game × Tells game map.id)
    × ((n : ℕ) (game : Gamestate) → Carries built n game → n ≤ last)

-- how far a client came at the server, by the gamestates that were built for it, those that it applied, the newest number that it took,
-- and the messages that it said
pub record StandsAt (map : MapState) (slot : Standing) (taken : ℕ) (built : List Built) (games : List Played) (said : List Said) : Type 0 where
  pub last : HasLast map built slot.game
  -- of two of one map, the present or a past one, the earlier was never applied, and comes too late: the client has taken a number above it
  pub earlier : (m n id : ℕ) (first second : Gamestate) → Carries built m first → Carries built n second → m < n → Tells first id → Tells second id
      → (WasPlayed games m → ⊥) × (m < taken)
  -- one that plays applied the last, and is owed none
  pub active : slot.plays ≡ true → (slot.owed ≡ false) × ((n : ℕ) × (slot.game ≡ Some n) × WasPlayed games n)
  -- one that is owed a gamestate doesn't play, applied none of the map, and took a later number than the last
  pub owed : slot.owed ≡ true → (slot.plays ≢ true) × (map.id ≢ 0) × IfSome slot.game (λ n. (WasPlayed games n → ⊥) × (n < taken))
  -- so is one that said under another map that it took a later number than the last
  pub other : All (λ (message : Said). message.message.id ≢ map.id → IfSome slot.game (λ n. n < message.message.acknowledged → (WasPlayed games n → ⊥) × (n < taken))) said
  -- until it plays, each move that was run is older than the gamestate that it applied
  pub older : slot.plays ≢ true → IfSome slot.game (λ n. (played : Played) → Contains games played → played.number ≡ n → slot.last_run ≤ played.time)

-- ---- a client

-- a client's state by the last gamestate that it applied, and the texts that it executed since
pub record IsOf (state : AppliedState) (played : Played) (executed : List (List ℕ)) : Type 0 where
  pub has : state.has_game ≡ true
  pub id : Tells played.game state.id
  pub slot : state.slot ≡ played.game.slot
  pub feed : state.feed ≡ played.game.feed
  pub baselines : state.baselines ≡ played.game.baselines
  pub strings : state.strings ≡ after_commands played.game.strings (drop played.executed executed)

-- and of one that applied none: its strings tell no id
pub record IsFresh (state : AppliedState) : Type 0 where
  pub has : state.has_game ≡ false
  pub id : state.id ≡ 0
  pub strings : server_id state.strings ≡ None
  pub slot : state.slot ≡ 0
  pub feed : state.feed ≡ 0
  pub baselines : state.baselines ≡ no_baselines

-- the last gamestate that was applied, if one was
abbrev pub last_played : List Played → Option Played
last_played games = last_or None games

-- how many snapshots were accepted before a gamestate
abbrev pub accepted_before : Option Played → ℕ
accepted_before None = 0
accepted_before (Some played) = played.accepted

-- the snapshots that were accepted since the last gamestate
abbrev pub accepted_since : List Played → List Snapshot → List Snapshot
accepted_since games accepted = drop (accepted_before (last_played games)) accepted

-- one gamestate that a client applied: it was built, it tells the id of a map, and every snapshot that was accepted before has a lower
-- number, each since a higher one
pub record WasApplied (taken last_time : ℕ) (built : List Built) (accepted : List Snapshot) (heard : List (List ℕ)) (played : Played) : Type 0 where
  pub carries : Carries built played.number played.game
  pub tells : IsSome (server_id played.game.strings)
  pub most : played.number ≤ taken
  pub before : played.accepted ≤ length accepted
  pub executed : played.executed ≤ length heard
  pub time : played.time ≤ last_time
  pub lower : (k : ℕ) (d : Snapshot) → k < played.accepted → k < length accepted → (slice_index_or accepted k d).head.number < played.number
  pub higher : (k : ℕ) (d : Snapshot) → played.accepted ≤ k → k < length accepted → played.number < (slice_index_or accepted k d).head.number

-- numbers rise
abbrev pub GamesRise : List Played → Type 0
GamesRise games = (j k : ℕ) (d : Played) → j < k → k < length games → (slice_index_or games j d).number < (slice_index_or games k d).number

-- of two the later one is of a map with a greater id: so there is at most one of each map
abbrev pub MapsRise : List Played → Type 0
MapsRise games = (j k x y : ℕ) (d : Played) → j < k → k < length games → Tells (slice_index_or games j d).game x → Tells (slice_index_or games k d).game y → x < y

-- what a client has of the gamestates that it applied
pub record HasGames (state : AppliedState) (taken last_time : ℕ) (built : List Built) (games : List Played) (accepted : List Snapshot) (executed : List (List ℕ)) : Type 0 where
  pub each : All (WasApplied taken last_time built accepted executed) games
  pub rise : GamesRise games
  pub maps : MapsRise games
  pub shows : MatchOption (last_played games) (IsFresh state) (λ played. IsOf state played executed)

-- a client accepted a snapshot of a number under a gamestate that it had applied: after it, and before each gamestate that it applied
-- later, which has a higher number
pub record AcceptedUnder (games : List Played) (accepted : List Snapshot) (played : Played) (number : ℕ) : Type 0 where
  pub there : Contains games played
  pub place : ℕ
  pub within : place < length accepted
  pub is : (d : Snapshot) → (slice_index_or accepted place d).head.number ≡ number
  pub after : played.accepted ≤ place
  pub before : (later : Played) → Contains games later → played.number < later.number → place < later.accepted

-- a message that a client said under a gamestate that it had applied: with its id and feed, after it, and with moves that were issued
-- since; one that asks for deltas acknowledges a snapshot that was accepted under this gamestate
pub record SaidUnder (games : List Played) (accepted : List Snapshot) (said : Said) (played : Played) : Type 0 where
  pub there : Contains games played
  pub id : Tells played.game said.message.id
  pub feed : said.feed ≡ played.game.feed
  pub after : played.number ≤ said.message.acknowledged
  pub asks : said.message.delta ≡ true → AcceptedUnder games accepted played said.message.acknowledged
  pub later : All (λ (one : Move). played.time < one.time) said.message.moves

-- before a gamestate there is neither an id nor a move, and no deltas are asked for
abbrev pub SaidBefore : Said → Type 0
SaidBefore said = (said.message.id ≡ 0) × (said.message.moves ≡ []) × (said.message.delta ≡ false)

abbrev pub IsSaidUnder : List Played → List Snapshot → Said → Type 0
IsSaidUnder games accepted said = SaidBefore said ⊎ ((played : Played) × SaidUnder games accepted said played)

-- ---- what was built

-- a snapshot for a client that played: its gamestate was applied and is the last one before it, the baselines are its own, and its base
-- came after it
pub record BuiltUnder (built : List Built) (games : List Played) (n g : ℕ) : Type 0 where
  pub was : WasPlayed games g
  pub below : g < n
  pub last : (k : ℕ) (game : Gamestate) → Carries built k game → k < n → k ≤ g
  pub baselines : (game : Gamestate) → Carries built g game → (built_at built n).baselines ≡ game.baselines
  pub base : IfSome (built_at built n).base (λ base. g < base.head.number)

-- each message for a client that played is so
abbrev pub AreBuiltUnder : List Built → List Played → Type 0
AreBuiltUnder built games = (n g : ℕ) → 1 ≤ n → n ≤ length built → (built_at built n).under ≡ Some g → BuiltUnder built games n g

-- the snapshot that a slot asks to write against was accepted under the gamestate under which its client plays, if it asks for one
abbrev pub AsksUnder : Standing → List Played → List Snapshot → Type 0
AsksUnder slot games accepted =
    (slot.delta ≡ 0) ⊎ ((played : Played) × (slot.game ≡ Some played.number) × (slot.plays ≡ true) × AcceptedUnder games accepted played slot.delta)

-- what joins both ends of a client on the server's maps: the map, what its slot has of it, what the client applied, the newest number
-- that it took and the time of the last move that it issued, and all that nothing wipes
pub record AreMapped (map : MapState) (slot : Standing) (state : AppliedState) (taken last_time : ℕ) (built : List Built) (games : List Played) (began : List Said) (accepted : List Snapshot) (executed : List (List ℕ)) : Type 0 where
  pub of_maps : OfMaps map built
  pub stands : StandsAt map slot taken built games began
  pub has : HasGames state taken last_time built games accepted executed
  pub said : All (IsSaidUnder games accepted) began
  pub under : AreBuiltUnder built games
  pub delta : AsksUnder slot games accepted
  pub ran : slot.last_run ≤ last_time
  pub acks : All (λ (message : Said). message.message.acknowledged ≤ taken) began

-- the moves that a client keeps were issued since the last gamestate that it applied; before one it keeps none
abbrev pub AreSince : List Played → List Issued → Type 0
AreSince games moves = MatchOption (last_played games) (moves ≡ []) (λ (played : Played). All (λ (issued : Issued). played.time < issued.one.time) moves)
