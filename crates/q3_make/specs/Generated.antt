-- The script that a seed makes: lines that open it, lines that are drawn, and lines that close it.
use Rattle.std.specs.Prelude.{◌≡◌, ℕ, zero, suc, ◌≤◌, length, All, ◌+◌, ◌*◌, ◌-◌, ◌%◌, ◌==◌, nat_le, min, pos, if◌then◌else◌, List, [], ◌∷◌, ◌++◌, map, sum_by, codes, decimal, slice_set}
use Rattle.std.specs.List.{flat_map, range_with_len}
use Rattle.rand_core.specs.Pcg32Seed.{pcg32_seed}
use Rattle.rand_pcg.specs.Lcg.{Lcg}
use Rattle.rand_pcg.specs.Pcg.{pcg32, pcg32_of_seed}
use Rattle.q3_clmsg.specs.Moves.{no_move}
use Rattle.q3_clmsg.specs.declared.moves.Move.{Move as MoveValue}
use Rattle.q3_entity.specs.Entities.{zero_entity}
use Rattle.q3_entity.specs.declared.state.EntityState.{EntityState}
use Rattle.q3_player.specs.State.{zero_player}
use Rattle.q3_player.specs.declared.state.PlayerState.{PlayerState}
use Rattle.q3_words.specs.Addresses.{host_of}
use Rattle.q3_script.specs.Grammar.{IsReplayEvent}
use Rattle.q3_script.specs.Script.{longest_script}
use Rattle.q3_make.specs.Printed.{script_text}
use Rattle.q3_script.specs.declared.event.Event.{Event}
use Rattle.q3_script.specs.declared.event.Event.TheVariants.{Client, Map, Entity, Remove, Baseline, Player, Time, Config, Say, TypeText, Move, Serve, Send, Deliver, Show}

-- the generator of a seed
unfoldable pub generator_of : ℕ → Lcg
generator_of seed = pcg32_of_seed (pcg32_seed 16 seed)

-- a draw below n: the next word modulo n, and the generator after it
unfoldable pub draw : ℕ → Lcg → ℕ × Lcg
draw n generator = ((pcg32 generator).0 % n, (pcg32 generator).1)

-- ---- events

-- an entity with one word, and 0 in all other places
abbrev pub entity_with : ℕ → ℕ → ℕ → EntityState
entity_with number place word = record (zero_entity number) { words = slice_set (zero_entity number).words place word }

-- a player with one word and one stat, and 0 in all other places
abbrev pub player_with : ℕ → ℕ → ℕ → ℕ → PlayerState
player_with place word stat value = record zero_player { words = slice_set zero_player.words place word; stats = slice_set zero_player.stats stat (pos value) }

-- the move of a player who walks forward
abbrev pub walking : ℕ → List ℕ → ℕ → ℕ → MoveValue
walking time angles forward buttons = record no_move { time = time; angles = angles; forward = pos forward; buttons = buttons }

-- the move of a player who stands still
abbrev pub still : ℕ → MoveValue
still time = record no_move { time = time }

-- the client of a number, with a challenge, a qport and an address of its own
abbrev pub joins : ℕ → Event
joins c = Client c (1000 + c) (5000 + c) c (record { host = host_of 10 0 0 (c + 1); port = 27960 })

-- the server's time at a drawn line
abbrev pub time_at : ℕ → ℕ
time_at i = 1000 + 10 * i

-- how many datagrams a line makes, and how many lines make
abbrev pub made_by : Event → ℕ
made_by (Serve c) = 1
made_by (Send c) = 1
made_by event = 0

abbrev pub made_in : List Event → ℕ
made_in events = sum_by made_by events

-- ---- drawn lines: each draw is taken from the generator that the one before it left

abbrev pub entity_line : Lcg → Event × Lcg
entity_line generator =
    let number = draw 200 generator in
    let place = draw 4 number.1 in
    let word = draw 1000 place.1 in
    (Entity (entity_with (1 + number.0) place.0 word.0), word.1)

abbrev pub remove_line : Lcg → Event × Lcg
remove_line generator = let number = draw 200 generator in (Remove (1 + number.0), number.1)

abbrev pub player_line : Lcg → Event × Lcg
player_line generator =
    let c = draw 4 generator in
    let place = draw 4 c.1 in
    let word = draw 1000 place.1 in
    let stat = draw 16 word.1 in
    let value = draw 200 stat.1 in
    (Player c.0 (player_with place.0 word.0 stat.0 value.0), value.1)

abbrev pub say_line : ℕ → Lcg → Event × Lcg
say_line i generator = let c = draw 4 generator in (Say c.0 (codes "chat " ++ decimal i), c.1)

abbrev pub type_line : ℕ → Lcg → Event × Lcg
type_line i generator = let c = draw 4 generator in (TypeText c.0 (codes "cmd " ++ decimal i), c.1)

abbrev pub move_line : ℕ → Lcg → Event × Lcg
move_line i generator =
    let c = draw 4 generator in
    let pitch = draw 65536 c.1 in
    let yaw = draw 65536 pitch.1 in
    let forward = draw 128 yaw.1 in
    let buttons = draw 16 forward.1 in
    (Move c.0 (walking (time_at i) (pitch.0 ∷ yaw.0 ∷ 0 ∷ []) forward.0 buttons.0), buttons.1)

abbrev pub serve_line : Lcg → Event × Lcg
serve_line generator = let c = draw 4 generator in (Serve c.0, c.1)

abbrev pub send_line : Lcg → Event × Lcg
send_line generator = let c = draw 4 generator in (Send c.0, c.1)

-- one of the last 24 datagrams, where so many were made
abbrev pub deliver_line : ℕ → Lcg → Event × Lcg
deliver_line made generator = let back = draw (min made 24) generator in (Deliver (made - back.0), back.1)

abbrev pub config_line : ℕ → Lcg → Event × Lcg
config_line i generator = let index = draw 40 generator in (Config (2 + index.0) (codes "value " ++ decimal i), index.1)

-- the line of a kind, from 0 to 17
abbrev pub line_of : ℕ → ℕ → ℕ → Lcg → Event × Lcg
line_of kind i made generator =
    if nat_le kind 1 then entity_line generator
    else if kind == 2 then remove_line generator
    else if kind == 3 then player_line generator
    else if kind == 4 then (Time (time_at i), generator)
    else if kind == 5 then say_line i generator
    else if kind == 6 then type_line i generator
    else if kind == 7 then move_line i generator
    else if nat_le kind 11 then serve_line generator
    else if nat_le kind 13 then send_line generator
    else if nat_le kind 16 then deliver_line made generator
    else config_line i generator

-- the drawn line of a number, after so many datagrams: its kind is the first draw
unfoldable pub drawn_line : ℕ → ℕ → Lcg → Event × Lcg
drawn_line i made generator = let kind = draw 18 generator in line_of kind.0 i made kind.1

-- so many drawn lines, from this number on
unfoldable pub drawn_from : ℕ → ℕ → ℕ → Lcg → List Event
drawn_from zero i made generator = []
drawn_from (suc left) i made generator =
    let line = drawn_line i made generator in line.0 ∷ drawn_from left (i + 1) (made + made_by line.0) line.1

-- ---- the script

-- a client's first turns: two datagrams from the server and two to it, each delivered
abbrev pub first_turns : ℕ → ℕ → List Event
first_turns c made =
    Serve c ∷ Deliver (made + 1) ∷ Send c ∷ Deliver (made + 2) ∷ Serve c ∷ Deliver (made + 3)
    ∷ Move c (still 1000) ∷ Send c ∷ Deliver (made + 4) ∷ []

-- one of a client's last turns: a datagram from the server, and one to it with a move, each delivered
abbrev pub last_turn : ℕ → ℕ → ℕ → List Event
last_turn c made time = Serve c ∷ Deliver (made + 1) ∷ Move c (still time) ∷ Send c ∷ Deliver (made + 2) ∷ []

-- twenty turns of a client, and its newest snapshot
abbrev pub last_turns : ℕ → ℕ → List Event
last_turns c made = flat_map (λ k. last_turn c (made + 2 * k) (1000001 + k)) (range_with_len 0 20) ++ Show c ∷ []

-- four clients join, a map with forty baselines and forty entities begins, and each client takes its first turns
unfoldable pub opening : List Event
opening =
    map joins (range_with_len 0 4)
    ++ (Map 1 4242 ∷ [])
    ++ map (λ n. Baseline (entity_with n 1 n)) (range_with_len 1 40)
    ++ map (λ n. Entity (entity_with n 1 n)) (range_with_len 1 40)
    ++ (Time 1000 ∷ [])
    ++ flat_map (λ c. first_turns c (4 * c)) (range_with_len 0 4)

-- the last turns of each client, after so many datagrams
unfoldable pub closing : ℕ → List Event
closing made = flat_map (λ c. last_turns c (made + 40 * c)) (range_with_len 0 4)

-- the whole script of so many drawn lines
unfoldable pub generated : ℕ → ℕ → List Event
generated number seed =
    let front = opening ++ drawn_from number 1 (made_in opening) (generator_of seed) in
    front ++ closing (made_in front)

-- where the drawing of lines stands: how many were drawn, how many datagrams all lines so far make, and the generator
pub record DrawnState : Type 0 where
  pub drawn : ℕ
  pub made : ℕ
  pub generator : Lcg

-- what is left of a script from there: so many drawn lines, and the closing ones
unfoldable pub rest_of : ℕ → DrawnState → List Event
rest_of left state =
    let lines = drawn_from left (state.drawn + 1) state.made state.generator in
    lines ++ closing (state.made + made_in lines)

-- what a seed makes can be printed: so many events, each one of a replay, in a text that isn't too long
pub record IsMade (number : ℕ) (events : List Event) : Type 0 where
  pub count : length events ≡ number + 526
  pub each : All IsReplayEvent events
  pub small : length (script_text events) ≤ longest_script

abbrev pub GeneratedAreEvents : Type 0
GeneratedAreEvents = (number seed : ℕ) → number ≤ 65000 → IsMade number (generated number seed)
