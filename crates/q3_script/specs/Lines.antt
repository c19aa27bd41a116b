-- The event that a line of a script spells, or the first cause for which it is refused.
use Rattle.std.specs.Prelude.{ℕ, ℤ, pos, neg_ℤ, Option, option_map, List, [], ◌∷◌, codes, Result, Ok, Err}
use Rattle.std.specs.Option.{ok_or, option_map_or}
use Rattle.std.specs.List.{join_with_byte}
use Rattle.std.specs.Map.{lookup}
use Rattle.std.specs.Str.{bytes_eq}
use Rattle.q3_clmsg.specs.declared.moves.Move.{Move as MoveValue}
use Rattle.q3_script.specs.declared.event.Event.{Event}
use Rattle.q3_script.specs.declared.event.Event.TheVariants.{Client, Port, Map, Entity, Remove, Baseline, Player, Area, Time, Config, Say, TypeText, Move, Serve, Send, Deliver, RecordTo, Stop, Show, Bytes, Toclient, Toserver, At, End}
use Rattle.q3_words.specs.declared.cause.LineCause.{LineCause}
use Rattle.q3_words.specs.declared.cause.LineCause.TheVariants as causes
use Rattle.q3_script.specs.declared.cause.ScriptKind.{ScriptKind}
use Rattle.q3_script.specs.declared.cause.ScriptKind.TheVariants as kinds
use Rattle.q3_words.specs.Numbers.{last_client, last_entity, number_word, entity_word, client_word}
use Rattle.q3_words.specs.Words.{after_prefix}
use Rattle.q3_text.specs.Decimals.{number_at}
use Rattle.q3_words.specs.Addresses.{address_at}
use Rattle.q3_words.specs.Hex.{area_at, handed_at}
use Rattle.q3_words.specs.Names.{name_at}
use Rattle.q3_words.specs.Quotes.{most_config, bytes_word, text_word}
use Rattle.q3_words.specs.Fields.{entity_at, player_at}
use Rattle.q3_bits.specs.ResultBind.{◌>>=◌}

-- the greatest number of a datagram that a line can name
abbrev pub last_datagram : ℕ
last_datagram = 65536

-- the latest time of a node's script, in milliseconds
abbrev pub last_time : ℕ
last_time = 3600000

-- the only word, a number from low to high
unfoldable pub only_number : ℕ → ℕ → List (List ℕ) → Result ℕ LineCause
only_number low high (word ∷ []) = number_word low high word
only_number low high words = Err causes.Count

unfoldable pub client_line : List (List ℕ) → Result Event LineCause
client_line (c ∷ challenge ∷ qport ∷ dup ∷ address ∷ []) = do
  c ← client_word c
  challenge ← number_word 0 4294967295 challenge
  qport ← number_word 0 65535 qport
  dup ← number_word 0 5 dup
  address ← ok_or (address_at address) causes.Address
  Ok (Client c challenge qport dup address)
client_line words = Err causes.Count

unfoldable pub port_line : List (List ℕ) → Result Event LineCause
port_line (c ∷ port ∷ []) = do
  c ← client_word c
  port ← number_word 1 65535 port
  Ok (Port c port)
port_line words = Err causes.Count

unfoldable pub map_line : List (List ℕ) → Result Event LineCause
map_line (id ∷ feed ∷ []) = do
  id ← number_word 1 2147483647 id
  feed ← number_word 0 4294967295 feed
  Ok (Map id feed)
map_line words = Err causes.Count

unfoldable pub entity_line : List (List ℕ) → Result Event LineCause
entity_line (number ∷ fields) = do
  number ← entity_word number
  state ← entity_at number fields
  Ok (Entity state)
entity_line [] = Err causes.Count

unfoldable pub remove_line : List (List ℕ) → Result Event LineCause
remove_line words = do
  number ← only_number 0 last_entity words
  Ok (Remove number)

unfoldable pub baseline_line : List (List ℕ) → Result Event LineCause
baseline_line (number ∷ fields) = do
  number ← number_word 1 last_entity number
  state ← entity_at number fields
  Ok (Baseline state)
baseline_line [] = Err causes.Count

unfoldable pub player_line : List (List ℕ) → Result Event LineCause
player_line (c ∷ fields) = do
  c ← client_word c
  player ← player_at fields
  Ok (Player c player)
player_line [] = Err causes.Count

unfoldable pub area_line : List (List ℕ) → Result Event LineCause
area_line (c ∷ area ∷ []) = do
  c ← client_word c
  area ← ok_or (area_at area) causes.Number
  Ok (Area c area)
area_line words = Err causes.Count

unfoldable pub time_line : List (List ℕ) → Result Event LineCause
time_line words = do
  time ← only_number 0 4294967295 words
  Ok (Time time)

-- an index and the text of its config string, which is the rest of the line with its spaces
unfoldable pub config_at : List (List ℕ) → Result (ℕ × List ℕ) LineCause
config_at (index ∷ first ∷ rest) = do
  index ← number_word 0 4294967295 index
  text ← bytes_word most_config (join_with_byte 32 (first ∷ rest))
  Ok (index, text)
config_at words = Err causes.Count

unfoldable pub config_line : List (List ℕ) → Result Event LineCause
config_line words = do
  config ← config_at words
  Ok (Config config.0 config.1)

-- a client and the command to it or from it, which is the rest of the line with its spaces
unfoldable pub command_at : List (List ℕ) → Result (ℕ × List ℕ) LineCause
command_at (c ∷ first ∷ rest) = do
  c ← client_word c
  text ← text_word (join_with_byte 32 (first ∷ rest))
  Ok (c, text)
command_at words = Err causes.Count

unfoldable pub say_line : List (List ℕ) → Result Event LineCause
say_line words = do
  command ← command_at words
  Ok (Say command.0 command.1)

unfoldable pub type_line : List (List ℕ) → Result Event LineCause
type_line words = do
  command ← command_at words
  Ok (TypeText command.0 command.1)

-- a number from -128 to 127, with a `-` in front where it is below 0
unfoldable pub signed_byte_at : List ℕ → Option ℤ
signed_byte_at word =
    option_map_or (λ digits. option_map (λ size. neg_ℤ (pos size)) (number_at 1 128 digits))
    (after_prefix (codes "-") word) (option_map pos (number_at 0 127 word))

-- how fast a player walks or rises
abbrev pub signed_byte_word : List ℕ → Result ℤ LineCause
signed_byte_word word = ok_or (signed_byte_at word) causes.Number

-- three angles
abbrev pub angles_at : List ℕ → List ℕ → List ℕ → Result (List ℕ) LineCause
angles_at pitch yaw roll = do
  pitch ← number_word 0 65535 pitch
  yaw ← number_word 0 65535 yaw
  roll ← number_word 0 65535 roll
  Ok (pitch ∷ yaw ∷ roll ∷ [])

-- forward, right and up
abbrev pub steps_at : List ℕ → List ℕ → List ℕ → Result (ℤ × ℤ × ℤ) LineCause
steps_at forward right up = do
  forward ← signed_byte_word forward
  right ← signed_byte_word right
  up ← signed_byte_word up
  Ok (forward, right, up)

-- the move of these parts
abbrev pub move_with : ℕ → List ℕ → ℤ × ℤ × ℤ → ℕ → ℕ → MoveValue
move_with time angles steps buttons weapon = record {
  time = time;
  angles = angles;
  forward = steps.0;
  right = steps.1;
  up = steps.2;
  buttons = buttons;
  weapon = weapon;
}

unfoldable pub move_line : List (List ℕ) → Result Event LineCause
move_line (c ∷ time ∷ pitch ∷ yaw ∷ roll ∷ forward ∷ right ∷ up ∷ buttons ∷ weapon ∷ []) = do
  c ← client_word c
  time ← number_word 0 4294967295 time
  angles ← angles_at pitch yaw roll
  steps ← steps_at forward right up
  buttons ← number_word 0 65535 buttons
  weapon ← number_word 0 255 weapon
  Ok (Move c (move_with time angles steps buttons weapon))
move_line words = Err causes.Count

unfoldable pub serve_line : List (List ℕ) → Result Event LineCause
serve_line words = do
  c ← only_number 0 last_client words
  Ok (Serve c)

unfoldable pub send_line : List (List ℕ) → Result Event LineCause
send_line words = do
  c ← only_number 0 last_client words
  Ok (Send c)

unfoldable pub deliver_line : List (List ℕ) → Result Event LineCause
deliver_line words = do
  datagram ← only_number 1 last_datagram words
  Ok (Deliver datagram)

-- a client, and the name of the file that it records into
unfoldable pub record_at : List (List ℕ) → Result (ℕ × List ℕ) LineCause
record_at (c ∷ name ∷ []) = do
  c ← client_word c
  name ← ok_or (name_at name) causes.Name
  Ok (c, name)
record_at words = Err causes.Count

unfoldable pub record_line : List (List ℕ) → Result Event LineCause
record_line words = do
  record_to ← record_at words
  Ok (RecordTo record_to.0 record_to.1)

unfoldable pub stop_line : List (List ℕ) → Result Event LineCause
stop_line words = do
  c ← only_number 0 last_client words
  Ok (Stop c)

unfoldable pub show_line : List (List ℕ) → Result Event LineCause
show_line words = do
  c ← only_number 0 last_client words
  Ok (Show c)

unfoldable pub bytes_line : List (List ℕ) → Result Event LineCause
bytes_line words = do
  datagram ← only_number 1 last_datagram words
  Ok (Bytes datagram)

-- a client and the bytes that are handed to it, or to the server from it
unfoldable pub hand_at : List (List ℕ) → Result (ℕ × List ℕ) LineCause
hand_at (c ∷ bytes ∷ []) = do
  c ← client_word c
  bytes ← ok_or (handed_at bytes) causes.Number
  Ok (c, bytes)
hand_at words = Err causes.Count

unfoldable pub toclient_line : List (List ℕ) → Result Event LineCause
toclient_line words = do
  hand ← hand_at words
  Ok (Toclient hand.0 hand.1)

unfoldable pub toserver_line : List (List ℕ) → Result Event LineCause
toserver_line words = do
  hand ← hand_at words
  Ok (Toserver hand.0 hand.1)

unfoldable pub at_line : List (List ℕ) → Result Event LineCause
at_line words = do
  ms ← only_number 0 last_time words
  Ok (At ms)

unfoldable pub end_line : List (List ℕ) → Result Event LineCause
end_line words = do
  ms ← only_number 0 last_time words
  Ok (End ms)

-- lines by their first words, each with what reads the others
abbrev pub Table : Type 0
Table = List (List ℕ × (List (List ℕ) → Result Event LineCause))

-- the line of its first word reads the others
abbrev pub line_in : Table → List ℕ → List (List ℕ) → Result Event LineCause
line_in lines word others = option_map_or (λ line. line others) (lookup (λ text. bytes_eq text word) lines) (Err causes.Word)

-- the lines of a replay by which its ends do something, and are looked at
abbrev pub turn_lines : Table
turn_lines =
    (codes "serve", serve_line)
    ∷ (codes "send", send_line)
    ∷ (codes "deliver", deliver_line)
    ∷ (codes "record", record_line)
    ∷ (codes "stop", stop_line)
    ∷ (codes "show", show_line)
    ∷ (codes "bytes", bytes_line)
    ∷ []

-- the lines of a replay
abbrev pub replay_lines : Table
replay_lines =
    (codes "client", client_line)
    ∷ (codes "port", port_line)
    ∷ (codes "toclient", toclient_line)
    ∷ (codes "toserver", toserver_line)
    ∷ (codes "map", map_line)
    ∷ (codes "entity", entity_line)
    ∷ (codes "remove", remove_line)
    ∷ (codes "baseline", baseline_line)
    ∷ (codes "player", player_line)
    ∷ (codes "area", area_line)
    ∷ (codes "time", time_line)
    ∷ (codes "config", config_line)
    ∷ (codes "say", say_line)
    ∷ (codes "type", type_line)
    ∷ (codes "move", move_line)
    ∷ turn_lines

-- the lines of a server's script
abbrev pub serve_lines : Table
serve_lines =
    (codes "client", client_line)
    ∷ (codes "map", map_line)
    ∷ (codes "entity", entity_line)
    ∷ (codes "remove", remove_line)
    ∷ (codes "baseline", baseline_line)
    ∷ (codes "player", player_line)
    ∷ (codes "area", area_line)
    ∷ (codes "time", time_line)
    ∷ (codes "config", config_line)
    ∷ (codes "say", say_line)
    ∷ (codes "serve", serve_line)
    ∷ (codes "at", at_line)
    ∷ (codes "end", end_line)
    ∷ []

-- the lines of a client's script
abbrev pub join_lines : Table
join_lines =
    (codes "client", client_line)
    ∷ (codes "type", type_line)
    ∷ (codes "move", move_line)
    ∷ (codes "send", send_line)
    ∷ (codes "record", record_line)
    ∷ (codes "stop", stop_line)
    ∷ (codes "show", show_line)
    ∷ (codes "at", at_line)
    ∷ (codes "end", end_line)
    ∷ []

-- the lines that a command takes
abbrev pub lines_taken : ScriptKind → Table
lines_taken kinds.Replay = replay_lines
lines_taken kinds.Serve = serve_lines
lines_taken kinds.Join = join_lines

unfoldable pub line_at : ScriptKind → List (List ℕ) → Result Event LineCause
line_at kind [] = Err causes.Word
line_at kind (word ∷ others) = line_in (lines_taken kind) word others
