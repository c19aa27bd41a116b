-- Each line in the steps by which it is read.
use Rattle.std.proofs.Common.{◌≡◌, ℕ, List, [], ◌∷◌, Ok, refl}
use Rattle.std.specs.Option.{ok_or}
use Rattle.q3_script.specs.declared.event.Event.TheVariants.{Client, Port, Map, Entity, Baseline, Player, Area, Move}
use Rattle.q3_words.specs.declared.cause.LineCause.TheVariants.{Address, Count, Name, Number}
use Rattle.q3_bits.specs.ResultBind.{◌>>=◌}
use Rattle.q3_words.specs.Words.{next_of, three_of, only_of, text_from}
use Rattle.q3_words.specs.Addresses.{address_at}
use Rattle.q3_words.specs.Hex.{area_at, handed_at}
use Rattle.q3_words.specs.Names.{name_at}
use Rattle.q3_words.specs.Quotes.{bytes_word, text_word, most_config}
use Rattle.q3_words.specs.Fields.{entity_at, player_at}
use Rattle.q3_words.specs.Numbers.{last_entity, number_word, entity_word, client_word}
use Rattle.q3_script.specs.Lines.{only_number, angles_at, steps_at, move_with, client_line, port_line, map_line, entity_line, baseline_line, player_line, area_line, config_at, command_at, move_line, record_at, hand_at}

-- a client: four words and the last, then each of them
pub client_steps : (words : List (List ℕ)) → client_line words ≡ (ok_or (next_of words) Count >>= λ c. ok_or (next_of c.1) Count >>= λ challenge. ok_or (next_of challenge.1) Count >>= λ qport. ok_or (next_of qport.1) Count >>= λ dup. ok_or (only_of dup.1) Count >>= λ address.
    client_word c.0 >>= λ c. number_word 0 4294967295 challenge.0 >>= λ challenge. number_word 0 65535 qport.0 >>= λ qport. number_word 0 5 dup.0 >>= λ dup. ok_or (address_at address) Address >>= λ address.
    Ok (Client c challenge qport dup address))
unfolding client_line
client_steps [] = refl
client_steps (c ∷ []) = refl
client_steps (c ∷ challenge ∷ []) = refl
client_steps (c ∷ challenge ∷ qport ∷ []) = refl
client_steps (c ∷ challenge ∷ qport ∷ dup ∷ []) = refl
client_steps (c ∷ challenge ∷ qport ∷ dup ∷ address ∷ []) = refl
client_steps (c ∷ challenge ∷ qport ∷ dup ∷ address ∷ other ∷ others) = refl

-- a port: a word and the last, then each of them
pub port_steps : (words : List (List ℕ)) → port_line words ≡ (ok_or (next_of words) Count >>= λ c. ok_or (only_of c.1) Count >>= λ port. client_word c.0 >>= λ c. number_word 1 65535 port >>= λ port. Ok (Port c port))
unfolding port_line
port_steps [] = refl
port_steps (c ∷ []) = refl
port_steps (c ∷ port ∷ []) = refl
port_steps (c ∷ port ∷ other ∷ others) = refl

-- a map: a word and the last, then each of them
pub map_steps : (words : List (List ℕ)) → map_line words ≡ (ok_or (next_of words) Count >>= λ id. ok_or (only_of id.1) Count >>= λ feed. number_word 1 2147483647 id.0 >>= λ id. number_word 0 4294967295 feed >>= λ feed. Ok (Map id feed))
unfolding map_line
map_steps [] = refl
map_steps (id ∷ []) = refl
map_steps (id ∷ feed ∷ []) = refl
map_steps (id ∷ feed ∷ other ∷ others) = refl

-- an entity: a word, and fields
pub entity_steps : (words : List (List ℕ)) → entity_line words ≡ (ok_or (next_of words) Count >>= λ number. entity_word number.0 >>= λ n. entity_at n number.1 >>= λ state. Ok (Entity state))
unfolding entity_line
entity_steps [] = refl
entity_steps (number ∷ fields) = refl

-- a baseline: a word, and fields
pub baseline_steps : (words : List (List ℕ)) → baseline_line words ≡ (ok_or (next_of words) Count >>= λ number. number_word 1 last_entity number.0 >>= λ n. entity_at n number.1 >>= λ state. Ok (Baseline state))
unfolding baseline_line
baseline_steps [] = refl
baseline_steps (number ∷ fields) = refl

-- the only word, a number
pub only_steps : (low high : ℕ) (words : List (List ℕ)) → only_number low high words ≡ (ok_or (only_of words) Count >>= λ word. number_word low high word)
unfolding only_number
only_steps low high [] = refl
only_steps low high (word ∷ []) = refl
only_steps low high (word ∷ other ∷ others) = refl

-- area bytes: a word and the last, then each of them
pub area_steps : (words : List (List ℕ)) → area_line words ≡ (ok_or (next_of words) Count >>= λ c. ok_or (only_of c.1) Count >>= λ area. client_word c.0 >>= λ c. ok_or (area_at area) Number >>= λ area. Ok (Area c area))
unfolding area_line
area_steps [] = refl
area_steps (c ∷ []) = refl
area_steps (c ∷ area ∷ []) = refl
area_steps (c ∷ area ∷ other ∷ others) = refl

-- a player: a word, and fields
pub player_steps : (words : List (List ℕ)) → player_line words ≡ (ok_or (next_of words) Count >>= λ c. client_word c.0 >>= λ client. player_at c.1 >>= λ player. Ok (Player client player))
unfolding player_line
player_steps [] = refl
player_steps (c ∷ fields) = refl

-- a config string: a word, and the text after it, then each of them
pub config_steps : (words : List (List ℕ)) → config_at words ≡ (ok_or (next_of words) Count >>= λ index. ok_or (text_from index.1) Count >>= λ text. number_word 0 4294967295 index.0 >>= λ index. bytes_word most_config text >>= λ text. Ok (index, text))
unfolding config_at
config_steps [] = refl
config_steps (index ∷ []) = refl
config_steps (index ∷ first ∷ rest) = refl

-- a command: a word, and the text after it, then each of them
pub command_steps : (words : List (List ℕ)) → command_at words ≡ (ok_or (next_of words) Count >>= λ c. ok_or (text_from c.1) Count >>= λ text. client_word c.0 >>= λ c. text_word text >>= λ text. Ok (c, text))
unfolding command_at
command_steps [] = refl
command_steps (c ∷ []) = refl
command_steps (c ∷ first ∷ rest) = refl

-- a move: nine words and the last, then each of them
pub move_steps : (words : List (List ℕ)) → move_line words ≡ (ok_or (three_of words) Count >>= λ front. ok_or (three_of front.3) Count >>= λ middle. ok_or (three_of middle.3) Count >>= λ back. ok_or (only_of back.3) Count >>= λ weapon.
    client_word front.0 >>= λ c. number_word 0 4294967295 front.1 >>= λ time. angles_at front.2 middle.0 middle.1 >>= λ angles. steps_at middle.2 back.0 back.1 >>= λ steps. number_word 0 65535 back.2 >>= λ buttons. number_word 0 255 weapon >>= λ weapon.
    Ok (Move c (move_with time angles steps buttons weapon)))
unfolding move_line
move_steps [] = refl
move_steps (c ∷ []) = refl
move_steps (c ∷ time ∷ []) = refl
move_steps (c ∷ time ∷ pitch ∷ []) = refl
move_steps (c ∷ time ∷ pitch ∷ yaw ∷ []) = refl
move_steps (c ∷ time ∷ pitch ∷ yaw ∷ roll ∷ []) = refl
move_steps (c ∷ time ∷ pitch ∷ yaw ∷ roll ∷ forward ∷ []) = refl
move_steps (c ∷ time ∷ pitch ∷ yaw ∷ roll ∷ forward ∷ right ∷ []) = refl
move_steps (c ∷ time ∷ pitch ∷ yaw ∷ roll ∷ forward ∷ right ∷ up ∷ []) = refl
move_steps (c ∷ time ∷ pitch ∷ yaw ∷ roll ∷ forward ∷ right ∷ up ∷ buttons ∷ []) = refl
move_steps (c ∷ time ∷ pitch ∷ yaw ∷ roll ∷ forward ∷ right ∷ up ∷ buttons ∷ weapon ∷ []) = refl
move_steps (c ∷ time ∷ pitch ∷ yaw ∷ roll ∷ forward ∷ right ∷ up ∷ buttons ∷ weapon ∷ other ∷ others) = refl

-- a recording: a word and the last, then each of them
pub record_steps : (words : List (List ℕ)) → record_at words ≡ (ok_or (next_of words) Count >>= λ c. ok_or (only_of c.1) Count >>= λ name. client_word c.0 >>= λ c. ok_or (name_at name) Name >>= λ name. Ok (c, name))
unfolding record_at
record_steps [] = refl
record_steps (c ∷ []) = refl
record_steps (c ∷ name ∷ []) = refl
record_steps (c ∷ name ∷ other ∷ others) = refl

-- bytes that are handed in: a word and the last, then each of them
pub hand_steps : (words : List (List ℕ)) → hand_at words ≡ (ok_or (next_of words) Count >>= λ c. ok_or (only_of c.1) Count >>= λ bytes. client_word c.0 >>= λ c. ok_or (handed_at bytes) Number >>= λ bytes. Ok (c, bytes))
unfolding hand_at
hand_steps [] = refl
hand_steps (c ∷ []) = refl
hand_steps (c ∷ bytes ∷ []) = refl
hand_steps (c ∷ bytes ∷ other ∷ others) = refl
