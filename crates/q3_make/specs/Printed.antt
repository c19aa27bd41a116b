-- The script that events are printed as.
use Rattle.std.specs.Prelude.{ℕ, ◌/◌, ◌%◌, ◌≤◌, List, [], ◌∷◌, ◌++◌, length, codes, decimal, All}
use Rattle.std.specs.List.{concat, flat_map}
use Rattle.q3_io.specs.Quoted.{quoted}
use Rattle.q3_clmsg.specs.Report.{move_words, spaced}
use Rattle.q3_entity.specs.Report.{fields_text}
use Rattle.q3_player.specs.Report.{player_text}
use Rattle.q3_script.specs.declared.event.Event.{Event}
use Rattle.q3_script.specs.declared.event.Event.TheVariants.{Client, Port, Map, Entity, Remove, Baseline, Player, Area, Time, Config, Say, TypeText, Move, Serve, Send, Deliver, RecordTo, Stop, Show, Bytes, Toclient, Toserver, At, End}
use Rattle.q3_io.specs.Print.{hex_word}
use Rattle.q3_script.specs.declared.cause.ScriptKind.TheVariants.{Replay}
use Rattle.q3_script.specs.Script.{longest_script, most_events}
use Rattle.q3_script.specs.Grammar.{IsReplayEvent, SpellsScript}

-- a word and a number
abbrev pub number_text : List ℕ → ℕ → List ℕ
number_text word number = concat (word ∷ decimal number ∷ [])

-- a word and two numbers
abbrev pub numbers_text : List ℕ → ℕ → ℕ → List ℕ
numbers_text word first second = concat (word ∷ decimal first ∷ codes " " ∷ decimal second ∷ [])

-- a word, a number and bytes in quotes
abbrev pub quoted_text : List ℕ → ℕ → List ℕ → List ℕ
quoted_text word number bytes = concat (word ∷ decimal number ∷ codes " " ∷ quoted bytes ∷ [])

-- a word, a number and bytes in hex
abbrev pub bytes_text : List ℕ → ℕ → List ℕ → List ℕ
bytes_text word number bytes = concat (word ∷ decimal number ∷ codes " " ∷ []) ++ hex_word bytes

-- the line of an event, without its newline
abbrev pub event_text : Event → List ℕ
event_text (Client c challenge qport dup address) =
    concat (codes "client " ∷ decimal c ∷ codes " " ∷ decimal challenge ∷ codes " " ∷ decimal qport ∷ codes " " ∷ decimal dup ∷ codes " "
    ∷ decimal (address.host / 16777216) ∷ codes "." ∷ decimal (address.host / 65536 % 256) ∷ codes "." ∷ decimal (address.host / 256 % 256)
    ∷ codes "." ∷ decimal (address.host % 256) ∷ codes ":" ∷ decimal address.port ∷ [])
event_text (Port c port) = numbers_text (codes "port ") c port
event_text (Map id feed) = numbers_text (codes "map ") id feed
event_text (Entity state) = number_text (codes "entity ") state.number ++ fields_text state.words
event_text (Remove number) = number_text (codes "remove ") number
event_text (Baseline state) = number_text (codes "baseline ") state.number ++ fields_text state.words
event_text (Player c player) = number_text (codes "player ") c ++ player_text player
event_text (Area c area) = bytes_text (codes "area ") c area.items
event_text (Time time) = number_text (codes "time ") time
event_text (Config index text) = quoted_text (codes "config ") index text
event_text (Say c text) = quoted_text (codes "say ") c text
event_text (TypeText c text) = quoted_text (codes "type ") c text
event_text (Move c one) = number_text (codes "move ") c ++ spaced (move_words one)
event_text (Serve c) = number_text (codes "serve ") c
event_text (Send c) = number_text (codes "send ") c
event_text (Deliver datagram) = number_text (codes "deliver ") datagram
event_text (RecordTo c name) = concat (codes "record " ∷ decimal c ∷ codes " " ∷ name ∷ [])
event_text (Stop c) = number_text (codes "stop ") c
event_text (Show c) = number_text (codes "show ") c
event_text (Bytes datagram) = number_text (codes "bytes ") datagram
event_text (Toclient c bytes) = bytes_text (codes "toclient ") c bytes
event_text (Toserver c bytes) = bytes_text (codes "toserver ") c bytes
event_text (At ms) = number_text (codes "at ") ms
event_text (End ms) = number_text (codes "end ") ms

-- a line for each event
abbrev pub event_line : Event → List ℕ
event_line event = event_text event ++ codes "\n"

abbrev pub script_text : List Event → List ℕ
script_text events = flat_map event_line events

-- what is printed of a replay's events spells them, if it isn't too long
abbrev pub PrintedIsSpelled : Type 0
PrintedIsSpelled = (events : List Event) → All IsReplayEvent events → length events ≤ most_events → length (script_text events) ≤ longest_script → SpellsScript Replay (script_text events) events
