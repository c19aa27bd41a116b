-- What the server's end answers, as reports print it.
use Rattle.std.specs.Prelude.{ℕ, Bool, true, false, List, [], ◌∷◌, ◌++◌, codes, decimal, Option, Some, None}
use Rattle.std.specs.List.{concat, flat_map}
use Rattle.q3_window.specs.Report.{commands_text}
use Rattle.q3_clmsg.specs.Report.{move_text, cause_word, cause_number}
use Rattle.q3_slot.specs.declared.answer.Emitted.{Emitted}
use Rattle.q3_slot.specs.declared.answer.Emitted.TheVariants as emitted
use Rattle.q3_slot.specs.declared.answer.NoClient.{NoClient}
use Rattle.q3_slot.specs.declared.answer.SayError.{SayError}
use Rattle.q3_slot.specs.declared.answer.SayError.TheVariants as refused
use Rattle.q3_server.specs.declared.server.SlotError.{SlotError}
use Rattle.q3_server.specs.declared.server.SlotError.TheVariants.{Range, Taken, Twin}
use Rattle.q3_slot.specs.declared.taking.Heard.{Heard}
use Rattle.q3_slot.specs.declared.taking.ServerTook.{ServerTook}
use Rattle.q3_slot.specs.declared.taking.ServerTook.TheVariants as took
use Rattle.q3_server.specs.declared.server.ConfigRefused.{ConfigRefused}
use Rattle.q3_server.specs.declared.server.ConfigRefused.TheVariants as config
use Rattle.q3_map.specs.declared.map.NotLater.{NotLater}

-- why a client can't join
abbrev pub slot_error_text : SlotError → List ℕ
slot_error_text Range = codes "range"
slot_error_text Taken = codes "taken"
slot_error_text (Twin slot) = concat (codes "twin " ∷ decimal slot ∷ [])

-- no such client was added
abbrev pub no_client_text : NoClient → List ℕ
no_client_text e = codes "noclient"

-- why the server can't issue a command
abbrev pub say_error_text : SayError → List ℕ
say_error_text refused.NoClient = codes "noclient"
say_error_text refused.Own = codes "own"
say_error_text refused.NotPrimed = codes "notprimed"
say_error_text refused.WindowFull = codes "windowfull"

-- why there can't be a new map
abbrev pub not_later_text : NotLater → List ℕ
not_later_text refusal = concat (codes "notlater " ∷ decimal refusal.last ∷ [])

-- why a config string can't be changed
abbrev pub config_refused_text : ConfigRefused → List ℕ
config_refused_text config.Index = codes "index"
config_refused_text config.Own = codes "own"
config_refused_text (config.Chars byte) = concat (codes "chars " ∷ decimal byte ∷ [])
config_refused_text config.Long = codes "long"
config_refused_text config.Full = codes "full"
config_refused_text (config.WindowFull slot) = concat (codes "windowfull " ∷ decimal slot ∷ [])

-- what follows `serve C`
abbrev pub emitted_text : Emitted → ℕ → List ℕ
emitted_text emitted.NoClient datagram = codes " noclient\n"
emitted_text (emitted.Fragment number) datagram = concat (codes " fragment " ∷ decimal number ∷ codes " datagram " ∷ decimal datagram ∷ codes "\n" ∷ [])
emitted_text emitted.SequenceEnd datagram = codes " sequenceend\n"
emitted_text emitted.Unclear datagram = codes " unclear\n"
emitted_text emitted.Overlong datagram = codes " overlong\n"
emitted_text (emitted.Game number bytes) datagram =
    concat (codes " gamestate " ∷ decimal number ∷ codes " bytes " ∷ decimal bytes ∷ codes " datagram " ∷ decimal datagram ∷ codes "\n" ∷ [])
emitted_text (emitted.Snapshot number base bytes) datagram =
    concat (codes " snapshot " ∷ decimal number ∷ codes " base " ∷ decimal base ∷ codes " bytes " ∷ decimal bytes
    ∷ codes " datagram " ∷ decimal datagram ∷ codes "\n" ∷ [])

-- the line of a `serve`
abbrev pub serve_text : ℕ → Emitted → ℕ → List ℕ
serve_text c emission datagram = concat (codes "serve " ∷ decimal c ∷ emitted_text emission datagram ∷ [])

-- the line of a slot's answer: its number, and a word
abbrev pub slot_text : ℕ → List ℕ → List ℕ
slot_text slot word = concat (codes " server " ∷ decimal slot ∷ codes " " ∷ word ∷ codes "\n" ∷ [])

-- the line of a message that isn't legible
abbrev pub illegible_text : ℕ → List ℕ → Option ℕ → List ℕ
illegible_text slot word None = concat (codes " server " ∷ decimal slot ∷ codes " illegible " ∷ word ∷ codes "\n" ∷ [])
illegible_text slot word (Some number) =
    concat (codes " server " ∷ decimal slot ∷ codes " illegible " ∷ word ∷ codes " " ∷ decimal number ∷ codes "\n" ∷ [])

-- the line of a message that leaves a gap before one of its commands
abbrev pub gap_text : ℕ → ℕ → List ℕ
gap_text slot number = concat (codes " server " ∷ decimal slot ∷ codes " gap " ∷ decimal number ∷ codes "\n" ∷ [])

-- the line of a message that was run
abbrev pub ran_text : ℕ → ℕ → List ℕ
ran_text slot number = concat (codes " server " ∷ decimal slot ∷ codes " ran " ∷ decimal number ∷ codes "\n" ∷ [])

-- the line of a message of another map
abbrev pub ignored_text : ℕ → ℕ → List ℕ
ignored_text slot id = concat (codes " server " ∷ decimal slot ∷ codes " ignored " ∷ decimal id ∷ codes "\n" ∷ [])

-- the line under it where a gamestate is owed
abbrev pub owed_text : Bool → List ℕ
owed_text true = codes "+ owed\n"
owed_text false = []

-- the line of the move with which a client entered the map
abbrev pub entered_text : Option ℕ → List ℕ
entered_text None = []
entered_text (Some time) = concat (codes "+ entered " ∷ decimal time ∷ codes "\n" ∷ [])

-- the lines under a message that was run: a line for each command, one where the client entered the map, and one for each move
abbrev pub heard_text : Heard → List ℕ
heard_text heard = concat (commands_text heard.commands ∷ entered_text heard.entered ∷ flat_map move_text heard.moves.items ∷ [])

-- what follows `deliver D` where the server took a datagram: the rest of that line, and the lines under it
abbrev pub server_text : ServerTook → Heard → List ℕ
server_text took.Runt heard = codes " server runt\n"
server_text took.Connectionless heard = codes " server connectionless\n"
server_text took.Stranger heard = codes " server stranger\n"
server_text (took.Old slot) heard = slot_text slot (codes "old")
server_text (took.OutOfOrder slot) heard = slot_text slot (codes "outoforder")
server_text (took.BadFragment slot) heard = slot_text slot (codes "badfragment")
server_text (took.BadCheck slot) heard = slot_text slot (codes "badcheck")
server_text (took.Partial slot) heard = slot_text slot (codes "partial")
server_text (took.Illegible slot cause) heard = illegible_text slot (cause_word cause) (cause_number cause)
server_text (took.Ignored slot id) heard = ignored_text slot id ++ owed_text heard.owed
server_text (took.Gap slot number) heard = gap_text slot number
server_text (took.Ran slot number) heard = ran_text slot number ++ heard_text heard
