-- The lines of an event's answer.
use Rattle.std.specs.Prelude.{ℕ, Bool, true, false, List, [], ◌∷◌, ◌++◌, codes, decimal, Option, Some, None, Result, Ok, Err}
use Rattle.std.specs.List.{concat}
use Rattle.q3_io.specs.Print.{hex_word}
use Rattle.q3_clstate.specs.Report.{snapshot_text}
use Rattle.q3_report.specs.ServerLines.{slot_error_text, not_later_text, no_client_text, config_refused_text, say_error_text, serve_text, server_text}
use Rattle.q3_report.specs.ClientLines.{client_text, window_full_text, move_error_text, send_text}
use Rattle.q3_report.specs.declared.answer.OutOfRange.{OutOfRange}
use Rattle.q3_report.specs.declared.answer.BaselineRefused.{BaselineRefused}
use Rattle.q3_report.specs.declared.answer.BaselineRefused.TheVariants as unset
use Rattle.q3_report.specs.declared.answer.MoveRefused.{MoveRefused}
use Rattle.q3_report.specs.declared.answer.MoveRefused.TheVariants as refused
use Rattle.q3_report.specs.declared.answer.TypeRefused.{TypeRefused}
use Rattle.q3_report.specs.declared.answer.TypeRefused.TheVariants as untyped
use Rattle.q3_report.specs.declared.answer.RecordRefused.{RecordRefused}
use Rattle.q3_report.specs.declared.answer.RecordRefused.TheVariants as unrecorded
use Rattle.q3_report.specs.declared.answer.StopRefused.{StopRefused}
use Rattle.q3_report.specs.declared.answer.StopRefused.TheVariants as unstopped
use Rattle.q3_report.specs.declared.answer.TakeRefused.{TakeRefused}
use Rattle.q3_report.specs.declared.answer.TakeRefused.TheVariants as untaken
use Rattle.q3_report.specs.declared.answer.HandedIn.{HandedIn}
use Rattle.q3_report.specs.declared.answer.HandedIn.TheVariants as handed
use Rattle.q3_report.specs.declared.answer.Front.{Front}
use Rattle.q3_report.specs.declared.answer.Front.TheVariants as fronts
use Rattle.q3_report.specs.Answers.{Taking, ByClient, ByServer, Showing, ShowsNobody, ShowsNothing, ShowsNewest, Answered, Given, Served, SentOut, Took, Untaken, Shown, Bytes}

-- what follows that which the game handed in, with the text of each error
abbrev pub handed_in_text : {E : Type 0} → (E → List ℕ) → Result (Unit {0}) E → List ℕ
handed_in_text error_text (Ok x) = codes " ok\n"
handed_in_text error_text (Err e) = concat (codes " refused " ∷ error_text e ∷ codes "\n" ∷ [])

-- what follows a command that was issued: its number, or the text of the error
abbrev pub issued_text : {E : Type 0} → (E → List ℕ) → Result ℕ E → List ℕ
issued_text error_text (Ok number) = concat (codes " ok " ∷ decimal number ∷ codes "\n" ∷ [])
issued_text error_text (Err e) = concat (codes " refused " ∷ error_text e ∷ codes "\n" ∷ [])

-- why an entity isn't taken over or away, and why a baseline isn't taken over
abbrev pub out_of_range_text : OutOfRange → List ℕ
out_of_range_text refusal = codes "range"

abbrev pub baseline_refused_text : BaselineRefused → List ℕ
baseline_refused_text unset.OutOfRange = codes "range"
baseline_refused_text unset.Late = codes "late"

-- why a client doesn't issue a command
abbrev pub type_refused_text : TypeRefused → List ℕ
type_refused_text untyped.NoClient = codes "noclient"
type_refused_text untyped.WindowFull = window_full_text (record {})

-- why a client doesn't issue a move
abbrev pub move_refused_text : MoveRefused → List ℕ
move_refused_text refused.NoClient = codes "noclient"
move_refused_text (refused.Error e) = move_error_text e

-- why a client doesn't begin a recording, and why it doesn't end one
abbrev pub record_refused_text : RecordRefused → List ℕ
record_refused_text unrecorded.NoClient = codes "noclient"
record_refused_text unrecorded.NoGame = codes "nogame"
record_refused_text unrecorded.Already = codes "already"

abbrev pub stop_refused_text : StopRefused → List ℕ
stop_refused_text unstopped.NoClient = codes "noclient"
stop_refused_text unstopped.NotRecording = codes "notrecording"

-- the lines of what was handed in
abbrev pub handed_lines : HandedIn → List ℕ
handed_lines (handed.Client c outcome) = concat (codes "client " ∷ decimal c ∷ handed_in_text slot_error_text outcome ∷ [])
handed_lines (handed.Port c outcome) = concat (codes "port " ∷ decimal c ∷ handed_in_text no_client_text outcome ∷ [])
handed_lines (handed.Map id outcome) = concat (codes "map " ∷ decimal id ∷ handed_in_text not_later_text outcome ∷ [])
handed_lines (handed.Entity number outcome) = concat (codes "entity " ∷ decimal number ∷ handed_in_text out_of_range_text outcome ∷ [])
handed_lines (handed.Remove number outcome) = concat (codes "remove " ∷ decimal number ∷ handed_in_text out_of_range_text outcome ∷ [])
handed_lines (handed.Baseline number outcome) = concat (codes "baseline " ∷ decimal number ∷ handed_in_text baseline_refused_text outcome ∷ [])
handed_lines (handed.Config index outcome) = concat (codes "config " ∷ decimal index ∷ handed_in_text config_refused_text outcome ∷ [])
handed_lines (handed.Player c outcome) = concat (codes "player " ∷ decimal c ∷ handed_in_text no_client_text outcome ∷ [])
handed_lines (handed.Area c outcome) = concat (codes "area " ∷ decimal c ∷ handed_in_text no_client_text outcome ∷ [])
handed_lines handed.Time = codes "time ok\n"
handed_lines (handed.Say c outcome) = concat (codes "say " ∷ decimal c ∷ issued_text say_error_text outcome ∷ [])
handed_lines (handed.TypeText c outcome) = concat (codes "type " ∷ decimal c ∷ issued_text type_refused_text outcome ∷ [])
handed_lines (handed.Move c outcome) = concat (codes "move " ∷ decimal c ∷ handed_in_text move_refused_text outcome ∷ [])
handed_lines (handed.Record c outcome) = concat (codes "record " ∷ decimal c ∷ handed_in_text record_refused_text outcome ∷ [])
handed_lines (handed.Stop c outcome) = concat (codes "stop " ∷ decimal c ∷ handed_in_text stop_refused_text outcome ∷ [])

-- what stands in front of what an end made of bytes
abbrev pub front_text : Front → List ℕ
front_text (fronts.Deliver datagram) = concat (codes "deliver " ∷ decimal datagram ∷ [])
front_text (fronts.Toclient c) = concat (codes "toclient " ∷ decimal c ∷ [])
front_text (fronts.Toserver c) = concat (codes "toserver " ∷ decimal c ∷ [])
front_text fronts.Arrive = codes "arrive"

-- what follows it where nobody took them
abbrev pub untaken_text : TakeRefused → List ℕ
untaken_text untaken.Unknown = codes " unknown\n"
untaken_text untaken.NoClient = codes " noclient\n"
untaken_text (untaken.Stranger c) = concat (codes " client " ∷ decimal c ∷ codes " stranger\n" ∷ [])

-- the last line under what a client made of bytes, where its recording ended by itself
abbrev pub ended_text : Bool → List ℕ
ended_text true = codes "+ recording ended\n"
ended_text false = []

-- what an end made of bytes, to the end of that line and with the lines under it
abbrev pub taking_text : Taking → List ℕ
taking_text (ByClient c took state commands ended) = client_text state c took commands ++ ended_text ended
taking_text (ByServer took run) = server_text took run

-- what follows `show C`
abbrev pub showing_text : Showing → List ℕ
showing_text ShowsNobody = codes " noclient\n"
showing_text ShowsNothing = codes " none\n"
showing_text (ShowsNewest snapshot) = snapshot_text snapshot

-- what follows `bytes D`
abbrev pub bytes_text : Option (List ℕ) → List ℕ
bytes_text None = codes " unknown\n"
bytes_text (Some bytes) = concat (codes " " ∷ hex_word bytes ∷ codes "\n" ∷ [])

-- the lines of an answer
unfoldable pub lines_of : Answered → List ℕ
lines_of (Given handed) = handed_lines handed
lines_of (Served c emission datagram) = serve_text c emission datagram
lines_of (SentOut c (Ok sent) datagram) = send_text c sent datagram
lines_of (SentOut c (Err e) datagram) = concat (codes "send " ∷ decimal c ∷ codes " noclient\n" ∷ [])
lines_of (Took front taking) = front_text front ++ taking_text taking
lines_of (Untaken front cause) = front_text front ++ untaken_text cause
lines_of (Shown c showing) = concat (codes "show " ∷ decimal c ∷ showing_text showing ∷ [])
lines_of (Bytes datagram bytes) = concat (codes "bytes " ∷ decimal datagram ∷ bytes_text bytes ∷ [])
