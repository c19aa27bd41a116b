-- What the input of a run decides: what is printed, and how the run ends.
use Rattle.std.specs.Prelude.{◌≡◌, ◌⊎◌, ℕ, ◌/◌, ⊤, Bool, true, false, List, [], ◌∷◌, ◌++◌, length, map, codes, decimal, Option, Some, None, Result, Ok, Err, IfErr, ok_or}
use Rattle.std.specs.List.{concat}
use Rattle.std.specs.Result.{result_map_both}
use Rattle.std.specs.Global.{Vec}
use Rattle.q3_profile.specs.declared.profile.Profile.{Profile as ProfileValue}
use Rattle.q3_bits.specs.ResultBind.{◌>>=◌}
use Rattle.q3_profile.specs.Profile.{checked}
use Rattle.q3_script.specs.declared.event.Event.{Event}
use Rattle.q3_script.specs.declared.cause.ScriptKind.{ScriptKind}
use Rattle.q3_script.specs.declared.cause.ScriptKind.TheVariants as kinds
use Rattle.q3_script.specs.Script.{BadLine, script_at}
use Rattle.q3_io.specs.declared.address.Address.{Address}
use Rattle.q3_io.specs.Acts.{FileAct, Makes, Extends}
use Rattle.q3_io.specs.Told.{Told, Named, contents_of}
use Rattle.q3_io.specs.Traffic.{Parcel, Traffic}
use Rattle.q3_server.specs.Server.{places, new_server}
use Rattle.q3_node.specs.Node.{Turn, most_turns, new_node, turns_of, did_end, text_of, acts_of, want_memory}
use Rattle.q3_node.specs.AtServer.{server_rules}
use Rattle.q3_node.specs.AtClient.{ClientEnd, client_of, client_rules}
use Rattle.q3_node.specs.Running.{ToRead, ToArrive}
use Rattle.q3_demo.specs.Playing as demos
use Rattle.q3_demo.specs.Report.{state_text}
use Rattle.q3_demo.specs.declared.error.DemoError.{DemoError}
use Rattle.q3_demo.specs.declared.error.DemoError.TheVariants.{ReadFault}
use Rattle.q3_index.specs.declared.error.IndexError.{IndexError}
use Rattle.q3_index.specs.declared.error.SeekError.{SeekError}
use Rattle.q3_index.specs.Text as indexes
use Rattle.q3_index.specs.Opening.{open_at}
use Rattle.q3_index.specs.Seeking.{seek_at}
use Rattle.q3_runs.specs.Faults.{Gets, demo_fault, build_fault, index_fault, seek_fault}
use Rattle.q3_runs.specs.Input.{Holds, looked_up, created}
use Rattle.q3_runs.specs.declared.fault.Fault.{Fault}
use Rattle.q3_runs.specs.declared.fault.Fault.TheVariants.{Read, Profile, Script, Turns}

-- where something from outside may stop a command: nowhere, before its first line alone, or anywhere in its text
pub data StopPlace : Type 0 where
  Nowhere : StopPlace
  First : StopPlace
  Anywhere : StopPlace

-- where it may want memory, where a read may fail, where a write of a file that it makes may, and where the wire may
pub record Stops : Type 0 where
  pub memory : StopPlace
  pub reads : StopPlace
  pub writes : StopPlace
  pub wire : StopPlace

-- what a command prints before any fault line; how it ends, done or by the first cause that its input decides; the names that it gives,
-- each with its call; what it does to files, one act after the other; the address that it binds, if it binds one, and the turns that it has then;
-- and what may stop it early
pub record Verdict : Type 0 where
  pub text : List ℕ
  pub ending : Result (Unit {0}) Fault
  pub named : List Named
  pub acts : List FileAct
  pub at : Option Address
  pub turns : List Turn
  pub stops : Stops

-- what neither reads nor takes memory; what takes all its memory before its first line; and what reads all its files before it, and goes on
-- taking memory
abbrev pub stops_nowhere : Stops
stops_nowhere = record { memory = Nowhere; reads = Nowhere; writes = Nowhere; wire = Nowhere }

abbrev pub memory_first : Stops
memory_first = record stops_nowhere { memory = First }

abbrev pub reads_first : Stops
reads_first = record stops_nowhere { memory = Anywhere; reads = First }

-- and what has all its input and all its memory before its first line, which it may want early; and what also makes a file by then
abbrev pub all_first : Stops
all_first = record { memory = First; reads = First; writes = Nowhere; wire = Nowhere }

abbrev pub makes_first : Stops
makes_first = record all_first { writes = First }

-- and what has all its memory before its first line, and goes on reading
abbrev pub goes_on_reading : Stops
goes_on_reading = record { memory = First; reads = Anywhere; writes = Nowhere; wire = Nowhere }

-- where a write of files may fail: anywhere, if something is done to them
abbrev pub writes_by : List FileAct → StopPlace
writes_by [] = Nowhere
writes_by (act ∷ acts) = Anywhere

-- and what goes on over a wire: it has all its memory before its first line, unless one of its turns wants some, and it writes files, if it
-- does something to them
abbrev pub memory_by : Bool → StopPlace
memory_by true = Anywhere
memory_by false = First

abbrev pub goes_on_wire : List Turn → Stops
goes_on_wire turns = record { memory = memory_by (want_memory turns); reads = First; writes = writes_by (acts_of turns); wire = Anywhere }

-- of a command that does nothing to files: it looks up these names, and prints a text, and after it may come a cause
abbrev pub printing : Stops → List (List ℕ) → List ℕ → Result (Unit {0}) Fault → Verdict
printing stops names text ending = record { text = text; ending = ending; named = map looked_up names; acts = []; at = None; turns = []; stops = stops }

-- of one that has all its input before its first line: a text and nothing more, or a cause and no text
abbrev pub settled : Stops → List (List ℕ) → Result (List ℕ) Fault → Verdict
settled stops names (Ok text) = printing stops names text (Ok tt)
settled stops names (Err cause) = printing stops names [] (Err cause)

-- the profile that a file spells, or its first broken rule; a file that isn't there doesn't read
abbrev pub profile_in : Option (List ℕ) → Result ProfileValue Fault
profile_in file = do
  bytes ← ok_or file Read
  result_map_both (λ profile. profile) Profile (checked bytes)

-- the events of a script of a kind that a file spells, or its first bad line
abbrev pub events_in : ScriptKind → Option (List ℕ) → Result (List Event) Fault
events_in kind file = do
  bytes ← ok_or file Read
  result_map_both (λ events. events) (λ (bad : BadLine). Script bad.line bad.cause) (script_at kind bytes)

-- the names that a command of a profile and another file gives: the second one only where the profile passed
abbrev pub names_by : Result ProfileValue Fault → List ℕ → List ℕ → List (List ℕ)
names_by (Ok by) profile script = profile ∷ script ∷ []
names_by (Err cause) profile script = profile ∷ []

-- a node did `end`, or its turns are spent
abbrev pub ending_of : Bool → Result (Unit {0}) Fault
ending_of true = Ok tt
ending_of false = Err Turns

-- of a node at an address with these turns; of none, by a cause
abbrev pub node_verdict : List (List ℕ) → Address → Result (List Turn) Fault → Verdict
node_verdict names at (Ok turns) =
    record (printing (goes_on_wire turns) names (text_of turns) (ending_of (did_end turns))) {
      named = map looked_up names ++ created (acts_of turns);
      acts = acts_of turns;
      at = Some at;
      turns = turns;
    }
node_verdict names at (Err cause) = printing reads_first names [] (Err cause)

-- the turns of a server by the script in one file and the profile in another, where these readings and arrivals are to come
abbrev pub served : Option (List ℕ) → Option (List ℕ) → List ℕ → List (Option Parcel) → Result (List Turn) Fault
served profile script readings arrivals = do
  by ← profile_in profile
  events ← events_in kinds.Serve script
  Ok (turns_of most_turns server_rules (new_node (new_server by places) events) readings arrivals)

-- and those of a client of the server at an address
abbrev pub client_turns : Option ClientEnd → List Event → List ℕ → List (Option Parcel) → List Turn
client_turns None events readings arrivals = []
client_turns (Some end) events readings arrivals = turns_of most_turns client_rules (new_node end events) readings arrivals

abbrev pub joined : Address → Option (List ℕ) → Option (List ℕ) → List ℕ → List (Option Parcel) → Result (List Turn) Fault
joined server profile script readings arrivals = do
  by ← profile_in profile
  events ← events_in kinds.Join script
  Ok (client_turns (client_of by server events) events readings arrivals)

-- how a demo is played, by the profile in one file and the demo in another
abbrev pub played : Option (List ℕ) → Option (List ℕ) → Result demos.Play Fault
played profile demo = do
  by ← profile_in profile
  bytes ← ok_or demo Read
  Ok (demos.play_of by bytes)

-- what playing prints, and how it ends; of none, by a cause
abbrev pub demo_played : List (List ℕ) → Result demos.Play Fault → Verdict
demo_played names (Ok play) = printing goes_on_reading names (demos.play_text play) (result_map_both (λ x. x) demo_fault play.ending)
demo_played names (Err cause) = printing reads_first names [] (Err cause)

-- the index of a demo, and how many records it counts
pub record Indexing : Type 0 where
  pub index : List ℕ
  pub records : ℕ

abbrev pub indexing_of : ProfileValue → List ℕ → Result Indexing DemoError
indexing_of by demo = result_map_both (λ (index : List ℕ). record { index = index; records = length (demos.records_of by demo) }) (λ e. e) (indexes.index_of by demo)

-- that of the demo in a file; a file that isn't there doesn't read
abbrev pub indexing_in : ProfileValue → Option (List ℕ) → Result Indexing DemoError
indexing_in by demo = do
  bytes ← ok_or demo ReadFault
  indexing_of by bytes

-- and of the file of a name, where it is told
abbrev pub AnswersIndex : Option Told → ProfileValue → List ℕ → Result Indexing DemoError → Type 0
AnswersIndex None by demo answer = ⊤
AnswersIndex (Some told) by demo answer = answer ≡ indexing_in by (contents_of told.files demo)

-- its file is made, empty, and then has it, unless the demo is refused
abbrev pub index_acts : List ℕ → Result Indexing DemoError → List FileAct
index_acts name (Ok made) = Makes name ∷ Extends name made.index ∷ []
index_acts name (Err ReadFault) = []
index_acts name (Err e) = Makes name ∷ []

-- how many records and checkpoints it counts
abbrev pub indexed_text : ℕ → List ℕ
indexed_text records =
    concat (codes "indexed " ∷ decimal records ∷ codes " records " ∷ decimal (records / indexes.spacing) ∷ codes " checkpoints\n" ∷ [])

abbrev pub demo_indexed : List (List ℕ) → List ℕ → Result Indexing DemoError → Verdict
demo_indexed names name answer =
    record (settled makes_first names (result_map_both (λ (made : Indexing). indexed_text made.records) build_fault answer)) {
      named = map looked_up names ++ created (index_acts name answer);
      acts = index_acts name answer;
    }

-- by a profile that passed
abbrev pub IsIndexVerdictBy : Option Told → Result ProfileValue Fault → (profile demo index : List ℕ) → Verdict → Type 0
IsIndexVerdictBy told (Ok by) profile demo index verdict =
    (answer : Result Indexing DemoError) × AnswersIndex told by demo answer × (verdict ≡ demo_indexed (profile ∷ demo ∷ []) index answer)
IsIndexVerdictBy told (Err cause) profile demo index verdict = verdict ≡ printing reads_first (profile ∷ []) [] (Err cause)

-- what so many records of a demo leave, by the bytes of an index
abbrev pub seek_played : ProfileValue → List ℕ → List ℕ → ℕ → Result demos.Played Fault
seek_played by demo index number = do
  heads ← result_map_both (λ heads. heads) index_fault (open_at (length demo) by.mark by.entity.number_bits index)
  result_map_both (λ played. played) seek_fault (seek_at by demo index heads.records heads.checkpoints number)

-- and what is printed, by the demo in one file and the index in another
abbrev pub seek_text : ProfileValue → Option (List ℕ) → Option (List ℕ) → ℕ → Result (List ℕ) Fault
seek_text by demo index number = do
  bytes ← ok_or demo Read
  index_bytes ← ok_or index Read
  played ← seek_played by bytes index_bytes number
  Ok (state_text played.state number)

-- what opening an index and seeking in it may be refused for
abbrev pub IsSeekFault : Fault → Type 0
IsSeekFault fault = ((e : IndexError) × (fault ≡ index_fault e)) ⊎ ((e : SeekError) × (fault ≡ seek_fault e))

-- of the files of two names, where they are told
abbrev pub AnswersSeek : Option Told → ProfileValue → (demo index : List ℕ) → ℕ → Result (List ℕ) Fault → Type 0
AnswersSeek None by demo index number answer = IfErr answer IsSeekFault
AnswersSeek (Some told) by demo index number answer = answer ≡ seek_text by (contents_of told.files demo) (contents_of told.files index) number

abbrev pub IsSeekVerdictBy : Option Told → Result ProfileValue Fault → (profile demo index : List ℕ) → ℕ → Verdict → Type 0
IsSeekVerdictBy told (Ok by) profile demo index number verdict =
    (answer : Result (List ℕ) Fault) × AnswersSeek told by demo index number answer × (verdict ≡ settled all_first (profile ∷ demo ∷ index ∷ []) answer)
IsSeekVerdictBy told (Err cause) profile demo index number verdict = verdict ≡ printing reads_first (profile ∷ []) [] (Err cause)

-- what is told of the outside: of the files, of the wire, and of the clock
pub record Outside : Type 0 where
  pub files : Option Told
  pub wire : Option Traffic
  pub clock : Option (List ℕ)

abbrev pub outside : Option Told → Option Traffic → Option (List ℕ) → Outside
outside files wire clock = record { files = files; wire = wire; clock = clock }

-- ---- the rule that the verdict of a command meets, by what the files hold that it names

-- of a demo that is played
abbrev pub IsPlayVerdict : Option Told → (profile demo : List ℕ) → Verdict → Type 0
IsPlayVerdict told profile demo verdict =
    (of_profile : Option (List ℕ)) × (of_demo : Option (List ℕ)) × Holds told profile of_profile × Holds told demo of_demo
    × (verdict ≡ demo_played (names_by (profile_in of_profile) profile demo) (played of_profile of_demo))

-- of an index that is made
abbrev pub IsIndexVerdict : Option Told → (profile demo index : List ℕ) → Verdict → Type 0
IsIndexVerdict told profile demo index verdict =
    (of_profile : Option (List ℕ)) × Holds told profile of_profile × IsIndexVerdictBy told (profile_in of_profile) profile demo index verdict

-- of a demo that is sought in
abbrev pub IsSeekVerdict : Option Told → (profile demo index : List ℕ) → ℕ → Verdict → Type 0
IsSeekVerdict told profile demo index records verdict =
    (of_profile : Option (List ℕ)) × Holds told profile of_profile × IsSeekVerdictBy told (profile_in of_profile) profile demo index records verdict

-- of a server, by what is to come over the wire and of the clock, too
abbrev pub IsServeVerdict : Outside → (profile script : List ℕ) → Address → Verdict → Type 0
IsServeVerdict told profile script at verdict =
    (of_profile : Option (List ℕ)) × (of_script : Option (List ℕ)) × Holds told.files profile of_profile × Holds told.files script of_script
    × (readings : List ℕ) × ToRead told.clock readings × (arrivals : List (Option Parcel)) × ToArrive told.wire arrivals
    × (verdict ≡ node_verdict (names_by (profile_in of_profile) profile script) at (served of_profile of_script readings arrivals))

-- and of a client
abbrev pub IsJoinVerdict : Outside → (profile script : List ℕ) → (at server : Address) → Verdict → Type 0
IsJoinVerdict told profile script at server verdict =
    (of_profile : Option (List ℕ)) × (of_script : Option (List ℕ)) × Holds told.files profile of_profile × Holds told.files script of_script
    × (readings : List ℕ) × ToRead told.clock readings × (arrivals : List (Option Parcel)) × ToArrive told.wire arrivals
    × (verdict ≡ node_verdict (names_by (profile_in of_profile) profile script) at (joined server of_profile of_script readings arrivals))

-- ---- what a part reads

-- what a part of a run answers by the file of a name
abbrev pub GetsFrom : {A : Type 0} → (Option (List ℕ) → Result A Fault) → Option Told → List ℕ → Result A Fault → Type 0
GetsFrom says told name got = (file : Option (List ℕ)) × Holds told name file × Gets (says file) got

-- an answer with the events of its vector
abbrev pub with_events : Result (Vec Event) Fault → Result (List Event) Fault
with_events (Ok events) = Ok events.items
with_events (Err e) = Err e
