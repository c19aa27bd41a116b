-- What comes from outside: it ends a run only where the verdict says that it may come, and where its count rose.
use Rattle.std.proofs.Common.{◌≡◌, ℕ, ◌<◌, ◌≤◌, Bool, true, false, List, [], ◌∷◌, Option, Some, None, Result, Ok, Err, refl, sym, ap, subst, ◌∙◌, inl, inr, arith}
use Rattle.std.specs.Prelude.{◌⊎◌, IsNone, IfErr, length, ok_or}
use Rattle.std.specs.Result.{result_map_both}
use Rattle.q3_bits.specs.ResultBind.{◌>>=◌}
use Rattle.std.proofs.lemmas.Bool.{cases_lt}
use Rattle.q3_io.specs.Faults.{Rose, last_count}
use Rattle.q3_io.specs.Told.{Told, contents_of}
use Rattle.q3_io.specs.Written.{Written}
use Rattle.q3_io.specs.declared.address.Address.{Address}
use Rattle.q3_io.specs.Traffic.{Parcel}
use Rattle.q3_server.specs.Server.{places, new_server}
use Rattle.q3_node.specs.Node.{Turn, most_turns, new_node, turns_of, did_end}
use Rattle.q3_node.specs.AtServer.{server_rules}
use Rattle.q3_node.specs.AtClient.{client_of}
use Rattle.q3_demo.specs.declared.error.DemoError.{DemoError}
use Rattle.q3_demo.specs.declared.error.DemoError.TheVariants as demo
use Rattle.q3_demo.specs.Playing as demos
use Rattle.q3_demo.specs.Report.{state_text}
use Rattle.q3_index.specs.declared.error.IndexError.{IndexError}
use Rattle.q3_index.specs.declared.error.IndexError.TheVariants as opening
use Rattle.q3_index.specs.declared.error.SeekError.{SeekError}
use Rattle.q3_index.specs.declared.error.SeekError.TheVariants as seeking
use Rattle.q3_index.specs.Opening.{Heads, open_at}
use Rattle.q3_index.specs.Seeking.{seek_at}
use Rattle.q3_make.specs.Generated.{generated}
use Rattle.q3_make.specs.Printed.{script_text}
use Rattle.q3_profile.specs.declared.profile.Profile.{Profile as ProfileValue}
use Rattle.q3_script.specs.declared.cause.ScriptKind.TheVariants as kinds
use Rattle.q3_command.specs.declared.command.Draws.{Draws}
use Rattle.q3_runs.specs.declared.fault.Fault.{Fault}
use Rattle.q3_runs.specs.declared.fault.Fault.TheVariants as faults
use Rattle.q3_command.specs.Command.{Command, Help, Version, Replay, Make, Trial, Serve, Join, Play, Index, Seek}
use Rattle.q3_runs.specs.Faults.{demo_fault, build_fault, index_fault, seek_fault, ReadCause, WriteCause, FileCause, WireCause}
use Rattle.q3_runs.specs.Lines.{fault_status, ending_status}
use Rattle.q3_runs.specs.Verdict.{Stops, Verdict, Outside, stops_nowhere, memory_first, all_first, settled, profile_in, events_in, names_by, ending_of, node_verdict, served, client_turns, joined, played, demo_played, Indexing, demo_indexed, IsIndexVerdictBy, seek_text, seek_played, IsSeekFault, AnswersSeek, IsSeekVerdictBy}
use Rattle.q3_runs.specs.Run.{Left, left_so, Comes, ComesAfter, place_of, Executes, WiredBy, HandedOn, FailsBy, ExecutesWired}
use Rattle.q3net.specs.Lines.{help_text, version_text}
use Rattle.q3net.specs.Verdict.{IsVerdict, Schedule, replayed, replay_done, summary, tried}
use Rattle.q3net.specs.Run.{FilesFail, IsEarlyStatus, IsDecided, IsComplete}
use Rattle.q3_runs.proofs.Ending.{comes_after, settled_writes, settled_wire}
use Rattle.q3_runs.proofs.Indexing.{indexed_writes}
use Rattle.q3_runs.proofs.Refusing.{OfFault, OfInput, play_refuses, bind_of_input, profile_of_input, events_of_input}
use Rattle.q3net.proofs.RunLooks.{schedules}

-- ---- what an input decides

replayed_of_input : (profile script : Option (List ℕ)) → OfInput (replayed profile script)
replayed_of_input profile script =
    bind_of_input (profile_in profile) (λ by. events_in kinds.Replay script >>= schedules by) (profile_of_input profile)
    (λ by. bind_of_input (events_in kinds.Replay script) (schedules by) (events_of_input kinds.Replay script) (λ events. tt))

done_of_input : (names : List (List ℕ)) (answer : Result Schedule Fault) → OfInput answer → OfInput (replay_done names answer).ending
done_of_input names (Ok replay) so = tt
done_of_input names (Err e) so = so

tried_of_input : (profile : Option (List ℕ)) (draws : Draws) → OfInput (tried profile draws)
tried_of_input profile draws =
    bind_of_input (profile_in profile) (λ by. Ok (summary by (generated draws.number draws.seed))) (profile_of_input profile) (λ by. tt)

settled_of_input : (stops : Stops) (names : List (List ℕ)) (answer : Result (List ℕ) Fault) → OfInput answer → OfInput (settled stops names answer).ending
settled_of_input stops names (Ok text) so = tt
settled_of_input stops names (Err e) so = so

ending_of_input : (verdict : Verdict) (stops : Stops) (names : List (List ℕ)) (answer : Result (List ℕ) Fault) → verdict ≡ settled stops names answer → OfInput answer → OfInput verdict.ending
ending_of_input verdict stops names answer is so = subst (λ (v : Verdict). OfInput v.ending) (sym is) (settled_of_input stops names answer so)

-- and of a node
served_of_input : (profile script : Option (List ℕ)) (readings : List ℕ) (arrivals : List (Option Parcel)) → OfInput (served profile script readings arrivals)
served_of_input profile script readings arrivals =
    bind_of_input (profile_in profile) (λ by. events_in kinds.Serve script >>= (λ events. Ok (turns_of most_turns server_rules (new_node (new_server by places) events) readings arrivals))) (profile_of_input profile)
    (λ by. bind_of_input (events_in kinds.Serve script) (λ events. Ok (turns_of most_turns server_rules (new_node (new_server by places) events) readings arrivals)) (events_of_input kinds.Serve script) (λ events. tt))

joined_of_input : (server : Address) (profile script : Option (List ℕ)) (readings : List ℕ) (arrivals : List (Option Parcel)) → OfInput (joined server profile script readings arrivals)
joined_of_input server profile script readings arrivals =
    bind_of_input (profile_in profile) (λ by. events_in kinds.Join script >>= (λ events. Ok (client_turns (client_of by server events) events readings arrivals))) (profile_of_input profile)
    (λ by. bind_of_input (events_in kinds.Join script) (λ events. Ok (client_turns (client_of by server events) events readings arrivals)) (events_of_input kinds.Join script) (λ events. tt))

ended_of_input : (ended : Bool) → OfInput (ending_of ended)
ended_of_input true = tt
ended_of_input false = tt

noded_of_input : (names : List (List ℕ)) (at : Address) (answer : Result (List Turn) Fault) → OfInput answer → OfInput (node_verdict names at answer).ending
noded_of_input names at (Ok turns) so = ended_of_input (did_end turns)
noded_of_input names at (Err e) so = so

node_of_input : (verdict : Verdict) (names : List (List ℕ)) (at : Address) (answer : Result (List Turn) Fault) → verdict ≡ node_verdict names at answer → OfInput answer → OfInput verdict.ending
node_of_input verdict names at answer is so = subst (λ (v : Verdict). OfInput v.ending) (sym is) (noded_of_input names at answer so)

-- and of a demo
abbrev OfPlay : Result demos.Play Fault → Type 0
OfPlay (Ok play) = OfInput (result_map_both (λ x. x) demo_fault play.ending)
OfPlay (Err e) = OfFault e

play_of_input : (demo : Option (List ℕ)) (by : ProfileValue) → OfPlay (ok_or demo faults.Read >>= λ bytes. Ok (demos.play_of by bytes))
play_of_input None by = tt
play_of_input (Some bytes) by = play_refuses by bytes

played_of_input : (profile demo : Option (List ℕ)) → OfPlay (played profile demo)
played_of_input profile demo = by_profile (profile_in profile) (profile_of_input profile)
  where
    by_profile : (says : Result ProfileValue Fault) → OfInput says → OfPlay (says >>= λ by. ok_or demo faults.Read >>= λ bytes. Ok (demos.play_of by bytes))
    by_profile (Ok by) so = play_of_input demo by
    by_profile (Err e) so = so

demo_of_input : (names : List (List ℕ)) (answer : Result demos.Play Fault) → OfPlay answer → OfInput (demo_played names answer).ending
demo_of_input names (Ok play) so = so
demo_of_input names (Err e) so = so

-- and of a seek
index_of_fault : (e : IndexError) → OfFault (index_fault e)
index_of_fault opening.ReadFault = tt
index_of_fault opening.NoMemory = tt
index_of_fault (opening.NotIndex place) = tt
index_of_fault (opening.OtherDemo kept found) = tt
index_of_fault (opening.OtherWidth kept found) = tt

seek_of_fault : (e : SeekError) → OfFault (seek_fault e)
seek_of_fault seeking.ReadFault = tt
seek_of_fault seeking.NoMemory = tt
seek_of_fault (seeking.NotIndex place) = tt
seek_of_fault (seeking.PastEnd records) = tt
seek_of_fault (seeking.Demo e) = tt

heads_of_input : (found : Result Heads IndexError) → OfInput (result_map_both (λ heads. heads) index_fault found)
heads_of_input (Ok heads) = tt
heads_of_input (Err e) = index_of_fault e

found_of_input : (found : Result demos.Played SeekError) → OfInput (result_map_both (λ played. played) seek_fault found)
found_of_input (Ok played) = tt
found_of_input (Err e) = seek_of_fault e

file_of_input : (file : Option (List ℕ)) → OfInput (ok_or file faults.Read)
file_of_input None = tt
file_of_input (Some bytes) = tt

sought_in_of_input : (by : ProfileValue) (demo index : List ℕ) (number : ℕ) → OfInput (seek_played by demo index number)
sought_in_of_input by demo index number =
    bind_of_input (result_map_both (λ heads. heads) index_fault (open_at (length demo) by.mark by.entity.number_bits index))
    (λ heads. result_map_both (λ played. played) seek_fault (seek_at by demo index heads.records heads.checkpoints number)) (heads_of_input (open_at (length demo) by.mark by.entity.number_bits index))
    (λ heads. found_of_input (seek_at by demo index heads.records heads.checkpoints number))

told_of_input : (by : ProfileValue) (demo index : Option (List ℕ)) (number : ℕ) → OfInput (seek_text by demo index number)
told_of_input by demo index number =
    bind_of_input (ok_or demo faults.Read) (λ bytes. ok_or index faults.Read >>= λ index_bytes. seek_played by bytes index_bytes number >>= λ played. Ok (state_text played.state number)) (file_of_input demo)
    (λ bytes. bind_of_input (ok_or index faults.Read) (λ index_bytes. seek_played by bytes index_bytes number >>= λ played. Ok (state_text played.state number)) (file_of_input index)
    (λ index_bytes. bind_of_input (seek_played by bytes index_bytes number) (λ played. Ok (state_text played.state number)) (sought_in_of_input by bytes index_bytes number) (λ played. tt)))

untold_of_input : (answer : Result (List ℕ) Fault) → IfErr answer IsSeekFault → OfInput answer
untold_of_input (Ok text) is = tt
untold_of_input (Err e) is = elim is [ inl opens ↦ subst OfFault (sym opens.1) (index_of_fault opens.0) | inr finds ↦ subst OfFault (sym finds.1) (seek_of_fault finds.0) ]

sought_of_input : (told : Option Told) (by : ProfileValue) (demo index : List ℕ) (number : ℕ) (answer : Result (List ℕ) Fault) → AnswersSeek told by demo index number answer → OfInput answer
sought_of_input None by demo index number answer is = untold_of_input answer is
sought_of_input (Some told) by demo index number answer is = subst OfInput (sym is) (told_of_input by (contents_of told.files demo) (contents_of told.files index) number)

seek_of_input : (told : Option Told) (says : Result ProfileValue Fault) (profile demo index : List ℕ) (number : ℕ) (verdict : Verdict) → OfInput says
    → IsSeekVerdictBy told says profile demo index number verdict → OfInput verdict.ending
seek_of_input told (Ok by) profile demo index number verdict so is =
    ending_of_input verdict all_first (profile ∷ demo ∷ index ∷ []) is.0 is.2 (sought_of_input told by demo index number is.0 is.1)
seek_of_input told (Err cause) profile demo index number verdict so is = subst (λ (v : Verdict). OfInput v.ending) (sym is) so

-- a command that makes no index
abbrev pub IsOther : Command → Type 0
IsOther (Index profile demo index) = ⊥
IsOther other = Unit {0}

-- the verdict of a command
pub verdict_of_input : (told : Outside) (command : Command) (verdict : Verdict) → IsOther command → IsVerdict told (Some command) verdict → OfInput verdict.ending
verdict_of_input told Help verdict other is = ending_of_input verdict stops_nowhere [] (Ok help_text) is tt
verdict_of_input told Version verdict other is = ending_of_input verdict stops_nowhere [] (Ok version_text) is tt
verdict_of_input told (Replay profile script) verdict other is =
    subst (λ (v : Verdict). OfInput v.ending) (sym is.4) (done_of_input (names_by (profile_in is.0) profile script) (replayed is.0 is.1) (replayed_of_input is.0 is.1))
verdict_of_input told (Make draws) verdict other is = ending_of_input verdict memory_first [] (Ok (script_text (generated draws.number draws.seed))) is tt
verdict_of_input told (Trial profile draws) verdict other is = ending_of_input verdict all_first (profile ∷ []) (tried is.0 draws) is.2 (tried_of_input is.0 draws)
verdict_of_input told (Serve profile script at) verdict other is =
    node_of_input verdict (names_by (profile_in is.0) profile script) at (served is.0 is.1 is.4 is.6) is.8 (served_of_input is.0 is.1 is.4 is.6)
verdict_of_input told (Join profile script at server) verdict other is =
    node_of_input verdict (names_by (profile_in is.0) profile script) at (joined server is.0 is.1 is.4 is.6) is.8 (joined_of_input server is.0 is.1 is.4 is.6)
verdict_of_input told (Play profile demo) verdict other is =
    subst (λ (v : Verdict). OfInput v.ending) (sym is.4) (demo_of_input (names_by (profile_in is.0) profile demo) (played is.0 is.1) (played_of_input is.0 is.1))
verdict_of_input told (Index profile demo index) verdict other is = absurd other
verdict_of_input told (Seek profile demo index records) verdict other is =
    seek_of_input told.files (profile_in is.0) profile demo index records verdict (profile_of_input is.0) is.2

-- that of an index may be of a file that can't be written, where files tell nothing
abbrev OfBuild : Fault → Type 0
OfBuild faults.Usage = ⊥
OfBuild faults.Write = ⊥
OfBuild faults.Wire = ⊥
OfBuild other = Unit {0}

abbrev OfBuilt : Result (Unit {0}) Fault → Type 0
OfBuilt (Ok x) = Unit {0}
OfBuilt (Err e) = OfBuild e

build_of_fault : (e : DemoError) → OfBuild (build_fault e)
build_of_fault demo.ReadFault = tt
build_of_fault demo.NoMemory = tt
build_of_fault demo.WriteFault = tt
build_of_fault (demo.Truncated at) = tt
build_of_fault (demo.BadLength at) = tt
build_of_fault (demo.BadNumber at) = tt
build_of_fault (demo.Message at cause) = tt

weaker : (e : Fault) → OfFault e → OfBuild e
weaker faults.Usage so = so
weaker faults.Write so = so
weaker faults.Wire so = so
weaker other so = tt

weaker_end : (ending : Result (Unit {0}) Fault) → OfInput ending → OfBuilt ending
weaker_end (Ok x) so = tt
weaker_end (Err e) so = weaker e so

indexed_of_input : (names : List (List ℕ)) (index : List ℕ) (answer : Result Indexing DemoError) → OfBuilt (demo_indexed names index answer).ending
indexed_of_input names index (Ok made) = tt
indexed_of_input names index (Err e) = build_of_fault e

index_of_input : (told : Option Told) (says : Result ProfileValue Fault) (profile demo index : List ℕ) (verdict : Verdict) → OfInput says → IsIndexVerdictBy told says profile demo index verdict
    → OfBuilt verdict.ending
index_of_input told (Ok by) profile demo index verdict so is = subst (λ (v : Verdict). OfBuilt v.ending) (sym is.2) (indexed_of_input (profile ∷ demo ∷ []) index is.0)
index_of_input told (Err cause) profile demo index verdict so is = subst (λ (v : Verdict). OfBuilt v.ending) (sym is) (weaker cause so)

verdict_of_build : (told : Outside) (command : Command) (verdict : Verdict) → IsVerdict told (Some command) verdict → OfBuilt verdict.ending
verdict_of_build told (Index profile demo index) verdict is = index_of_input told.files (profile_in is.0) profile demo index verdict (profile_of_input is.0) is.2
verdict_of_build told other verdict is = weaker_end verdict.ending (verdict_of_input told other verdict tt is)

never_built : (told : Outside) (command : Command) (verdict : Verdict) (fault : Fault) → IsVerdict told (Some command) verdict → (OfBuild fault → ⊥) → verdict.ending ≡ Err fault → ⊥
never_built told command verdict fault is other ends = other (subst (λ (e : Result (Unit {0}) Fault). OfBuilt e) ends (verdict_of_build told command verdict is))

-- so a fault that no input decides isn't its ending
not_decided : (told : Outside) (command : Command) (verdict : Verdict) (fault : Fault) → IsOther command → IsVerdict told (Some command) verdict → (OfFault fault → ⊥) → verdict.ending ≡ Err fault → ⊥
not_decided told command verdict fault plain is other ends = other (subst (λ (e : Result (Unit {0}) Fault). OfInput e) ends (verdict_of_input told command verdict plain is))

-- ---- what doesn't come

-- a fault that no input decides, and that may come nowhere
abbrev pub Never : Option Command → Outside → Fault → Type 0
Never command told fault = (verdict : Verdict) → IsVerdict told command verdict → (verdict.ending ≡ Err fault → ⊥) × (Comes (place_of verdict.stops fault) → ⊥)

same_fault : (ended : Result (Unit {0}) Fault) (a b : Fault) → ended ≡ Err a → ended ≡ Err b → a ≡ b
same_fault ended a b first second = cc

-- it didn't end the command
never_ended : (command : Option Command) (told : Outside) (old now : Option Written) (ended : Result (Unit {0}) Fault) (fault : Fault)
    → (fault ≡ faults.Write → ⊥) → Never command told fault → Executes (IsVerdict told command) old now ended → ended ≡ Err fault → ⊥
never_ended command told old now ended fault other never executes is =
    elim executes.2 [
      | inl ends ↦ elim ends.1 [
        | inl said ↦ (never executes.0 executes.1).0 (sym said.0 ∙ is)
        | inr stopped ↦ (never executes.0 executes.1).1
            (comes_after (place_of executes.0.stops fault) ends.0 executes.0.text
            (subst (λ (f : Fault). ComesAfter (place_of executes.0.stops f) ends.0 executes.0.text) (same_fault ended stopped.0 fault stopped.1 is) stopped.2))
      ]
      | inr failed ↦ other (same_fault ended fault faults.Write is failed.0)
    ]

pub no_file_fails : (command : Option Command) (told : Outside) (old now : Option Written) (ended : Result (Unit {0}) Fault) (before after : ℕ)
    → Never command told faults.FileWrite → Executes (IsVerdict told command) old now ended → after ≡ before → FileCause before after ended
no_file_fails command told old now (Err faults.FileWrite) before after never executes same =
    absurd (never_ended command told old now (Err faults.FileWrite) faults.FileWrite (λ is. cc) never executes refl)
no_file_fails command told old now other before after never executes same = same

pub no_read_fails : (command : Option Command) (told : Outside) (old now : Option Written) (ended : Result (Unit {0}) Fault) (before after : ℕ)
    → Never command told faults.Read → Executes (IsVerdict told command) old now ended → after ≡ before → ReadCause before after ended
no_read_fails command told old now (Err faults.Read) before after never executes same =
    absurd (never_ended command told old now (Err faults.Read) faults.Read (λ is. cc) never executes refl)
no_read_fails command told old now other before after never executes same = same

pub no_wire_fails : (command : Option Command) (told : Outside) (old now : Option Written) (ended : Result (Unit {0}) Fault) (before after : ℕ)
    → Never command told faults.Wire → Executes (IsVerdict told command) old now ended → after ≡ before → WireCause before after ended
no_wire_fails command told old now (Err faults.Wire) before after never executes same =
    absurd (never_ended command told old now (Err faults.Wire) faults.Wire (λ is. cc) never executes refl)
no_wire_fails command told old now other before after never executes same = same

-- ---- of each command

-- what is settled makes no file
no_writes : (verdict : Verdict) (stops : Stops) (names : List (List ℕ)) (answer : Result (List ℕ) Fault) → verdict ≡ settled stops names answer
    → (Comes stops.writes → ⊥) → Comes verdict.stops.writes → ⊥
no_writes verdict stops names answer is none comes = none (settled_writes stops names answer (subst (λ (v : Verdict). Comes v.stops.writes) is comes))

no_wire : (verdict : Verdict) (stops : Stops) (names : List (List ℕ)) (answer : Result (List ℕ) Fault) → verdict ≡ settled stops names answer
    → (Comes stops.wire → ⊥) → Comes verdict.stops.wire → ⊥
no_wire verdict stops names answer is none comes = none (settled_wire stops names answer (subst (λ (v : Verdict). Comes v.stops.wire) is comes))

pub make_makes_nothing : (told : Outside) (draws : Draws) → Never (Some (Make draws)) told faults.FileWrite
make_makes_nothing told draws verdict is = (
  not_decided told (Make draws) verdict faults.FileWrite tt is (λ none. none),
  no_writes verdict memory_first [] (Ok (script_text (generated draws.number draws.seed))) is (λ none. none),
)

pub trial_makes_nothing : (told : Outside) (profile : List ℕ) (draws : Draws) → Never (Some (Trial profile draws)) told faults.FileWrite
trial_makes_nothing told profile draws verdict is = (
  not_decided told (Trial profile draws) verdict faults.FileWrite tt is (λ none. none),
  no_writes verdict all_first (profile ∷ []) (tried is.0 draws) is.2 (λ none. none),
)

demo_writes : (names : List (List ℕ)) (answer : Result demos.Play Fault) → Comes (demo_played names answer).stops.writes → ⊥
demo_writes names (Ok play) comes = comes
demo_writes names (Err e) comes = comes

pub play_makes_nothing : (told : Outside) (profile demo : List ℕ) → Never (Some (Play profile demo)) told faults.FileWrite
play_makes_nothing told profile demo verdict is = (
  not_decided told (Play profile demo) verdict faults.FileWrite tt is (λ none. none),
  λ comes. demo_writes (names_by (profile_in is.0) profile demo) (played is.0 is.1) (subst (λ (v : Verdict). Comes v.stops.writes) is.4 comes),
)

-- they don't touch the wire
demo_wire : (names : List (List ℕ)) (answer : Result demos.Play Fault) → Comes (demo_played names answer).stops.wire → ⊥
demo_wire names (Ok play) comes = comes
demo_wire names (Err e) comes = comes

pub play_wires_nothing : (told : Outside) (profile demo : List ℕ) → Never (Some (Play profile demo)) told faults.Wire
play_wires_nothing told profile demo verdict is = (
  not_decided told (Play profile demo) verdict faults.Wire tt is (λ none. none),
  λ comes. demo_wire (names_by (profile_in is.0) profile demo) (played is.0 is.1) (subst (λ (v : Verdict). Comes v.stops.wire) is.4 comes),
)

-- an index is made over files alone
index_wire : (names : List (List ℕ)) (index : List ℕ) (answer : Result Indexing DemoError) → Comes (demo_indexed names index answer).stops.wire → ⊥
index_wire names index (Ok made) comes = comes
index_wire names index (Err e) comes = comes

by_index_wire : (told : Option Told) (says : Result ProfileValue Fault) (profile demo index : List ℕ) (verdict : Verdict) → IsIndexVerdictBy told says profile demo index verdict → Comes verdict.stops.wire → ⊥
by_index_wire told (Ok by) profile demo index verdict is comes = index_wire (profile ∷ demo ∷ []) index is.0 (subst (λ (v : Verdict). Comes v.stops.wire) is.2 comes)
by_index_wire told (Err cause) profile demo index verdict is comes = subst (λ (v : Verdict). Comes v.stops.wire) is comes

pub index_wires_nothing : (told : Outside) (profile demo index : List ℕ) → Never (Some (Index profile demo index)) told faults.Wire
index_wires_nothing told profile demo index verdict is =
    (never_built told (Index profile demo index) verdict faults.Wire is (λ none. none), by_index_wire told.files (profile_in is.0) profile demo index verdict is.2)

-- and sought in
seek_stops : (told : Option Told) (says : Result ProfileValue Fault) (profile demo index : List ℕ) (number : ℕ) (verdict : Verdict) → IsSeekVerdictBy told says profile demo index number verdict
    → (Comes verdict.stops.wire → ⊥) × (Comes verdict.stops.writes → ⊥)
seek_stops told (Ok by) profile demo index number verdict is =
    (no_wire verdict all_first (profile ∷ demo ∷ index ∷ []) is.0 is.2 (λ none. none), no_writes verdict all_first (profile ∷ demo ∷ index ∷ []) is.0 is.2 (λ none. none))
seek_stops told (Err cause) profile demo index number verdict is =
    (λ comes. subst (λ (v : Verdict). Comes v.stops.wire) is comes, λ comes. subst (λ (v : Verdict). Comes v.stops.writes) is comes)

pub seek_wires_nothing : (told : Outside) (profile demo index : List ℕ) (number : ℕ) → Never (Some (Seek profile demo index number)) told faults.Wire
seek_wires_nothing told profile demo index number verdict is =
    (not_decided told (Seek profile demo index number) verdict faults.Wire tt is (λ none. none), (seek_stops told.files (profile_in is.0) profile demo index number verdict is.2).0)

pub seek_makes_nothing : (told : Outside) (profile demo index : List ℕ) (number : ℕ) → Never (Some (Seek profile demo index number)) told faults.FileWrite
seek_makes_nothing told profile demo index number verdict is =
    (not_decided told (Seek profile demo index number) verdict faults.FileWrite tt is (λ none. none), (seek_stops told.files (profile_in is.0) profile demo index number verdict is.2).1)

done_wire : (names : List (List ℕ)) (answer : Result Schedule Fault) → Comes (replay_done names answer).stops.wire → ⊥
done_wire names (Ok replay) comes = comes
done_wire names (Err e) comes = comes

pub replay_wires_nothing : (told : Outside) (profile script : List ℕ) → Never (Some (Replay profile script)) told faults.Wire
replay_wires_nothing told profile script verdict is = (
  not_decided told (Replay profile script) verdict faults.Wire tt is (λ none. none),
  λ comes. done_wire (names_by (profile_in is.0) profile script) (replayed is.0 is.1) (subst (λ (v : Verdict). Comes v.stops.wire) is.4 comes),
)

pub make_wires_nothing : (told : Outside) (draws : Draws) → Never (Some (Make draws)) told faults.Wire
make_wires_nothing told draws verdict is = (
  not_decided told (Make draws) verdict faults.Wire tt is (λ none. none),
  no_wire verdict memory_first [] (Ok (script_text (generated draws.number draws.seed))) is (λ none. none),
)

pub trial_wires_nothing : (told : Outside) (profile : List ℕ) (draws : Draws) → Never (Some (Trial profile draws)) told faults.Wire
trial_wires_nothing told profile draws verdict is = (
  not_decided told (Trial profile draws) verdict faults.Wire tt is (λ none. none),
  no_wire verdict all_first (profile ∷ []) (tried is.0 draws) is.2 (λ none. none),
)

-- and a script that is made reads none
not_both : (ending : Result (Unit {0}) Fault) → ending ≡ Ok tt → ending ≡ Err faults.Read → ⊥
not_both ending done read = cc

pub make_reads_nothing : (told : Outside) (draws : Draws) → Never (Some (Make draws)) told faults.Read
make_reads_nothing told draws verdict is = (
  not_both verdict.ending (ap (λ (v : Verdict). v.ending) is),
  λ comes. subst (λ (v : Verdict). Comes v.stops.reads) is comes,
)

-- ---- what a run says of it

usage_alone : (ending : Result (Unit {0}) Fault) → ending ≡ Err faults.Usage → ending ≡ Err faults.FileWrite → ⊥
usage_alone ending usage ends = cc

index_may_fail : (told : Option Told) (says : Result ProfileValue Fault) (profile demo index : List ℕ) (verdict : Verdict) → OfInput says → IsIndexVerdictBy told says profile demo index verdict
    → verdict.ending ≡ Err faults.FileWrite → Comes verdict.stops.writes
index_may_fail told (Ok by) profile demo index verdict so is ends = subst (λ (v : Verdict). Comes v.stops.writes) (sym is.2) (indexed_writes (profile ∷ demo ∷ []) index is.0)
index_may_fail told (Err cause) profile demo index verdict so is ends =
    absurd (subst (λ (e : Result (Unit {0}) Fault). OfInput e) ends (subst (λ (v : Verdict). OfInput v.ending) (sym is) so))

verdict_fails : (told : Outside) (command : Option Command) (verdict : Verdict) → IsVerdict told command verdict → verdict.ending ≡ Err faults.FileWrite → Comes verdict.stops.writes
verdict_fails told None verdict is ends = absurd (usage_alone verdict.ending (ap (λ (v : Verdict). v.ending) is) ends)
verdict_fails told (Some (Index profile demo index)) verdict is ends = index_may_fail told.files (profile_in is.0) profile demo index verdict (profile_of_input is.0) is.2 ends
verdict_fails told (Some other) verdict is ends = absurd (not_decided told other verdict faults.FileWrite tt is (λ none. none) ends)

-- a write of a file may fail
files_come : (command : Option Command) (told : Outside) (old now : Option Written) → Executes (IsVerdict told command) old now (Err faults.FileWrite)
    → (verdict : Verdict) × IsVerdict told command verdict × Comes verdict.stops.writes
files_come command told old now executes = (
  executes.0,
  executes.1,
  elim executes.2 [
    | inl ends ↦ elim ends.1 [
      | inl said ↦ verdict_fails told command executes.0 executes.1 (sym said.0)
      | inr stopped ↦ comes_after executes.0.stops.writes ends.0 executes.0.text
          (subst (λ (f : Fault). ComesAfter (place_of executes.0.stops f) ends.0 executes.0.text) (same_fault (Err faults.FileWrite) stopped.0 faults.FileWrite stopped.1 refl) stopped.2)
    ]
    | inr failed ↦ absurd (let other : faults.FileWrite ≡ faults.Write = same_fault (Err faults.FileWrite) faults.FileWrite faults.Write refl failed.0 in cc)
  ],
)

pub files_failed : (command : Option Command) (told : Outside) (old now : Option Written) (ended : Result (Unit {0}) Fault) (before after : ℕ)
    → Executes (IsVerdict told command) old now ended → FileCause before after ended → (after ≡ before) ⊎ FilesFail command told before after
files_failed command told old now (Err faults.FileWrite) before after executes cause =
    let may = files_come command told old now executes in inr (may.0, may.1, may.2, cause.0, cause.1)
files_failed command told old now other before after executes cause = inl cause

-- the sink's count, as the command and the end left it
abbrev pub EndsSo : ℕ → ℕ → Result (Unit {0}) Fault → ℕ → Type 0
EndsSo mid last ended status = ((status ≡ ending_status ended) × (last ≡ mid)) ⊎ ((status ≡ 4) × (mid ≤ last) × Rose mid last)

not_later : (first mid : ℕ) (ended : Result (Unit {0}) Fault) → WriteCause first mid ended → first ≤ mid
not_later first mid (Err faults.Write) cause = cause.0
not_later first mid other cause = omega (arith, cause)

rose_last : (first mid last : ℕ) → first ≤ mid → mid ≤ last → last_count ≤ mid → (first < last) ⊎ (last_count ≤ first)
rose_last first mid last le later full = elim (cases_lt first last) [ inl lt ↦ inl lt | inr ge ↦ inr (omega (arith, le, later, full, ge)) ]

rose_since : (first mid last : ℕ) → first ≤ mid → mid ≤ last → Rose mid last → Rose first last
rose_since first mid last le later rose = elim rose [ inl lt ↦ inl (omega (arith, le, lt)) | inr full ↦ rose_last first mid last le later full ]

-- a run ended with 4, and the end itself did not fail
four_ended : (command : Option Command) (told : Outside) (old now : Option Written) (ended : Result (Unit {0}) Fault) (before after first mid : ℕ)
    → Executes (IsVerdict told command) old now ended → FileCause before after ended → WriteCause first mid ended → ending_status ended ≡ 4
    → Rose first mid ⊎ FilesFail command told before after
four_ended command told old now (Err faults.Write) before after first mid executes files writes four = inl writes.1
four_ended command told old now (Err faults.FileWrite) before after first mid executes files writes four =
    let may = files_come command told old now executes in inr (may.0, may.1, may.2, files.0, files.1)
four_ended command told old now other before after first mid executes files writes four = absurd (omega (arith, four))

-- 4 comes of the sink or of the files
pub four_fails : (command : Option Command) (told : Outside) (old now : Option Written) (ended : Result (Unit {0}) Fault) (status before after first mid last : ℕ)
    → Executes (IsVerdict told command) old now ended → FileCause before after ended → WriteCause first mid ended → EndsSo mid last ended status
    → status ≡ 4 → Rose first last ⊎ FilesFail command told before after
four_fails command told old now ended status before after first mid last executes files writes ends four =
    elim ends [
      | inl same ↦ subst (λ (n : ℕ). Rose first n ⊎ FilesFail command told before after) (sym same.1)
          (four_ended command told old now ended before after first mid executes files writes (sym same.0 ∙ four))
      | inr failed ↦ inl (rose_since first mid last (not_later first mid ended writes) failed.1 failed.2)
    ]

-- where no count rose, only want of memory stops a command
stopped_by : (stops : Stops) (fault : Fault) (printed text : List ℕ) (reads read before after wires wired : ℕ) → ComesAfter (place_of stops fault) printed text
    → ReadCause {T = Unit {0}} reads read (Err fault) → FileCause before after (Err fault) → WireCause wires wired (Err fault)
    → (Rose reads read → ⊥) → (Rose wires wired → ⊥) → (Comes stops.writes → before ≤ after → Rose before after → ⊥) → fault_status fault ≡ 1
stopped_by stops faults.NoMemory printed text reads read before after wires wired behind causes files wire none_read none_wired none_made = refl
stopped_by stops faults.Read printed text reads read before after wires wired behind causes files wire none_read none_wired none_made = absurd (none_read causes.1)
stopped_by stops faults.FileWrite printed text reads read before after wires wired behind causes files wire none_read none_wired none_made =
    absurd (none_made (comes_after stops.writes printed text behind) files.0 files.1)
stopped_by stops faults.Wire printed text reads read before after wires wired behind causes files wire none_read none_wired none_made = absurd (none_wired wire.1)
stopped_by stops other printed text reads read before after wires wired behind causes files wire none_read none_wired none_made = absurd behind

pub completes : (command : Option Command) (told : Outside) (old now : Option Written) (ended : Result (Unit {0}) Fault) (status reads read before after first mid last wires wired : ℕ)
    → Executes (IsVerdict told command) old now ended → ReadCause reads read ended → FileCause before after ended → WriteCause first mid ended → WireCause wires wired ended → EndsSo mid last ended status
    → (Rose reads read → ⊥) → (Rose first last → ⊥) → (Rose wires wired → ⊥) → (FilesFail command told before after → ⊥) → IsComplete command told status
completes command told old now ended status reads read before after first mid last wires wired executes causes files writes wire ends none_read none_written none_wired none_made = (
  executes.0,
  executes.1,
  elim ends [
    | inl same ↦ elim executes.2 [
      | inl done ↦ elim done.1 [
        | inl said ↦ inl (same.0 ∙ ap ending_status said.0)
        | inr stopped ↦ inr (
            same.0 ∙ (ap ending_status stopped.1
            ∙ stopped_by executes.0.stops stopped.0 done.0 executes.0.text reads read before after wires wired stopped.2
            (subst (λ (e : Result (Unit {0}) Fault). ReadCause reads read e) stopped.1 causes)
            (subst (λ (e : Result (Unit {0}) Fault). FileCause before after e) stopped.1 files)
            (subst (λ (e : Result (Unit {0}) Fault). WireCause wires wired e) stopped.1 wire)
            none_read none_wired (λ may le rose. none_made (executes.0, executes.1, may, le, rose)))
            )
      ]
      | inr failed ↦ absurd (none_written (subst (λ (n : ℕ). Rose first n) (sym same.1) (subst (λ (e : Result (Unit {0}) Fault). WriteCause first mid e) failed.0 writes).1))
    ]
    | inr failed ↦ absurd (none_written (rose_since first mid last (not_later first mid ended writes) failed.1 failed.2))
  ],
)

-- 2 comes only where the words are no command line
two_is_usage : (ended : Result (Unit {0}) Fault) → ending_status ended ≡ 2 → ended ≡ Err faults.Usage
two_is_usage (Err faults.Usage) two = refl
two_is_usage other two = absurd (omega (arith, two))

pub usage_of_none : (command : Option Command) (told : Outside) (old now : Option Written) (ended : Result (Unit {0}) Fault) (status mid last : ℕ)
    → Executes (IsVerdict told command) old now ended → EndsSo mid last ended status → status ≡ 2 → IsNone command
usage_of_none None told old now ended status mid last executes ends two = refl
usage_of_none (Some command) told old now ended status mid last executes ends two =
    absurd (elim ends [
      | inl same ↦ never_ended (Some command) told old now ended faults.Usage (λ is. cc)
          (λ verdict is. (never_built told command verdict faults.Usage is (λ none. none), λ comes. comes)) executes (two_is_usage ended (sym same.0 ∙ two))
      | inr failed ↦ omega (arith, failed.0, two)
    ])

-- ---- the wire

-- a command that has no node
abbrev pub IsNodeless : Option Command → Type 0
IsNodeless (Some (Serve profile script at)) = ⊥
IsNodeless (Some (Join profile script at server)) = ⊥
IsNodeless other = Unit {0}

settled_nowhere : (verdict : Verdict) (stops : Stops) (names : List (List ℕ)) (answer : Result (List ℕ) Fault) → verdict ≡ settled stops names answer → verdict.at ≡ None
settled_nowhere verdict stops names (Ok text) is = ap (λ (v : Verdict). v.at) is
settled_nowhere verdict stops names (Err e) is = ap (λ (v : Verdict). v.at) is

done_nowhere : (verdict : Verdict) (names : List (List ℕ)) (answer : Result Schedule Fault) → verdict ≡ replay_done names answer → verdict.at ≡ None
done_nowhere verdict names (Ok replay) is = ap (λ (v : Verdict). v.at) is
done_nowhere verdict names (Err e) is = ap (λ (v : Verdict). v.at) is

demo_nowhere : (verdict : Verdict) (names : List (List ℕ)) (answer : Result demos.Play Fault) → verdict ≡ demo_played names answer → verdict.at ≡ None
demo_nowhere verdict names (Ok play) is = ap (λ (v : Verdict). v.at) is
demo_nowhere verdict names (Err e) is = ap (λ (v : Verdict). v.at) is

index_nowhere : (names : List (List ℕ)) (index : List ℕ) (answer : Result Indexing DemoError) → (demo_indexed names index answer).at ≡ None
index_nowhere names index (Ok made) = refl
index_nowhere names index (Err e) = refl

by_index_nowhere : (told : Option Told) (says : Result ProfileValue Fault) (profile demo index : List ℕ) (verdict : Verdict) → IsIndexVerdictBy told says profile demo index verdict → verdict.at ≡ None
by_index_nowhere told (Ok by) profile demo index verdict is = ap (λ (v : Verdict). v.at) is.2 ∙ index_nowhere (profile ∷ demo ∷ []) index is.0
by_index_nowhere told (Err cause) profile demo index verdict is = ap (λ (v : Verdict). v.at) is

by_seek_nowhere : (told : Option Told) (says : Result ProfileValue Fault) (profile demo index : List ℕ) (number : ℕ) (verdict : Verdict) → IsSeekVerdictBy told says profile demo index number verdict → verdict.at ≡ None
by_seek_nowhere told (Ok by) profile demo index number verdict is = settled_nowhere verdict all_first (profile ∷ demo ∷ index ∷ []) is.0 is.2
by_seek_nowhere told (Err cause) profile demo index number verdict is = ap (λ (v : Verdict). v.at) is

binds_nothing : (told : Outside) (command : Option Command) (verdict : Verdict) → IsNodeless command → IsVerdict told command verdict → verdict.at ≡ None
binds_nothing told None verdict nodeless is = settled_nowhere verdict stops_nowhere [] (Err faults.Usage) is
binds_nothing told (Some Help) verdict nodeless is = settled_nowhere verdict stops_nowhere [] (Ok help_text) is
binds_nothing told (Some Version) verdict nodeless is = settled_nowhere verdict stops_nowhere [] (Ok version_text) is
binds_nothing told (Some (Replay profile script)) verdict nodeless is =
    done_nowhere verdict (names_by (profile_in is.0) profile script) (replayed is.0 is.1) is.4
binds_nothing told (Some (Make draws)) verdict nodeless is = settled_nowhere verdict memory_first [] (Ok (script_text (generated draws.number draws.seed))) is
binds_nothing told (Some (Trial profile draws)) verdict nodeless is = settled_nowhere verdict all_first (profile ∷ []) (tried is.0 draws) is.2
binds_nothing told (Some (Play profile demo)) verdict nodeless is = demo_nowhere verdict (names_by (profile_in is.0) profile demo) (played is.0 is.1) is.4
binds_nothing told (Some (Index profile demo index)) verdict nodeless is = by_index_nowhere told.files (profile_in is.0) profile demo index verdict is.2
binds_nothing told (Some (Seek profile demo index number)) verdict nodeless is = by_seek_nowhere told.files (profile_in is.0) profile demo index number verdict is.2
binds_nothing told (Some (Serve profile script at)) verdict nodeless is = absurd nodeless
binds_nothing told (Some (Join profile script at server)) verdict nodeless is = absurd nodeless

-- leaves the wire as it was
pub wire_stays : {files : Option Told} (command : Option Command) (told : Outside) (old now : Option Written) (ended : Result (Unit {0}) Fault) → IsNodeless command → Executes (IsVerdict told command) old now ended
    → ExecutesWired (IsVerdict told command) told old now (left_so told.wire files) ended
wire_stays {files} command told old now ended nodeless executes =
    let none = binds_nothing told command executes.0 nodeless executes.1 in (
      executes.0,
      executes.1,
      elim executes.2 [
        | inl done ↦ inl (done.0, done.1, subst (λ (at : Option Address). WiredBy at executes.0 ended done.0 told old now (left_so told.wire files)) (sym none) refl, done.2, subst (λ (at : Option Address). HandedOn at old now) (sym none) tt)
        | inr failed ↦ inr (failed.0, failed.1, subst (λ (at : Option Address). FailsBy at executes.0.turns told old now (left_so told.wire files)) (sym none) refl)
      ],
    )

-- what was printed, whatever was left of the wire
pub executes_of : (command : Option Command) (told : Outside) (old now : Option Written) (left : Left) (ended : Result (Unit {0}) Fault) → ExecutesWired (IsVerdict told command) told old now left ended
    → Executes (IsVerdict told command) old now ended
executes_of command told old now left ended executes =
    (executes.0, executes.1, elim executes.2 [ inl done ↦ inl (done.0, done.1, done.3) | inr failed ↦ inr (failed.0, failed.1) ])

nine_of : (ended : Result (Unit {0}) Fault) (wires wired : ℕ) → WireCause wires wired ended → ending_status ended ≡ 9 → Rose wires wired
nine_of (Err faults.Wire) wires wired cause nine = cause.1
nine_of other wires wired cause nine = absurd (omega (arith, nine))

pub nine_fails : (ended : Result (Unit {0}) Fault) (status mid last wires wired : ℕ) → WireCause wires wired ended → EndsSo mid last ended status → status ≡ 9 → Rose wires wired
nine_fails ended status mid last wires wired cause ends nine =
    elim ends [ inl same ↦ nine_of ended wires wired cause (sym same.0 ∙ nine) | inr failed ↦ absurd (omega (arith, failed.0, nine)) ]

wire_passed : (ended : Result (Unit {0}) Fault) (status wires wired : ℕ) → WireCause wires wired ended → status ≡ ending_status ended → (wired ≡ wires) ⊎ ((status ≡ 9) ⊎ (status ≡ 4))
wire_passed (Err faults.Wire) status wires wired cause is = inr (inl is)
wire_passed other status wires wired cause is = inl cause

pub no_wire_passed : (ended : Result (Unit {0}) Fault) (status mid last wires wired : ℕ) → WireCause wires wired ended → EndsSo mid last ended status → (wired ≡ wires) ⊎ ((status ≡ 9) ⊎ (status ≡ 4))
no_wire_passed ended status mid last wires wired cause ends =
    elim ends [ inl same ↦ wire_passed ended status wires wired cause same.0 | inr failed ↦ inr (inr failed.0) ]

status_in : (ended : Result (Unit {0}) Fault) (status : ℕ) → status ≡ ending_status ended → status ≤ 11
status_in (Err faults.Turns) status is = omega (arith, is)
status_in other status is = omega (arith, is)

pub statuses_in : (ended : Result (Unit {0}) Fault) (status mid last : ℕ) → EndsSo mid last ended status → status ≤ 11
statuses_in ended status mid last ends = elim ends [ inl same ↦ status_in ended status same.0 | inr failed ↦ omega (arith, failed.0) ]

-- ---- what decides the status

pub decides : (command : Option Command) (told : Outside) (old now : Option Written) (ended : Result (Unit {0}) Fault) (status mid last : ℕ)
    → Executes (IsVerdict told command) old now ended → EndsSo mid last ended status → IsDecided command told status
decides command told old now ended status mid last executes ends = (
  executes.0,
  executes.1,
  elim ends [
    | inl same ↦ elim executes.2 [
      | inl done ↦ elim done.1 [
        | inl said ↦ inl (same.0 ∙ ap ending_status said.0)
        | inr stopped ↦ inr (inr (stopped.0, comes_after (place_of executes.0.stops stopped.0) done.0 executes.0.text stopped.2, same.0 ∙ ap ending_status stopped.1))
      ]
      | inr failed ↦ inr (inl (same.0 ∙ ap ending_status failed.0))
    ]
    | inr failed ↦ inr (inl failed.0)
  ],
)

nowhere : (fault : Fault) → Comes (place_of stops_nowhere fault) → ⊥
nowhere faults.NoMemory comes = comes
nowhere faults.Read comes = comes
nowhere faults.FileWrite comes = comes
nowhere faults.Wire comes = comes
nowhere other comes = comes

usage_or_four : (verdict : Verdict) (status : ℕ) → verdict ≡ settled stops_nowhere [] (Err faults.Usage)
    → (status ≡ ending_status verdict.ending) ⊎ IsEarlyStatus verdict.stops status → (status ≡ 2) ⊎ (status ≡ 4)
usage_or_four verdict status is decided =
    elim decided [
      | inl said ↦ inl (said ∙ ap (λ (v : Verdict). ending_status v.ending) is)
      | inr early ↦ elim early [
        | inl four ↦ inr four
        | inr stopped ↦ absurd (nowhere stopped.0 (subst (λ (v : Verdict). Comes (place_of v.stops stopped.0)) is stopped.1))
      ]
    ]

pub no_command_so : (command : Option Command) (told : Outside) (status : ℕ) → IsDecided command told status → IsNone command → (status ≡ 2) ⊎ (status ≡ 4)
no_command_so None told status decided none = usage_or_four decided.0 status decided.1 decided.2
no_command_so (Some command) told status decided none = absurd cc
