-- Which names a run gives to the files.
use Rattle.std.proofs.Common.{◌≡◌, ℕ, List, [], ◌∷◌, ◌++◌, map, Option, Some, None, Result, Ok, Err, refl, sym, ap, subst, ◌∙◌, inl, inr}
use Rattle.std.specs.Prelude.{◌⊎◌}
use Rattle.std.proofs.lemmas.List.{append-nil}
use Rattle.q3_profile.specs.declared.profile.Profile.{Profile}
use Rattle.q3_io.specs.declared.address.Address.{Address}
use Rattle.q3_io.specs.Told.{Told, Named}
use Rattle.q3_node.specs.Node.{Turn, most_turns, new_node, turns_of, acts_of}
use Rattle.q3_node.specs.AtServer.{server_rules}
use Rattle.q3_node.specs.AtClient.{client_of}
use Rattle.q3_server.specs.Server.{places, new_server}
use Rattle.q3_runs.specs.declared.fault.Fault.{Fault}
use Rattle.q3_runs.specs.declared.fault.Fault.TheVariants as faults
use Rattle.q3_command.specs.declared.command.Draws.{Draws}
use Rattle.q3_command.specs.Command.{Command, Help, Version, Replay, Make, Trial, Serve, Join, Play, Index, Seek, files_of}
use Rattle.q3_runs.specs.Faults.{IsOutside, IsEarly}
use Rattle.q3_runs.specs.Input.{looked_up, created, LeavesFirst, LooksUpFirst, Gives}
use Rattle.q3_runs.specs.Lines.{fault_status, ending_status}
use Rattle.q3_runs.specs.Verdict.{Stops, Verdict, Outside, stops_nowhere, memory_first, reads_first, all_first, settled, names_by, node_verdict, client_turns, played, demo_played, IsIndexVerdictBy, IsSeekVerdictBy, profile_in, events_in}
use Rattle.q3_runs.specs.Run.{LeavesFiles}
use Rattle.q3net.specs.Lines.{help_text, version_text}
use Rattle.q3net.specs.Verdict.{IsVerdict, Schedule, replay_done, tried, IsTrialVerdict}
use Rattle.q3net.specs.Run.{HasLeft, Touched}
use Rattle.q3_runs.proofs.Acting.{first_more}
use Rattle.q3_runs.proofs.Loading.{held}
use Rattle.q3_demo.specs.Playing as demos
use Rattle.q3_make.specs.Printed.{script_text}
use Rattle.q3_make.specs.Generated.{generated}
use Rattle.q3_bits.specs.ResultBind.{◌>>=◌}
use Rattle.q3_script.specs.declared.event.Event.{Event}
use Rattle.q3_script.specs.declared.cause.ScriptKind.TheVariants as kinds
use Rattle.q3_runs.proofs.Looking.{looks_none, gave, left_first, settled_touches}

names_more : (says : Result Profile Fault) (profile script : List ℕ) (told now : Option Told) → LooksUpFirst told now (names_by says profile script)
    → LooksUpFirst told now (profile ∷ script ∷ [])
names_more (Ok by) profile script told now first = first
names_more (Err cause) profile script told now first = first_more told now (looked_up profile ∷ []) (looked_up script ∷ []) [] [] first

-- of a verdict, the names that it gives are the first of those of its command, and of the files that it makes
abbrev pub IsNamed : Option Told → Option Told → Option Command → Verdict → Type 0
IsNamed told now command verdict =
    LeavesFirst told now verdict.named verdict.acts → LeavesFirst told now (map looked_up (files_of command) ++ created verdict.acts) verdict.acts

settled_named : (told now : Option Told) (command : Option Command) (stops : Stops) (names : List (List ℕ)) (answer : Result (List ℕ) Fault)
    → (LooksUpFirst told now names → LooksUpFirst told now (files_of command)) → IsNamed told now command (settled stops names answer)
unfolding created
settled_named told now command stops names (Ok text) so first = subst (λ (z : List Named). LeavesFirst told now z []) (sym (append-nil (map looked_up (files_of command)))) (so first)
settled_named told now command stops names (Err cause) so first = subst (λ (z : List Named). LeavesFirst told now z []) (sym (append-nil (map looked_up (files_of command)))) (so first)

-- a node's names are those of its command where it has turns
turns_named : (told now : Option Told) (command : Option Command) (profile script : List ℕ) (at : Address) (answer : Result (List Turn) Fault) → files_of command ≡ profile ∷ script ∷ []
    → IsNamed told now command (node_verdict (profile ∷ script ∷ []) at answer)
unfolding created
turns_named told now command profile script at (Ok turns) is first =
    subst (λ (names : List (List ℕ)). LeavesFirst told now (map looked_up names ++ created (acts_of turns)) (acts_of turns)) (sym is) first
turns_named told now command profile script at (Err cause) is first =
    subst (λ (z : List Named). LeavesFirst told now z []) (sym (append-nil (map looked_up (files_of command))))
    (subst (λ (names : List (List ℕ)). LooksUpFirst told now names) (sym is) first)

noded_named : (told now : Option Told) (command : Option Command) (profile script : List ℕ) (at : Address) (says : Result Profile Fault) (then : Profile → Result (List Turn) Fault)
    → files_of command ≡ profile ∷ script ∷ [] → IsNamed told now command (node_verdict (names_by says profile script) at (says >>= then))
unfolding created
noded_named told now command profile script at (Ok by) then is first = turns_named told now command profile script at (then by) is first
noded_named told now command profile script at (Err cause) then is first =
    subst (λ (z : List Named). LeavesFirst told now z []) (sym (append-nil (map looked_up (files_of command))))
    (subst (λ (names : List (List ℕ)). LooksUpFirst told now names) (sym is) (names_more (Err cause) profile script told now first))

demo_named : (told now : Option Told) (command : Option Command) (names : List (List ℕ)) (answer : Result demos.Play Fault)
    → (LooksUpFirst told now names → LooksUpFirst told now (files_of command)) → IsNamed told now command (demo_played names answer)
unfolding created
demo_named told now command names (Ok play) so first = subst (λ (z : List Named). LeavesFirst told now z []) (sym (append-nil (map looked_up (files_of command)))) (so first)
demo_named told now command names (Err cause) so first = subst (λ (z : List Named). LeavesFirst told now z []) (sym (append-nil (map looked_up (files_of command)))) (so first)

-- a replay of events
abbrev pub schedules : Profile → List Event → Result Schedule Fault
schedules by events = Ok (record { by = by; events = events })

done_named : (told now : Option Told) (profile script : List ℕ) (answer : Result Schedule Fault) → IsNamed told now (Some (Replay profile script)) (replay_done (profile ∷ script ∷ []) answer)
unfolding created
done_named told now profile script (Ok replay) first = first
done_named told now profile script (Err cause) first = first

replay_named : (told now : Option Told) (profile script : List ℕ) (says : Result Profile Fault) (then : Profile → Result Schedule Fault)
    → IsNamed told now (Some (Replay profile script)) (replay_done (names_by says profile script) (says >>= then))
unfolding created
replay_named told now profile script (Ok by) then first = done_named told now profile script (then by) first
replay_named told now profile script (Err cause) then first = names_more (Err cause) profile script told now first

-- of an index, and of a seek in it, by what the profile's file says
indexed_named : (told now : Option Told) (profile demo index : List ℕ) (says : Result Profile Fault) (verdict : Verdict) → IsIndexVerdictBy told says profile demo index verdict
    → IsNamed told now (Some (Index profile demo index)) verdict
indexed_named told now profile demo index (Ok by) verdict is = subst (IsNamed told now (Some (Index profile demo index))) (sym is.2) (λ first. first)
indexed_named told now profile demo index (Err cause) verdict is =
    subst (IsNamed told now (Some (Index profile demo index))) (sym is)
    (settled_named told now (Some (Index profile demo index)) reads_first (profile ∷ []) (Err cause) (λ first. first_more told now (looked_up profile ∷ []) (looked_up demo ∷ []) [] [] first))

sought_named : (told now : Option Told) (profile demo index : List ℕ) (number : ℕ) (says : Result Profile Fault) (verdict : Verdict) → IsSeekVerdictBy told says profile demo index number verdict
    → IsNamed told now (Some (Seek profile demo index number)) verdict
sought_named told now profile demo index number (Ok by) verdict is =
    subst (IsNamed told now (Some (Seek profile demo index number))) (sym is.2)
    (settled_named told now (Some (Seek profile demo index number)) all_first (profile ∷ demo ∷ index ∷ []) is.0 (λ first. first))
sought_named told now profile demo index number (Err cause) verdict is =
    subst (IsNamed told now (Some (Seek profile demo index number))) (sym is)
    (settled_named told now (Some (Seek profile demo index number)) reads_first (profile ∷ []) (Err cause)
    (λ first. first_more told now (looked_up profile ∷ []) (looked_up demo ∷ looked_up index ∷ []) [] [] first))

verdict_named : (told : Outside) (now : Option Told) (command : Option Command) (verdict : Verdict) → IsVerdict told command verdict → IsNamed told.files now command verdict
verdict_named told now None verdict is = subst (IsNamed told.files now None) (sym is) (settled_named told.files now None stops_nowhere [] (Err faults.Usage) (λ first. first))
verdict_named told now (Some Help) verdict is = subst (IsNamed told.files now (Some Help)) (sym is) (settled_named told.files now (Some Help) stops_nowhere [] (Ok help_text) (λ first. first))
verdict_named told now (Some Version) verdict is = subst (IsNamed told.files now (Some Version)) (sym is) (settled_named told.files now (Some Version) stops_nowhere [] (Ok version_text) (λ first. first))
verdict_named told now (Some (Replay profile script)) verdict is =
    subst (IsNamed told.files now (Some (Replay profile script))) (sym is.4)
    (replay_named told.files now profile script (profile_in is.0) (λ by. events_in kinds.Replay is.1 >>= schedules by))
verdict_named told now (Some (Make draws)) verdict is =
    subst (IsNamed told.files now (Some (Make draws))) (sym is)
    (settled_named told.files now (Some (Make draws)) memory_first [] (Ok (script_text (generated draws.number draws.seed))) (λ first. first))
verdict_named told now (Some (Trial profile draws)) verdict is =
    subst (IsNamed told.files now (Some (Trial profile draws))) (sym is.2)
    (settled_named told.files now (Some (Trial profile draws)) all_first (profile ∷ []) (tried is.0 draws) (λ first. first))
verdict_named told now (Some (Serve profile script at)) verdict is =
    subst (IsNamed told.files now (Some (Serve profile script at))) (sym is.8)
    (noded_named told.files now (Some (Serve profile script at)) profile script at (profile_in is.0)
    (λ by. events_in kinds.Serve is.1 >>= (λ events. Ok (turns_of most_turns server_rules (new_node (new_server by places) events) is.4 is.6))) refl)
verdict_named told now (Some (Join profile script at server)) verdict is =
    subst (IsNamed told.files now (Some (Join profile script at server))) (sym is.8)
    (noded_named told.files now (Some (Join profile script at server)) profile script at (profile_in is.0)
    (λ by. events_in kinds.Join is.1 >>= (λ events. Ok (client_turns (client_of by server events) events is.4 is.6))) refl)
verdict_named told now (Some (Play profile demo)) verdict is =
    let names = names_by (profile_in is.0) profile demo in
    subst (IsNamed told.files now (Some (Play profile demo))) (sym is.4)
    (demo_named told.files now (Some (Play profile demo)) names (played is.0 is.1) (names_more (profile_in is.0) profile demo told.files now))
verdict_named told now (Some (Index profile demo index)) verdict is = indexed_named told.files now profile demo index (profile_in is.0) verdict is.2
verdict_named told now (Some (Seek profile demo index number)) verdict is = sought_named told.files now profile demo index number (profile_in is.0) verdict is.2

-- the names that are given are the first of those that the command names, and of the files that its verdict makes
pub touches : (command : Option Command) (told : Outside) (now : Option Told) (ended : Result (Unit {0}) Fault) → LeavesFiles (IsVerdict told command) told.files now ended → Touched command told now
touches command told now ended given =
    (given.0, given.1, verdict_named told now command given.0 given.1 (left_first ended given.0.named given.0.acts told.files now given.2))

-- the fault of an early end
early_is : (ended : Result (Unit {0}) Fault) → IsEarly ended → (fault : Fault) × IsOutside fault × (ended ≡ Err fault)
early_is (Ok x) early = absurd early
early_is (Err e) early = (e, early, refl)

-- and its status, or 4 where the fault line can't be written
early_status : (ended : Result (Unit {0}) Fault) (status : ℕ) → IsEarly ended → (status ≡ ending_status ended) ⊎ (status ≡ 4)
    → (fault : Fault) × IsOutside fault × (status ≡ fault_status fault)
early_status ended status early is =
    let so = early_is ended early in
    elim is [ inl same ↦ (so.0, so.1, same ∙ ap ending_status so.2) | inr four ↦ (faults.Write, tt, four) ]

pub has_left : (command : Option Command) (told : Outside) (now : Option Told) (ended : Result (Unit {0}) Fault) (status : ℕ) → LeavesFiles (IsVerdict told command) told.files now ended
    → (status ≡ ending_status ended) ⊎ (status ≡ 4) → HasLeft command told now status
has_left command told now ended status given is = (
  given.0,
  given.1,
  elim given.2 [
    | inl all ↦ inl all
    | inr early ↦
        let so = early_status ended status early.0 is in
        inr (so.0, so.1, so.2, early.1)
  ],
)

-- ---- of each command

pub none_given : (told : Outside) → LeavesFiles (IsVerdict told None) told.files told.files (Err faults.Usage)
none_given told = (settled stops_nowhere [] (Err faults.Usage), refl, inl (looks_none told.files))

pub text_given : (command : Option Command) (told : Outside) (stops : Stops) (text : List ℕ) (ended : Result (Unit {0}) Fault)
    → IsVerdict told command (settled stops [] (Ok text)) → LeavesFiles (IsVerdict told command) told.files told.files ended
text_given command told stops text ended is = (settled stops [] (Ok text), is, inl (looks_none told.files))

-- a profile was looked up, and nothing else
pub trial_given : {A : Type 0} (told now : Option Told) (profile : List ℕ) (draws : Draws) (ended : Result (Unit {0}) Fault) (got : Result A Fault)
    → (Gives got (profile ∷ []) told now → Gives ended (profile ∷ []) told now) → Gives got (profile ∷ []) told now → LeavesFiles (IsTrialVerdict told profile draws) told now ended
trial_given told now profile draws ended got so gives =
    let file = held told profile in (
      settled all_first (profile ∷ []) (tried file.0 draws),
      (file.0, file.1, refl),
      settled_touches ended all_first (profile ∷ []) (tried file.0 draws) told now (so gives),
    )

-- none passed
pub trial_gives : (told now : Option Told) (profile : List ℕ) (draws : Draws) (e : Fault) → Gives {A = Unit {0}} (Err e) (profile ∷ []) told now
    → LeavesFiles (IsTrialVerdict told profile draws) told now (Err e)
trial_gives told now profile draws e gives = trial_given {A = Unit {0}} told now profile draws (Err e) (Err e) (λ all. all) gives

-- one did
pub trial_gave : {A : Type 0} (told now : Option Told) (profile : List ℕ) (draws : Draws) (by : A) (ended : Result (Unit {0}) Fault) → Gives (Ok by) (profile ∷ []) told now
    → LeavesFiles (IsTrialVerdict told profile draws) told now ended
trial_gave told now profile draws by ended gives = trial_given told now profile draws ended (Ok by) (λ all. inl (gave by (profile ∷ []) told now all)) gives
