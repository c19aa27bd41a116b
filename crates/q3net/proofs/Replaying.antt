-- How a replay ends.
use Rattle.std.proofs.Common.{◌≡◌, ◌≢◌, ℕ, List, [], ◌∷◌, ◌++◌, map, length, take, drop, Option, Result, Ok, Err, IsErr, refl, sym, ap, subst, ◌∙◌, inl, inr}
use Rattle.std.proofs.lemmas.List.{append-nil}
use Rattle.q3_profile.specs.declared.profile.Profile.{Profile}
use Rattle.q3_bits.specs.ResultBind.{◌>>=◌}
use Rattle.q3_script.specs.declared.event.Event.{Event}
use Rattle.q3_script.specs.declared.cause.ScriptKind.TheVariants as kinds
use Rattle.q3_io.specs.declared.sink.Failed.{Failed}
use Rattle.q3_io.specs.Acts.{FileAct, ActsOn}
use Rattle.q3_io.specs.Faults.{HasCause}
use Rattle.q3_io.specs.Laws.{TextsFollow}
use Rattle.q3_io.specs.Written.{Written}
use Rattle.q3_io.specs.Told.{Told}
use Rattle.q3_report.specs.Answers.{Answered}
use Rattle.q3_world.specs.declared.told.StepError.{StepError}
use Rattle.q3_world.specs.declared.told.StepError.TheVariants as step
use Rattle.q3_world.specs.Ends.{Ends, new_ends}
use Rattle.q3_world.specs.Files.{acts_from, by_files}
use Rattle.q3_world.specs.Kept.{SentBytes, Kept, opening_kept}
use Rattle.q3_world.specs.World.{opening, answers}
use Rattle.q3_world.specs.StandsFor.{StandsFor}
use Rattle.q3_world.specs.Report.{report}
use Rattle.q3_world.specs.Outcome.{HasStepCause}
use Rattle.q3_runs.specs.declared.fault.Fault.{Fault}
use Rattle.q3_runs.specs.declared.fault.Fault.TheVariants as faults
use Rattle.q3_command.specs.Command.{Replay}
use Rattle.q3_runs.specs.Faults.{Gets, IsOutside, ReadCause, WriteCause, FileCause}
use Rattle.q3_runs.specs.Input.{IsFront, Holds, looked_up, created, LeavesFirst, Touches, LooksUpTold, LooksUpFirst, Gives}
use Rattle.q3_runs.specs.Verdict.{Verdict, profile_in, events_in, names_by, GetsFrom}
use Rattle.q3_runs.specs.Run.{Comes, Executes, LeavesFiles}
use Rattle.q3net.specs.Faults.{step_fault}
use Rattle.q3net.specs.Verdict.{Schedule, replayed, recorded, replay_done, IsReplayVerdict}
use Rattle.q3net.specs.Run.{AddsLines, DoesFirst}
use Rattle.q3_runs.proofs.Acting.{none_on, first_more, all_left, first_left}
use Rattle.q3_runs.proofs.Loading.{held, same_held}
use Rattle.q3_runs.proofs.Looking.{got_ok, gave, gave_first, came_outside, profile_names, script_names}
use Rattle.q3_runs.proofs.Ending.{refused_so, wants_memory, fails_reading, writes_some}
use Rattle.q3net.proofs.RunActs.{acted_all}
use Rattle.q3net.proofs.RunLooks.{schedules}
use Rattle.q3net.proofs.Stepping.{all_lines, lines-all}

-- ---- the verdict

-- the first part that its input ends, or the schedule
no_profile : (profile script : Option (List ℕ)) (e : Fault) → profile_in profile ≡ Err e → replayed profile script ≡ Err e
no_profile profile script e is = ap (λ (says : Result Profile Fault). says >>= (λ by. events_in kinds.Replay script >>= schedules by)) is

no_events : (profile script : Option (List ℕ)) (by : Profile) (e : Fault) → profile_in profile ≡ Ok by → events_in kinds.Replay script ≡ Err e → replayed profile script ≡ Err e
no_events profile script by e passes is =
    ap (λ (says : Result Profile Fault). says >>= (λ by. events_in kinds.Replay script >>= schedules by)) passes
    ∙ ap (λ (says : Result (List Event) Fault). says >>= schedules by) is

all_said : (profile script : Option (List ℕ)) (by : Profile) (events : List Event) → profile_in profile ≡ Ok by → events_in kinds.Replay script ≡ Ok events
    → replayed profile script ≡ schedules by events
all_said profile script by events passes is =
    ap (λ (says : Result Profile Fault). says >>= (λ by. events_in kinds.Replay script >>= schedules by)) passes
    ∙ ap (λ (says : Result (List Event) Fault). says >>= schedules by) is

done_refused : (names : List (List ℕ)) (answer : Result Schedule Fault) (e : Fault) → answer ≡ Err e → ((replay_done names answer).ending ≡ Err e) × ((replay_done names answer).text ≡ [])
done_refused names answer e is = rw is (refl, refl)

done_memory : (names : List (List ℕ)) (answer : Result Schedule Fault) → Comes (replay_done names answer).stops.memory
done_memory names (Ok replay) = tt
done_memory names (Err e) = tt

done_reads : (names : List (List ℕ)) (answer : Result Schedule Fault) → Comes (replay_done names answer).stops.reads
done_reads names (Ok replay) = tt
done_reads names (Err e) = tt

-- ---- before its first event

-- a part that reads a file ended it
part_replayed : {A : Type 0} (follow : TextsFollow) (Rule : Verdict → Type 0) (old : Option Written) (names : List (List ℕ)) (answer : Result Schedule Fault) (said : Result A Fault) (e : Fault)
    → Rule (replay_done names answer) → (said ≡ Err e → answer ≡ Err e) → Gets said (Err e) → Executes Rule old old (Err e)
part_replayed follow Rule old names answer said e is so gets =
    elim gets [
      | inl by_input ↦
          let no = done_refused names answer e (so (sym by_input)) in
          refused_so follow Rule old (replay_done names answer) e is no.0 no.1
      | inr outside ↦ elim outside [
        | inl memory ↦ (
            let so : e ≡ faults.NoMemory = cc in
            subst (λ (d : Fault). Executes Rule old old (Err d)) (sym so) (wants_memory follow Rule old (replay_done names answer) is (done_memory names answer))
            )
        | inr read ↦ (
            let so : e ≡ faults.Read = cc in
            subst (λ (d : Fault). Executes Rule old old (Err d)) (sym so) (fails_reading follow Rule old (replay_done names answer) is (done_reads names answer))
            )
      ]
    ]

pub profile_ended : (follow : TextsFollow) (told : Option Told) (profile script : List ℕ) (old : Option Written) (e : Fault) → GetsFrom profile_in told profile (Err e)
    → Executes (IsReplayVerdict told profile script) old old (Err e)
profile_ended follow told profile script old e gets =
    let s = held told script in
    part_replayed follow (IsReplayVerdict told profile script) old (names_by (profile_in gets.0) profile script) (replayed gets.0 s.0) (profile_in gets.0) e
    (gets.0, s.0, gets.1, s.1, refl) (no_profile gets.0 s.0 e) gets.2

pub events_ended : (follow : TextsFollow) (told mid : Option Told) (profile script : List ℕ) (by : Profile) (old : Option Written) (e : Fault) → GetsFrom profile_in told profile (Ok by)
    → Gives (Ok by) (profile ∷ []) told mid → GetsFrom (events_in kinds.Replay) mid script (Err e) → Executes (IsReplayVerdict told profile script) old old (Err e)
events_ended follow told mid profile script by old e passes gives gets =
    let of_script = same_held told mid (profile ∷ []) script gets.0 (gave by (profile ∷ []) told mid gives) gets.1 in
    part_replayed follow (IsReplayVerdict told profile script) old (names_by (profile_in passes.0) profile script) (replayed passes.0 gets.0) (events_in kinds.Replay gets.0) e
    (passes.0, gets.0, passes.1, of_script, refl) (no_events passes.0 gets.0 by e (got_ok (profile_in passes.0) by passes.2)) gets.2

-- both files were read
pub record BothRead (told : Option Told) (profile script : List ℕ) (by : Profile) (events : List Event) : Type 0 where
  pub of_profile : Option (List ℕ)
  pub of_script : Option (List ℕ)
  pub holds_profile : Holds told profile of_profile
  pub holds_script : Holds told script of_script
  pub says : replayed of_profile of_script ≡ schedules by events
  pub names : names_by (profile_in of_profile) profile script ≡ profile ∷ script ∷ []

pub both_read : (told mid : Option Told) (profile script : List ℕ) (by : Profile) (events : List Event) → GetsFrom profile_in told profile (Ok by)
    → Gives (Ok by) (profile ∷ []) told mid → GetsFrom (events_in kinds.Replay) mid script (Ok events) → BothRead told profile script by events
both_read told mid profile script by events passes gives gets = record {
  of_profile = passes.0;
  of_script = gets.0;
  holds_profile = passes.1;
  holds_script = same_held told mid (profile ∷ []) script gets.0 (gave by (profile ∷ []) told mid gives) gets.1;
  says = all_said passes.0 gets.0 by events (got_ok (profile_in passes.0) by passes.2) (got_ok (events_in kinds.Replay gets.0) events gets.2);
  names = ap (λ (says : Result Profile Fault). names_by says profile script) (got_ok (profile_in passes.0) by passes.2);
}

-- the verdict of what was read
abbrev pub verdict_by : List ℕ → List ℕ → Profile → List Event → Verdict
verdict_by profile script by events = replay_done (profile ∷ script ∷ []) (schedules by events)

verdict_of : (told : Option Told) (profile script : List ℕ) (by : Profile) (events : List Event) → BothRead told profile script by events
    → IsReplayVerdict told profile script (verdict_by profile script by events)
verdict_of told profile script by events read = (
  read.of_profile,
  read.of_script,
  read.holds_profile,
  read.holds_script,
  ap (λ (names : List (List ℕ)). replay_done names (schedules by events)) (sym read.names)
      ∙ ap (replay_done (names_by (profile_in read.of_profile) profile script)) (sym read.says),
)

pub memory_ended : (follow : TextsFollow) (told : Option Told) (profile script : List ℕ) (by : Profile) (events : List Event) (old : Option Written) → BothRead told profile script by events
    → Executes (IsReplayVerdict told profile script) old old (Err faults.NoMemory)
memory_ended follow told profile script by events old read =
    wants_memory follow (IsReplayVerdict told profile script) old (verdict_by profile script by events) (verdict_of told profile script by events read) tt

-- ---- its events

-- so many answers are a front of all
first_lines : (all : List Answered) (k : ℕ) → IsFront (all_lines (take k all)) (all_lines all)
first_lines all k = (all_lines (drop k all), sym (lines-all all k))

pub steps_ended : (told : Option Told) (profile script : List ℕ) (by : Profile) (events : List Event) (old now : Option Written) (e : StepError)
    → BothRead told profile script by events → AddsLines (answers by (opening by) events) old now (Err e) → (IsErr (by_files (Err e)) → acts_from (opening_kept by) events ≢ [])
    → Executes (IsReplayVerdict told profile script) old now (Err (step_fault e))
unfolding report
steps_ended told profile script by events old now step.NoMemory read adds some =
    let all = answers by (opening by) events in
    (verdict_by profile script by events, verdict_of told profile script by events read, inl (all_lines (take adds.0 all), inr (faults.NoMemory, refl, first_lines all adds.0), adds.1))
steps_ended told profile script by events old now step.FileFault read adds some =
    let all = answers by (opening by) events in
    (verdict_by profile script by events, verdict_of told profile script by events read, inl (all_lines (take adds.0 all), inr (faults.FileWrite, refl, writes_some (acts_from (opening_kept by) events) (all_lines (take adds.0 all)) (all_lines all) (some refl) (first_lines all adds.0)), adds.1))
steps_ended told profile script by events old now step.WriteFault read adds some =
    (verdict_by profile script by events, verdict_of told profile script by events read, inr (refl, adds))

pub steps_done : (told : Option Told) (profile script : List ℕ) (by : Profile) (events : List Event) (old now : Option Written)
    → BothRead told profile script by events → AddsLines (answers by (opening by) events) old now (Ok tt)
    → Executes (IsReplayVerdict told profile script) old now (Ok tt)
unfolding report
steps_done told profile script by events old now read adds =
    (verdict_by profile script by events, verdict_of told profile script by events read, inl (report by events, inl (refl, refl), adds))

-- what comes after them couldn't be written
pub finish_failed : (told : Option Told) (profile script : List ℕ) (by : Profile) (events : List Event) (old now : Option Written)
    → BothRead told profile script by events → AddsLines (answers by (opening by) events) old now (Ok tt) → acts_from (opening_kept by) events ≢ []
    → Executes (IsReplayVerdict told profile script) old now (Err faults.FileWrite)
unfolding report
finish_failed told profile script by events old now read adds some =
    (verdict_by profile script by events, verdict_of told profile script by events read, inl (report by events, inr (faults.FileWrite, refl, writes_some (acts_from (opening_kept by) events) (report by events) (report by events) some ([], append-nil (report by events))), adds))

-- ---- what it leaves of the files

-- before its first event, by its input or by what comes from outside
part_left : {A : Type 0} (said : Result A Fault) (e : Fault) (names : List (List ℕ)) (answer : Result Schedule Fault) (told now : Option Told) → Gets said (Err e) → (said ≡ Err e → answer ≡ Err e)
    → Gives {A = Unit {0}} (Err e) names told now → Touches {A = Unit {0}} (Err e) (replay_done names answer).named (replay_done names answer).acts told now
part_left {A} said e names answer told now gets so gives =
    elim gets [
      | inl by_input ↦ subst (λ (a : Result Schedule Fault). Touches {A = Unit {0}} (Err e) (replay_done names a).named (replay_done names a).acts told now) (sym (so (sym by_input))) gives
      | inr outside ↦ inr (came_outside {A = A} e (Err e) refl outside, early_left names answer told now (gave_first {A = Unit {0}} (Err e) names told now gives))
    ]
  where
    early_left : (names : List (List ℕ)) (answer : Result Schedule Fault) (told now : Option Told) → LooksUpFirst told now names → LeavesFirst told now (replay_done names answer).named (replay_done names answer).acts
    early_left names (Ok replay) told now first = first_more told now (map looked_up names) (created (recorded replay)) [] (recorded replay) first
    early_left names (Err cause) told now first = first

pub profile_gives : (told now : Option Told) (profile script : List ℕ) (e : Fault) → GetsFrom profile_in told profile (Err e)
    → Gives {A = Profile} (Err e) (profile ∷ []) told now → LeavesFiles (IsReplayVerdict told profile script) told now (Err e)
profile_gives told now profile script e gets gives =
    let s = held told script in
    let names = names_by (profile_in gets.0) profile script in (
      replay_done names (replayed gets.0 s.0),
      (gets.0, s.0, gets.1, s.1, refl),
      part_left (profile_in gets.0) e names (replayed gets.0 s.0) told now gets.2 (no_profile gets.0 s.0 e) (profile_names gets.0 e profile script told now gets.2 gives),
    )

pub script_gives : (told mid now : Option Told) (profile script : List ℕ) (by : Profile) (e : Fault) → GetsFrom profile_in told profile (Ok by)
    → Gives (Ok by) (profile ∷ []) told mid → GetsFrom (events_in kinds.Replay) mid script (Err e) → Gives {A = Unit {0}} (Err e) (script ∷ []) mid now
    → LeavesFiles (IsReplayVerdict told profile script) told now (Err e)
script_gives told mid now profile script by e passes first gets second =
    let looked = gave by (profile ∷ []) told mid first in
    let is = got_ok (profile_in passes.0) by passes.2 in
    let names = names_by (profile_in passes.0) profile script in
    let given = subst (λ (says : Result Profile Fault). Gives {A = Unit {0}} (Err e) (names_by says profile script) told now) (sym is) (script_names told mid now profile script by e looked second) in (
      replay_done names (replayed passes.0 gets.0),
      (passes.0, gets.0, passes.1, same_held told mid (profile ∷ []) script gets.0 looked gets.1, refl),
      part_left (events_in kinds.Replay gets.0) e names (replayed passes.0 gets.0) told now gets.2 (no_events passes.0 gets.0 by e is) given,
    )

-- some of the acts were done
acts_left : (told looked now : Option Told) (profile script : List ℕ) (by : Profile) (events : List Event) (done rest : List FileAct) (result : Result (Unit {0}) Failed) (e : Fault)
    → BothRead told profile script by events → LooksUpTold told looked (profile ∷ script ∷ []) → ActsOn looked now done result → acts_from (opening_kept by) events ≡ done ++ rest → IsOutside e
    → LeavesFiles (IsReplayVerdict told profile script) told now (Err e)
acts_left told looked now profile script by events done rest result e read names acts whole outside = (
  verdict_by profile script by events,
  verdict_of told profile script by events read,
  inr (outside, first_left told looked now (map looked_up (profile ∷ script ∷ [])) (acts_from (opening_kept by) events) done rest result names acts whole),
)

-- none of them
pub memory_left : (told looked : Option Told) (profile script : List ℕ) (by : Profile) (events : List Event)
    → BothRead told profile script by events → LooksUpTold told looked (profile ∷ script ∷ []) → LeavesFiles (IsReplayVerdict told profile script) told looked (Err faults.NoMemory)
memory_left told looked profile script by events read names =
    acts_left told looked looked profile script by events [] (acts_from (opening_kept by) events) (Ok tt) faults.NoMemory read names (none_on looked) refl tt

-- what a new world keeps
kept_of : Profile → Ends → List SentBytes → Kept
kept_of profile ends datagrams = record { profile = profile; ends = ends; datagrams = datagrams }

pub opens : (profile : Profile) (kept : Kept) → StandsFor profile kept (opening profile) → kept ≡ opening_kept profile
unfolding opening kept_of
opens profile kept stands =
    ap (λ (by : Profile). kept_of by kept.ends kept.datagrams) stands.by
    ∙ (ap (λ (ends : Ends). kept_of profile ends kept.datagrams) stands.ends
    ∙ ap (λ (datagrams : List SentBytes). kept_of profile (new_ends profile) datagrams) stands.datagrams)

-- where a step failed at a file, or what comes after them, something was to be done to files
none_first : (first second : List FileAct) → first ++ second ≡ [] → first ≡ []
none_first [] second none = refl
none_first (act ∷ first) second none = absurd cc

none_last : (first second : List FileAct) → first ++ second ≡ [] → second ≡ []
none_last [] second none = none
none_last (act ∷ first) second none = absurd cc

pub steps_some : (looked now : Option Told) (by : Profile) (events : List Event) (kept : Kept) (last : List FileAct) (result : Result (Unit {0}) StepError) → StandsFor by kept (opening by)
    → DoesFirst looked now (acts_from kept events) last result → IsErr (by_files result) → acts_from (opening_kept by) events ≢ []
steps_some looked now by events kept last result stands does failed none =
    does.5 failed (none_first does.0 does.1 (sym does.2 ∙ (ap (λ (k : Kept). acts_from k events) (opens by kept stands) ∙ none)))

pub ends_some : (looked now : Option Told) (by : Profile) (events : List Event) (kept : Kept) (last : List FileAct) → StandsFor by kept (opening by)
    → DoesFirst looked now (acts_from kept events) last (Ok tt) → last ≢ [] → acts_from (opening_kept by) events ≢ []
ends_some looked now by events kept last stands does some none =
    some (sym does.4 ∙ none_last does.0 does.1 (sym does.2 ∙ (ap (λ (k : Kept). acts_from k events) (opens by kept stands) ∙ none)))

step_outside : (e : StepError) → IsOutside (step_fault e)
step_outside step.NoMemory = tt
step_outside step.WriteFault = tt
step_outside step.FileFault = tt

-- a step failed
pub steps_left : (told looked now : Option Told) (profile script : List ℕ) (by : Profile) (events : List Event) (kept : Kept) (last : List FileAct) (e : StepError)
    → BothRead told profile script by events → LooksUpTold told looked (profile ∷ script ∷ []) → StandsFor by kept (opening by) → DoesFirst looked now (acts_from kept events) last (Err e)
    → LeavesFiles (IsReplayVerdict told profile script) told now (Err (step_fault e))
steps_left told looked now profile script by events kept last e read names stands does =
    acts_left told looked now profile script by events does.0 does.1 (by_files (Err e)) (step_fault e) read names does.3
    (ap (λ (k : Kept). acts_from k events) (sym (opens by kept stands)) ∙ does.2) (step_outside e)

-- all was done, or what comes after the events failed
finished_on : (looked mid now : Option Told) (by : Profile) (events : List Event) (kept : Kept) (last : List FileAct) (result : Result (Unit {0}) Failed)
    → StandsFor by kept (opening by) → DoesFirst looked mid (acts_from kept events) last (Ok tt) → ActsOn mid now last result → ActsOn looked now (acts_from (opening_kept by) events) result
finished_on looked mid now by events kept last result stands does ends =
    subst (λ (k : Kept). ActsOn looked now (acts_from k events) result) (opens by kept stands) (acted_all looked mid now (acts_from kept events) last result does ends)

pub finish_left : (told looked mid now : Option Told) (profile script : List ℕ) (by : Profile) (events : List Event) (kept : Kept) (last : List FileAct) (e : Failed)
    → BothRead told profile script by events → LooksUpTold told looked (profile ∷ script ∷ []) → StandsFor by kept (opening by) → DoesFirst looked mid (acts_from kept events) last (Ok tt)
    → ActsOn mid now last (Err e) → LeavesFiles (IsReplayVerdict told profile script) told now (Err faults.FileWrite)
finish_left told looked mid now profile script by events kept last e read names stands does ends =
    let acts = acts_from (opening_kept by) events in
    acts_left told looked now profile script by events acts [] (Err e) faults.FileWrite read names (finished_on looked mid now by events kept last (Err e) stands does ends) (sym (append-nil acts)) tt

pub all_done : (told looked mid now : Option Told) (profile script : List ℕ) (by : Profile) (events : List Event) (kept : Kept) (last : List FileAct)
    → BothRead told profile script by events → LooksUpTold told looked (profile ∷ script ∷ []) → StandsFor by kept (opening by) → DoesFirst looked mid (acts_from kept events) last (Ok tt)
    → ActsOn mid now last (Ok tt) → LeavesFiles (IsReplayVerdict told profile script) told now (Ok tt)
all_done told looked mid now profile script by events kept last read names stands does ends = (
  verdict_by profile script by events,
  verdict_of told profile script by events read,
  inl (all_left told looked now (map looked_up (profile ∷ script ∷ [])) (acts_from (opening_kept by) events) names (finished_on looked mid now by events kept last (Ok tt) stands does ends)),
)

-- ---- causes

-- a new world has sent nothing
pub nothing_sent : (profile : Profile) (kept : Kept) → StandsFor profile kept (opening profile) → length kept.datagrams ≡ 0
unfolding opening
nothing_sent profile kept stands = ap length stands.datagrams

-- where a step failed, no read did, and a write as the step says
pub step_read_cause : (before now : ℕ) (e : StepError) → now ≡ before → ReadCause {T = Unit {0}} before now (Err (step_fault e))
step_read_cause before now step.NoMemory same = same
step_read_cause before now step.WriteFault same = same
step_read_cause before now step.FileFault same = same

pub step_write_cause : (before now : ℕ) (e : StepError) → HasStepCause before now (Err e) → WriteCause before now (Err (step_fault e))
step_write_cause before now step.NoMemory cause = cause
step_write_cause before now step.WriteFault cause = cause
step_write_cause before now step.FileFault cause = cause

pub step_file_cause : (before now : ℕ) (e : StepError) → HasCause before now (by_files (Err e)) → FileCause before now (Err (step_fault e))
step_file_cause before now step.NoMemory cause = cause.ok refl
step_file_cause before now step.WriteFault cause = cause.ok refl
step_file_cause before now step.FileFault cause = (cause.later, cause.failed refl)
