-- How a demo's play ends.
use Rattle.std.proofs.Common.{◌≡◌, ℕ, List, [], ◌∷◌, ◌++◌, take, drop, Option, Some, None, Result, Ok, Err, refl, sym, ap, subst, ◌∙◌, inl, inr}
use Rattle.std.specs.Prelude.{IsSome, ok_or, unwrap_or}
use Rattle.std.specs.List.{concat}
use Rattle.std.specs.Result.{result_map_both}
use Rattle.std.proofs.lemmas.List.{take-append-drop}
use Rattle.std.proofs.lemmas.List.Folds.{concat-append}
use Rattle.q3_bits.specs.ResultBind.{◌>>=◌}
use Rattle.q3_io.specs.Laws.{TextsFollow}
use Rattle.q3_io.specs.Acts.{after_acts}
use Rattle.q3_io.specs.Told.{Told, contents_of, contents_at, LooksUp, Lookup, after_named, after_given}
use Rattle.q3_io.specs.Written.{Written}
use Rattle.q3_profile.specs.declared.profile.Profile.{Profile}
use Rattle.q3_demo.specs.declared.error.DemoError.{DemoError}
use Rattle.q3_demo.specs.declared.error.DemoError.TheVariants as demo
use Rattle.q3_demo.specs.Playing as demos
use Rattle.q3_demo.specs.Running.{HasFrom, OnlyAsks, Plays, ReadCause as DemoReadCause, WriteCause as DemoWriteCause}
use Rattle.q3_runs.specs.declared.fault.Fault.{Fault}
use Rattle.q3_runs.specs.declared.fault.Fault.TheVariants as faults
use Rattle.q3_runs.specs.Faults.{demo_fault, ReadCause, WriteCause}
use Rattle.q3_runs.specs.Input.{Holds, Finds, looked_up, LeavesTold, Touches, Gives}
use Rattle.q3_runs.specs.Verdict.{Verdict, IsPlayVerdict, names_by, profile_in, played, demo_played, GetsFrom}
use Rattle.q3_runs.specs.Run.{Comes, Executes, LeavesFiles}
use Rattle.q3_runs.proofs.Loading.{held, same_held}
use Rattle.q3_runs.proofs.Looking.{got_ok, gave, leaves_then, first_then, profile_names}
use Rattle.q3_runs.proofs.Reading.{given_name}
use Rattle.q3_runs.proofs.Numbered.{leaves_asked}
use Rattle.q3_runs.proofs.Ending.{refused_so, wants_memory, fails_reading}

-- ---- the verdict

play_by : Option (List ℕ) → Profile → Result demos.Play Fault
play_by demo by = ok_or demo faults.Read >>= λ bytes. Ok (demos.play_of by bytes)

no_profile : (profile demo : Option (List ℕ)) (e : Fault) → profile_in profile ≡ Err e → played profile demo ≡ Err e
unfolding play_by
no_profile profile demo e is = ap (λ (says : Result Profile Fault). says >>= play_by demo) is

all_played : (profile : Option (List ℕ)) (bytes : List ℕ) (by : Profile) → profile_in profile ≡ Ok by → played profile (Some bytes) ≡ Ok (demos.play_of by bytes)
unfolding play_by
all_played profile bytes by is = ap (λ (says : Result Profile Fault). says >>= play_by (Some bytes)) is

played_refused : (names : List (List ℕ)) (answer : Result demos.Play Fault) (e : Fault) → answer ≡ Err e → ((demo_played names answer).ending ≡ Err e) × ((demo_played names answer).text ≡ [])
played_refused names answer e is = rw is (refl, refl)

played_memory : (names : List (List ℕ)) (answer : Result demos.Play Fault) → Comes (demo_played names answer).stops.memory
played_memory names (Ok play) = tt
played_memory names (Err e) = tt

played_reads : (names : List (List ℕ)) (answer : Result demos.Play Fault) → Comes (demo_played names answer).stops.reads
played_reads names (Ok play) = tt
played_reads names (Err e) = tt

-- ---- before it is played

pub play_unprofiled : (follow : TextsFollow) (told : Option Told) (profile demo : List ℕ) (old : Option Written) (e : Fault) → GetsFrom profile_in told profile (Err e)
    → Executes (IsPlayVerdict told profile demo) old old (Err e)
play_unprofiled follow told profile demo old e gets =
    let d = held told demo in
    let answer = played gets.0 d.0 in
    let names = names_by (profile_in gets.0) profile demo in
    let is : IsPlayVerdict told profile demo (demo_played names answer) = (gets.0, d.0, gets.1, d.1, refl) in
    elim gets.2 [
      | inl by_input ↦
          let no = played_refused names answer e (no_profile gets.0 d.0 e (sym by_input)) in
          refused_so follow (IsPlayVerdict told profile demo) old (demo_played names answer) e is no.0 no.1
      | inr outside ↦ elim outside [
        | inl memory ↦ (
            let so : e ≡ faults.NoMemory = cc in
            subst (λ (d : Fault). Executes (IsPlayVerdict told profile demo) old old (Err d)) (sym so) (wants_memory follow (IsPlayVerdict told profile demo) old (demo_played names answer) is (played_memory names answer))
            )
        | inr read ↦ (
            let so : e ≡ faults.Read = cc in
            subst (λ (d : Fault). Executes (IsPlayVerdict told profile demo) old old (Err d)) (sym so) (fails_reading follow (IsPlayVerdict told profile demo) old (demo_played names answer) is (played_reads names answer))
            )
      ]
    ]

-- the demo isn't there, or can't be looked up
pub play_unfound : (follow : TextsFollow) (told : Option Told) (profile demo : List ℕ) (by : Profile) (old : Option Written) (e : Fault) → GetsFrom profile_in told profile (Ok by) → e ≡ faults.Read
    → Executes (IsPlayVerdict told profile demo) old old (Err e)
play_unfound follow told profile demo by old e passes read =
    let d = held told demo in
    let answer = played passes.0 d.0 in
    let names = names_by (profile_in passes.0) profile demo in
    subst (λ (f : Fault). Executes (IsPlayVerdict told profile demo) old old (Err f)) (sym read)
    (fails_reading follow (IsPlayVerdict told profile demo) old (demo_played names answer) (passes.0, d.0, passes.1, d.1, refl) (played_reads names answer))

-- ---- it is played

-- the verdict of a profile and a demo that were read
play_verdict : (told : Option Told) (profile demo bytes : List ℕ) (by : Profile) → GetsFrom profile_in told profile (Ok by) → Holds told demo (Some bytes)
    → IsPlayVerdict told profile demo (demo_played (profile ∷ demo ∷ []) (Ok (demos.play_of by bytes)))
play_verdict told profile demo bytes by passes holds = (
  passes.0,
  Some bytes,
  passes.1,
  holds,
  subst (λ (says : Result Profile Fault). demo_played (profile ∷ demo ∷ []) (Ok (demos.play_of by bytes)) ≡ demo_played (names_by says profile demo) (played passes.0 (Some bytes)))
      (sym (got_ok (profile_in passes.0) by passes.2))
      (ap (λ (answer : Result demos.Play Fault). demo_played (profile ∷ demo ∷ []) answer) (sym (all_played passes.0 bytes by (got_ok (profile_in passes.0) by passes.2)))),
)

fault_of : Result (Unit {0}) DemoError → Result (Unit {0}) Fault
fault_of ended = result_map_both (λ x. x) demo_fault ended

-- the first of some texts are a front of all of them
first_texts : (count : ℕ) (texts : List (List ℕ)) → concat (take count texts) ++ concat (drop count texts) ≡ concat texts
first_texts count texts = sym (concat-append (take count texts) (drop count texts)) ∙ ap concat (take-append-drop count texts)

play_ends : (follow : TextsFollow) (Rule : Verdict → Type 0) (names : List (List ℕ)) (play : demos.Play) (old now : Option Written) (ended : Result (Unit {0}) DemoError)
    → Rule (demo_played names (Ok play)) → Plays play old now ended → Executes Rule old now (fault_of ended)
unfolding fault_of
play_ends follow Rule names play old now (Ok x) is plays = (demo_played names (Ok play), is, inl (demos.play_text play, inl (ap fault_of plays.0, refl), plays.1))
play_ends follow Rule names play old now (Err demo.NoMemory) is plays =
    (demo_played names (Ok play), is, inl ([], inr (faults.NoMemory, refl, refl), rw plays follow.none))
play_ends follow Rule names play old now (Err demo.ReadFault) is plays =
    (demo_played names (Ok play), is, inl (concat (take plays.0 play.texts), inr (faults.Read, refl, (concat (drop plays.0 play.texts), first_texts plays.0 play.texts)), plays.1))
play_ends follow Rule names play old now (Err demo.WriteFault) is plays = (demo_played names (Ok play), is, inr (refl, plays))
play_ends follow Rule names play old now (Err (demo.Truncated at)) is plays = (demo_played names (Ok play), is, inl (demos.play_text play, inl (ap fault_of plays.0, refl), plays.1))
play_ends follow Rule names play old now (Err (demo.BadLength at)) is plays = (demo_played names (Ok play), is, inl (demos.play_text play, inl (ap fault_of plays.0, refl), plays.1))
play_ends follow Rule names play old now (Err (demo.BadNumber at)) is plays = (demo_played names (Ok play), is, inl (demos.play_text play, inl (ap fault_of plays.0, refl), plays.1))
play_ends follow Rule names play old now (Err (demo.Message at cause)) is plays = (demo_played names (Ok play), is, inl (demos.play_text play, inl (ap fault_of plays.0, refl), plays.1))

pub play_ended : (follow : TextsFollow) (told mid found : Option Told) (profile demo : List ℕ) (by : Profile) (file : ℕ) (old now : Option Written) (ended : Result (Unit {0}) DemoError)
    → GetsFrom profile_in told profile (Ok by) → Gives (Ok by) (profile ∷ []) told mid → Finds demo mid found (Ok file)
    → ((bytes : List ℕ) × HasFrom found file 0 bytes × Plays (demos.play_of by bytes) old now ended) → Executes (IsPlayVerdict told profile demo) old now (result_map_both (λ x. x) demo_fault ended)
unfolding fault_of
play_ended follow told mid found profile demo by file old now ended passes gives finds plays =
    let bytes = plays.0 in
    let holds = same_held told mid (profile ∷ []) demo (Some bytes) (gave by (profile ∷ []) told mid gives) (finds bytes plays.1) in
    play_ends follow (IsPlayVerdict told profile demo) (profile ∷ demo ∷ []) (demos.play_of by bytes) old now ended (play_verdict told profile demo bytes by passes holds) plays.2

-- ---- what it leaves of the files

played_touches : {A : Type 0} (ended : Result A Fault) (names : List (List ℕ)) (answer : Result demos.Play Fault) (told now : Option Told) → Gives ended names told now
    → Touches ended (demo_played names answer).named (demo_played names answer).acts told now
played_touches ended names (Ok play) told now gives = gives
played_touches ended names (Err cause) told now gives = gives

play_given : (told now : Option Told) (profile demo : List ℕ) (file : Option (List ℕ)) (ended : Result (Unit {0}) Fault) → Holds told profile file
    → Gives ended (names_by (profile_in file) profile demo) told now → LeavesFiles (IsPlayVerdict told profile demo) told now ended
play_given told now profile demo file ended holds gives =
    let other = held told demo in
    let names = names_by (profile_in file) profile demo in (
      demo_played names (played file other.0),
      (file, other.0, holds, other.1, refl),
      played_touches ended names (played file other.0) told now gives,
    )

pub play_gives_profile : (told now : Option Told) (profile demo : List ℕ) (e : Fault) → GetsFrom profile_in told profile (Err e)
    → Gives {A = Profile} (Err e) (profile ∷ []) told now → LeavesFiles (IsPlayVerdict told profile demo) told now (Err e)
play_gives_profile told now profile demo e gets gives = play_given told now profile demo gets.0 (Err e) gets.1 (profile_names gets.0 e profile demo told now gets.2 gives)

passed_given : (told now : Option Told) (profile demo : List ℕ) (by : Profile) (ended : Result (Unit {0}) Fault) → GetsFrom profile_in told profile (Ok by)
    → Gives ended (profile ∷ demo ∷ []) told now → LeavesFiles (IsPlayVerdict told profile demo) told now ended
passed_given told now profile demo by ended passes gives =
    play_given told now profile demo passes.0 ended passes.1
    (subst (λ (says : Result Profile Fault). Gives ended (names_by says profile demo) told now) (sym (got_ok (profile_in passes.0) by passes.2)) gives)

pub play_gives_demo : (told mid now : Option Told) (profile demo : List ℕ) (by : Profile) (e : Fault) → GetsFrom profile_in told profile (Ok by)
    → Gives (Ok by) (profile ∷ []) told mid → Gives {A = Unit {0}} (Err e) (demo ∷ []) mid now → LeavesFiles (IsPlayVerdict told profile demo) told now (Err e)
play_gives_demo told mid now profile demo by e passes first second =
    passed_given told now profile demo by (Err e) passes (elim second [
      | inl all ↦ inl (leaves_then told mid now (looked_up profile) (looked_up demo ∷ []) (gave by (profile ∷ []) told mid first) all)
      | inr early ↦ inr (early.0, first_then told mid now (looked_up profile) (looked_up demo ∷ []) (gave by (profile ∷ []) told mid first) early.1)
    ])

pub play_gives_all : (told mid found now : Option Told) (profile demo : List ℕ) (by : Profile) (file : ℕ) (ended : Result (Unit {0}) Fault) → GetsFrom profile_in told profile (Ok by)
    → Gives (Ok by) (profile ∷ []) told mid → Gives (Ok file) (demo ∷ []) mid found → OnlyAsks found now → LeavesFiles (IsPlayVerdict told profile demo) told now ended
play_gives_all told mid found now profile demo by file ended passes first second asks =
    passed_given told now profile demo by ended passes
    (inl (leaves_then told mid now (looked_up profile) (looked_up demo ∷ []) (gave by (profile ∷ []) told mid first) (leaves_asked mid found now (looked_up demo ∷ []) (gave file (demo ∷ []) mid found second) asks)))

-- ---- the file of a name

there : (contents : Option (List ℕ)) → IsSome contents → contents ≡ Some (unwrap_or contents [])
there None some = absurd cc
there (Some bytes) some = refl

pub found_so : (name : List ℕ) (told now : Option Told) (file : ℕ) → LooksUp told now name (Ok file) → Finds name told now (Ok file)
found_so name None now file looks = λ contents has. tt
found_so name (Some told) now file looks = λ contents has.
    let is : contents ≡ contents_at (after_given (after_named told name Lookup) name) file = subst (λ (m : Option Told). HasFrom m file 0 contents) looks.2 has in
    there (contents_of told.files name) looks.0
    ∙ ap (λ (bytes : List ℕ). Some bytes) (sym (is ∙ (ap (λ (n : ℕ). contents_at (after_given (after_named told name Lookup) name) n) looks.1 ∙ given_name told name)))

pub found_gives : (name : List ℕ) (told now : Option Told) (file : ℕ) → LooksUp told now name (Ok file) → LeavesTold told now (looked_up name ∷ []) []
unfolding after_acts
found_gives name None now file looks = looks
found_gives name (Some told) now file looks = (after_given (after_named told name Lookup) name, looks.2, record { named = refl; files = refl })

-- ---- causes

pub play_read_cause : (before now : ℕ) (e : DemoError) → DemoReadCause {T = Unit {0}} before now (Err e) → ReadCause {T = Unit {0}} before now (Err (demo_fault e))
play_read_cause before now demo.ReadFault cause = cause
play_read_cause before now demo.NoMemory cause = cause
play_read_cause before now demo.WriteFault cause = cause
play_read_cause before now (demo.Truncated at) cause = cause
play_read_cause before now (demo.BadLength at) cause = cause
play_read_cause before now (demo.BadNumber at) cause = cause
play_read_cause before now (demo.Message at why) cause = cause

pub play_write_cause : (before now : ℕ) (e : DemoError) → DemoWriteCause {T = Unit {0}} before now (Err e) → WriteCause before now (Err (demo_fault e))
play_write_cause before now demo.ReadFault cause = cause
play_write_cause before now demo.NoMemory cause = cause
play_write_cause before now demo.WriteFault cause = cause
play_write_cause before now (demo.Truncated at) cause = cause
play_write_cause before now (demo.BadLength at) cause = cause
play_write_cause before now (demo.BadNumber at) cause = cause
play_write_cause before now (demo.Message at why) cause = cause
