-- How a seek ends.
use Rattle.std.proofs.Common.{◌≡◌, ℕ, List, [], ◌∷◌, ◌++◌, map, length, Option, Some, None, Result, Ok, Err, refl, sym, ap, ap₂, subst, ◌∙◌, inl, inr}
use Rattle.std.specs.Prelude.{◌⊎◌, IfErr}
use Rattle.std.specs.Result.{result_map_both}
use Rattle.q3_bits.specs.ResultBind.{◌>>=◌}
use Rattle.q3_io.specs.Laws.{TextsFollow}
use Rattle.q3_io.specs.Told.{Told, Named, contents_of, contents_at, LooksUp}
use Rattle.q3_io.specs.Written.{Written}
use Rattle.q3_profile.specs.declared.profile.Profile.{Profile}
use Rattle.q3_clstate.specs.State.{AppliedState}
use Rattle.q3_demo.specs.Playing as demos
use Rattle.q3_demo.specs.Report.{state_text}
use Rattle.q3_demo.specs.Running.{OnlyAsks}
use Rattle.q3_index.specs.declared.error.IndexError.{IndexError}
use Rattle.q3_index.specs.declared.error.IndexError.TheVariants as opening
use Rattle.q3_index.specs.declared.error.SeekError.{SeekError}
use Rattle.q3_index.specs.declared.error.SeekError.TheVariants as seeking
use Rattle.q3_index.specs.Opening.{Heads, open_at}
use Rattle.q3_index.specs.Seeking.{seek_at}
use Rattle.q3_index.specs.Running.{IndexState, opened, Opens, Seeks}
use Rattle.q3_runs.specs.declared.fault.Fault.{Fault}
use Rattle.q3_runs.specs.declared.fault.Fault.TheVariants as faults
use Rattle.q3_runs.specs.Faults.{index_fault, seek_fault}
use Rattle.q3_runs.specs.Input.{Holds, looked_up, LooksUpTold, Gives}
use Rattle.q3_runs.specs.Verdict.{Verdict, all_first, reads_first, printing, settled, profile_in, seek_text, IsSeekFault, AnswersSeek, IsSeekVerdictBy, IsSeekVerdict, GetsFrom}
use Rattle.q3_runs.specs.Run.{Comes, Executes, LeavesFiles, PrintsAll}
use Rattle.q3_runs.proofs.Looking.{got_ok, gave, gave_first, leaves_then, first_then, settled_touches}
use Rattle.q3_runs.proofs.Ending.{refused_so, settled_memory, settled_reads, text_executes}
use Rattle.q3_runs.proofs.Early.{MayEnd, ends_early, leaves_early, outside_of}
use Rattle.q3_runs.proofs.Numbered.{two_found, leaves_asked}

-- ---- the verdict

abbrev all_names : List ℕ → List ℕ → List ℕ → List Named
all_names profile demo index = looked_up profile ∷ looked_up demo ∷ looked_up index ∷ []

-- some answer, whatever is told
some_sought : (told : Option Told) (by : Profile) (demo index : List ℕ) (number : ℕ) → (answer : Result (List ℕ) Fault) × AnswersSeek told by demo index number answer
some_sought None by demo index number = (Err faults.Read, inl (opening.ReadFault, refl))
some_sought (Some told) by demo index number = (seek_text by (contents_of told.files demo) (contents_of told.files index) number, refl)

-- the verdict of an answer, by a profile that passed
seek_verdict : (told : Option Told) (profile demo index : List ℕ) (number : ℕ) (by : Profile) (answer : Result (List ℕ) Fault) → GetsFrom profile_in told profile (Ok by)
    → AnswersSeek told by demo index number answer → IsSeekVerdict told profile demo index number (settled all_first (profile ∷ demo ∷ index ∷ []) answer)
seek_verdict told profile demo index number by answer passes is = (
  passes.0,
  passes.1,
  subst (λ (says : Result Profile Fault). IsSeekVerdictBy told says profile demo index number (settled all_first (profile ∷ demo ∷ index ∷ []) answer))
      (sym (got_ok (profile_in passes.0) by passes.2)) (answer, is, refl),
)

settled_names : (names : List (List ℕ)) (answer : Result (List ℕ) Fault) (first others : List Named) → map looked_up names ≡ first ++ others → (settled all_first names answer).named ≡ first ++ others
settled_names names (Ok text) first others is = is
settled_names names (Err e) first others is = is

-- a verdict by what a profile's file says, which something from outside may end
record AnySought (told : Option Told) (says : Result Profile Fault) (profile demo index : List ℕ) (number : ℕ) (first : List Named) : Type 0 where
  verdict : Verdict
  is : IsSeekVerdictBy told says profile demo index number verdict
  memory : Comes verdict.stops.memory
  reads : Comes verdict.stops.reads
  others : List Named
  names : verdict.named ≡ first ++ others

by_profile : (told : Option Told) (profile demo index : List ℕ) (number : ℕ) (by : Profile) (first others : List Named) → all_names profile demo index ≡ first ++ others
    → AnySought told (Ok by) profile demo index number first
by_profile told profile demo index number by first others all =
    let some = some_sought told by demo index number in
    let names = profile ∷ demo ∷ index ∷ [] in
    record {
      verdict = settled all_first names some.0;
      is = (some.0, some.1, refl);
      memory = settled_memory all_first names some.0 tt;
      reads = settled_reads all_first names some.0 tt;
      others = others;
      names = settled_names names some.0 first others all;
    }

by_any : (told : Option Told) (profile demo index : List ℕ) (number : ℕ) (says : Result Profile Fault) → AnySought told says profile demo index number (looked_up profile ∷ [])
by_any told profile demo index number (Ok by) = by_profile told profile demo index number by (looked_up profile ∷ []) (looked_up demo ∷ looked_up index ∷ []) refl
by_any told profile demo index number (Err cause) = record {
  verdict = printing reads_first (profile ∷ []) [] (Err cause);
  is = refl;
  memory = tt;
  reads = tt;
  others = [];
  names = refl;
}

any_may : (told : Option Told) (profile demo index : List ℕ) (number : ℕ) (file : Option (List ℕ)) (first : List Named) → Holds told profile file
    → AnySought told (profile_in file) profile demo index number first → MayEnd (IsSeekVerdict told profile demo index number) first
any_may told profile demo index number file first holds any = record {
  verdict = any.verdict;
  is = (file, holds, any.is);
  memory = any.memory;
  reads = any.reads;
  others = any.others;
  names = any.names;
}

seek_may : (told : Option Told) (profile demo index : List ℕ) (number : ℕ) (by : Profile) (first others : List Named) → GetsFrom profile_in told profile (Ok by)
    → all_names profile demo index ≡ first ++ others → MayEnd (IsSeekVerdict told profile demo index number) first
seek_may told profile demo index number by first others passes all =
    any_may told profile demo index number passes.0 first passes.1
    (subst (λ (says : Result Profile Fault). AnySought told says profile demo index number first) (sym (got_ok (profile_in passes.0) by passes.2))
    (by_profile told profile demo index number by first others all))

-- ---- before the index is opened

pub seek_unprofiled : (follow : TextsFollow) (told : Option Told) (profile demo index : List ℕ) (number : ℕ) (old : Option Written) (e : Fault) → GetsFrom profile_in told profile (Err e)
    → Executes (IsSeekVerdict told profile demo index number) old old (Err e)
seek_unprofiled follow told profile demo index number old e gets =
    elim gets.2 [
      | inl said ↦ refused_so follow (IsSeekVerdict told profile demo index number) old (printing reads_first (profile ∷ []) [] (Err e)) e
          (gets.0, gets.1, subst (λ (says : Result Profile Fault). IsSeekVerdictBy told says profile demo index number (printing reads_first (profile ∷ []) [] (Err e))) said refl) refl refl
      | inr outside ↦ ends_early follow (IsSeekVerdict told profile demo index number) (looked_up profile ∷ []) old e
          (any_may told profile demo index number gets.0 (looked_up profile ∷ []) gets.1 (by_any told profile demo index number (profile_in gets.0))) (outside_of {A = Profile} (Err e) e refl outside)
    ]

-- a file isn't there, or can't be looked up; or something else from outside ends it before its first line
pub seek_ended : (follow : TextsFollow) (told : Option Told) (profile demo index : List ℕ) (number : ℕ) (by : Profile) (old : Option Written) (e : Fault) → GetsFrom profile_in told profile (Ok by)
    → (e ≡ faults.NoMemory) ⊎ (e ≡ faults.Read) → Executes (IsSeekVerdict told profile demo index number) old old (Err e)
seek_ended follow told profile demo index number by old e passes outside =
    ends_early follow (IsSeekVerdict told profile demo index number) (looked_up profile ∷ []) old e
    (seek_may told profile demo index number by (looked_up profile ∷ []) (looked_up demo ∷ looked_up index ∷ []) passes refl) outside

-- ---- what the files say

-- where the answer is what the files of both numbers say
sought_so : (told t1 t2 t3 : Option Told) (profile demo index : List ℕ) (number : ℕ) (by : Profile) (first second : ℕ) (answer : Result (List ℕ) Fault) → LooksUpTold told t1 (profile ∷ [])
    → LooksUp t1 t2 demo (Ok first) → LooksUp t2 t3 index (Ok second) → IfErr answer IsSeekFault
    → ((now : Told) → t3 ≡ Some now → answer ≡ seek_text by (Some (contents_at now first)) (Some (contents_at now second)) number) → AnswersSeek told by demo index number answer
sought_so None t1 t2 t3 profile demo index number by first second answer leaves looks then fault says = fault
sought_so (Some told) t1 t2 t3 profile demo index number by first second answer leaves looks then fault says =
    let two = two_found told t1 t2 t3 (looked_up profile ∷ []) demo index first second leaves looks then in
    says two.0 two.1 ∙ ap₂ (λ (d i : Option (List ℕ)). seek_text by d i number) (sym two.2.of_demo) (sym two.2.of_index)

-- of an index's heads, and of what is sought in it
abbrev found_by : ℕ → Result demos.Played SeekError → Result (List ℕ) Fault
found_by number found = result_map_both (λ played. played) seek_fault found >>= λ played. Ok (state_text played.state number)

abbrev heads_by : Profile → List ℕ → List ℕ → ℕ → Result Heads IndexError → Result (List ℕ) Fault
heads_by by bytes made number whole =
    (result_map_both (λ heads. heads) index_fault whole >>= λ heads. result_map_both (λ played. played) seek_fault (seek_at by bytes made heads.records heads.checkpoints number))
    >>= λ played. Ok (state_text played.state number)

-- an index that isn't opened is refused, or something from outside ends it
pub open_ends : (e : IndexError) → ((index_fault e ≡ faults.NoMemory) ⊎ (index_fault e ≡ faults.Read)) ⊎ ((first second : ℕ) (whole : Result Heads IndexError) → Opens first second whole (Err e) → whole ≡ Err e)
open_ends opening.ReadFault = inl (inr refl)
open_ends opening.NoMemory = inl (inl refl)
open_ends (opening.NotIndex place) = inr (λ first second whole is. is)
open_ends (opening.OtherDemo kept found) = inr (λ first second whole is. is)
open_ends (opening.OtherWidth kept found) = inr (λ first second whole is. is)

pub seek_unopened : (follow : TextsFollow) (told t1 t2 t3 : Option Told) (profile demo index : List ℕ) (number : ℕ) (by : Profile) (first second : ℕ) (old : Option Written) (e : IndexError)
    → GetsFrom profile_in told profile (Ok by) → Gives (Ok by) (profile ∷ []) told t1 → LooksUp t1 t2 demo (Ok first) → LooksUp t2 t3 index (Ok second)
    → ((now : Told) → t3 ≡ Some now → Opens first second (open_at (length (contents_at now first)) by.mark by.entity.number_bits (contents_at now second)) (Err e))
    → Executes (IsSeekVerdict told profile demo index number) old old (Err (index_fault e))
seek_unopened follow told t1 t2 t3 profile demo index number by first second old e passes gives looks then opens =
    elim (open_ends e) [
      | inl outside ↦ seek_ended follow told profile demo index number by old (index_fault e) passes outside
      | inr same ↦
          let answer : Result (List ℕ) Fault = Err (index_fault e) in
          refused_so follow (IsSeekVerdict told profile demo index number) old (settled all_first (profile ∷ demo ∷ index ∷ []) answer) (index_fault e)
          (seek_verdict told profile demo index number by answer passes
          (sought_so told t1 t2 t3 profile demo index number by first second answer (gave by (profile ∷ []) told t1 gives) looks then (inl (e, refl))
          (λ now is. sym (ap (heads_by by (contents_at now first) (contents_at now second) number)
          (same first second (open_at (length (contents_at now first)) by.mark by.entity.number_bits (contents_at now second)) (opens now is)))))) refl refl
    ]

-- ---- what is sought

-- of an index that was opened, by what the files hold
pub record SoughtIn (by : Profile) (bytes made : List ℕ) (first second number : ℕ) (result : Result AppliedState SeekError) : Type 0 where
  pub heads : Heads
  pub opens : open_at (length bytes) by.mark by.entity.number_bits made ≡ Ok heads
  pub seeks : Seeks by (opened first second heads) bytes made number result

pub sought_of : (t3 t4 : Option Told) (by : Profile) (first second number : ℕ) (index : IndexState) (result : Result AppliedState SeekError)
    → ((now : Told) → t3 ≡ Some now → Opens first second (open_at (length (contents_at now first)) by.mark by.entity.number_bits (contents_at now second)) (Ok index)) → OnlyAsks t3 t4
    → ((now : Told) → t4 ≡ Some now → Seeks by index (contents_at now index.demo) (contents_at now index.index) number result)
    → (now : Told) → t3 ≡ Some now → SoughtIn by (contents_at now first) (contents_at now second) first second number result
sought_of t3 t4 by first second number index result opens asks seeks now is =
    let only = subst (λ (t : Option Told). OnlyAsks t t4) is asks in
    let there = opens now is in
    record {
      heads = there.0;
      opens = there.1;
      seeks = subst (λ (i : IndexState). Seeks by i (contents_at now i.demo) (contents_at now i.index) number result) there.2 (seeks (record now { asked = only.0 }) only.1);
    }

pub seek_ends : (e : SeekError) → ((seek_fault e ≡ faults.NoMemory) ⊎ (seek_fault e ≡ faults.Read))
    ⊎ ((by : Profile) (bytes made : List ℕ) (number : ℕ) (index : IndexState) → Seeks by index bytes made number (Err e) → seek_at by bytes made index.records index.checkpoints number ≡ Err e)
seek_ends seeking.ReadFault = inl (inr refl)
seek_ends seeking.NoMemory = inl (inl refl)
seek_ends (seeking.NotIndex place) = inr (λ by bytes made number index is. is)
seek_ends (seeking.PastEnd records) = inr (λ by bytes made number index is. is)
seek_ends (seeking.Demo e) = inr (λ by bytes made number index is. is)

-- what the files say then
found_so : (by : Profile) (bytes made : List ℕ) (number : ℕ) (heads : Heads) (found : Result demos.Played SeekError) → open_at (length bytes) by.mark by.entity.number_bits made ≡ Ok heads
    → seek_at by bytes made heads.records heads.checkpoints number ≡ found → seek_text by (Some bytes) (Some made) number ≡ found_by number found
found_so by bytes made number heads found opens is = ap (heads_by by bytes made number) opens ∙ ap (found_by number) is

pub seek_refused : (follow : TextsFollow) (told t1 t2 t3 t4 : Option Told) (profile demo index : List ℕ) (number : ℕ) (by : Profile) (first second : ℕ) (state : IndexState) (old : Option Written) (e : SeekError)
    → GetsFrom profile_in told profile (Ok by) → Gives (Ok by) (profile ∷ []) told t1 → LooksUp t1 t2 demo (Ok first) → LooksUp t2 t3 index (Ok second)
    → ((now : Told) → t3 ≡ Some now → Opens first second (open_at (length (contents_at now first)) by.mark by.entity.number_bits (contents_at now second)) (Ok state)) → OnlyAsks t3 t4
    → ((now : Told) → t4 ≡ Some now → Seeks by state (contents_at now state.demo) (contents_at now state.index) number (Err e))
    → Executes (IsSeekVerdict told profile demo index number) old old (Err (seek_fault e))
seek_refused follow told t1 t2 t3 t4 profile demo index number by first second state old e passes gives looks then opens asks sought_there =
    elim (seek_ends e) [
      | inl outside ↦ seek_ended follow told profile demo index number by old (seek_fault e) passes outside
      | inr same ↦
          let answer : Result (List ℕ) Fault = Err (seek_fault e) in
          refused_so follow (IsSeekVerdict told profile demo index number) old (settled all_first (profile ∷ demo ∷ index ∷ []) answer) (seek_fault e)
          (seek_verdict told profile demo index number by answer passes
          (sought_so told t1 t2 t3 profile demo index number by first second answer (gave by (profile ∷ []) told t1 gives) looks then (inr (e, refl))
          (λ now is.
          let so = sought_of t3 t4 by first second number state (Err e) opens asks sought_there now is in
          sym (found_so by (contents_at now first) (contents_at now second) number so.heads (Err e) so.opens
          (same by (contents_at now first) (contents_at now second) number (opened first second so.heads) so.seeks))))) refl refl
    ]

pub seek_printed : (told t1 t2 t3 t4 : Option Told) (profile demo index : List ℕ) (number : ℕ) (by : Profile) (first second : ℕ) (state : IndexState) (left : AppliedState) (old now : Option Written)
    (ended : Result (Unit {0}) Fault) → GetsFrom profile_in told profile (Ok by) → Gives (Ok by) (profile ∷ []) told t1 → LooksUp t1 t2 demo (Ok first) → LooksUp t2 t3 index (Ok second)
    → ((now : Told) → t3 ≡ Some now → Opens first second (open_at (length (contents_at now first)) by.mark by.entity.number_bits (contents_at now second)) (Ok state)) → OnlyAsks t3 t4
    → ((now : Told) → t4 ≡ Some now → Seeks by state (contents_at now state.demo) (contents_at now state.index) number (Ok left)) → PrintsAll (state_text left number) old now ended
    → Executes (IsSeekVerdict told profile demo index number) old now ended
seek_printed told t1 t2 t3 t4 profile demo index number by first second state left old now ended passes gives looks then opens asks sought_there prints =
    let answer : Result (List ℕ) Fault = Ok (state_text left number) in
    text_executes (IsSeekVerdict told profile demo index number) old now all_first (profile ∷ demo ∷ index ∷ []) (state_text left number) ended
    (seek_verdict told profile demo index number by answer passes
    (sought_so told t1 t2 t3 profile demo index number by first second answer (gave by (profile ∷ []) told t1 gives) looks then tt
    (λ now is.
    let so = sought_of t3 t4 by first second number state (Ok left) opens asks sought_there now is in
    let is_left : left ≡ so.seeks.0.state = so.seeks.2 in
    ap (λ (s : AppliedState). Ok (state_text s number)) is_left
    ∙ sym (found_so by (contents_at now first) (contents_at now second) number so.heads (Ok so.seeks.0) so.opens so.seeks.1)))) prints

-- ---- what it leaves of the files

pub seek_gives_profile : (told now : Option Told) (profile demo index : List ℕ) (number : ℕ) (e : Fault) → GetsFrom profile_in told profile (Err e)
    → Gives {A = Profile} (Err e) (profile ∷ []) told now → LeavesFiles (IsSeekVerdict told profile demo index number) told now (Err e)
seek_gives_profile told now profile demo index number e gets gives =
    elim gets.2 [
      | inl said ↦ (
        printing reads_first (profile ∷ []) [] (Err e),
        (gets.0, gets.1, subst (λ (says : Result Profile Fault). IsSeekVerdictBy told says profile demo index number (printing reads_first (profile ∷ []) [] (Err e))) said refl),
        gives,
      )
      | inr outside ↦ leaves_early told now (IsSeekVerdict told profile demo index number) (looked_up profile ∷ []) e
          (any_may told profile demo index number gets.0 (looked_up profile ∷ []) gets.1 (by_any told profile demo index number (profile_in gets.0))) (outside_of {A = Profile} (Err e) e refl outside)
          (gave_first {A = Profile} (Err e) (profile ∷ []) told now gives)
    ]

pub seek_gives_demo : (told t1 now : Option Told) (profile demo index : List ℕ) (number : ℕ) (by : Profile) (e : Fault) → GetsFrom profile_in told profile (Ok by) → Gives (Ok by) (profile ∷ []) told t1
    → Gives {A = ℕ} (Err e) (demo ∷ []) t1 now → e ≡ faults.Read → LeavesFiles (IsSeekVerdict told profile demo index number) told now (Err e)
seek_gives_demo told t1 now profile demo index number by e passes one two read =
    let named = looked_up profile ∷ looked_up demo ∷ [] in
    leaves_early told now (IsSeekVerdict told profile demo index number) named e
    (seek_may told profile demo index number by named (looked_up index ∷ []) passes refl) (inr read)
    (first_then told t1 now (looked_up profile) (looked_up demo ∷ []) (gave by (profile ∷ []) told t1 one) (gave_first {A = ℕ} (Err e) (demo ∷ []) t1 now two))

pub seek_gives_index : (told t1 t2 now : Option Told) (profile demo index : List ℕ) (number : ℕ) (by : Profile) (first : ℕ) (e : Fault) → GetsFrom profile_in told profile (Ok by)
    → Gives (Ok by) (profile ∷ []) told t1 → Gives (Ok first) (demo ∷ []) t1 t2 → Gives {A = ℕ} (Err e) (index ∷ []) t2 now → e ≡ faults.Read
    → LeavesFiles (IsSeekVerdict told profile demo index number) told now (Err e)
seek_gives_index told t1 t2 now profile demo index number by first e passes one two three read =
    leaves_early told now (IsSeekVerdict told profile demo index number) (all_names profile demo index) e
    (seek_may told profile demo index number by (all_names profile demo index) [] passes refl) (inr read)
    (first_then told t1 now (looked_up profile) (looked_up demo ∷ looked_up index ∷ []) (gave by (profile ∷ []) told t1 one)
    (first_then t1 t2 now (looked_up demo) (looked_up index ∷ []) (gave first (demo ∷ []) t1 t2 two) (gave_first {A = ℕ} (Err e) (index ∷ []) t2 now three)))

pub seek_gives_all : (told t1 t2 t3 now : Option Told) (profile demo index : List ℕ) (number : ℕ) (by : Profile) (first second : ℕ) (ended : Result (Unit {0}) Fault) → GetsFrom profile_in told profile (Ok by)
    → Gives (Ok by) (profile ∷ []) told t1 → Gives (Ok first) (demo ∷ []) t1 t2 → Gives (Ok second) (index ∷ []) t2 t3 → OnlyAsks t3 now
    → LeavesFiles (IsSeekVerdict told profile demo index number) told now ended
seek_gives_all told t1 t2 t3 now profile demo index number by first second ended passes one two three asks =
    let some = some_sought told by demo index number in
    let left = leaves_asked told t3 now (all_names profile demo index)
    (leaves_then told t1 t3 (looked_up profile) (looked_up demo ∷ looked_up index ∷ []) (gave by (profile ∷ []) told t1 one)
    (leaves_then t1 t2 t3 (looked_up demo) (looked_up index ∷ []) (gave first (demo ∷ []) t1 t2 two) (gave second (index ∷ []) t2 t3 three))) asks in (
      settled all_first (profile ∷ demo ∷ index ∷ []) some.0,
      seek_verdict told profile demo index number by some.0 passes some.1,
      settled_touches ended all_first (profile ∷ demo ∷ index ∷ []) some.0 told now (inl left),
    )

pub asks_then : (t3 t4 t5 : Option Told) → OnlyAsks t3 t4 → OnlyAsks t4 t5 → OnlyAsks t3 t5
asks_then None t4 t5 first second = subst (λ (t : Option Told). OnlyAsks t t5) first second
asks_then (Some told) t4 t5 first second =
    let then = subst (λ (t : Option Told). OnlyAsks t t5) first.1 second in (then.0, then.1)
