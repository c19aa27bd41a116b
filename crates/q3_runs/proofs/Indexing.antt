-- How the making of an index ends.
use Rattle.std.proofs.Common.{◌≡◌, ◌≢◌, ℕ, List, [], ◌∷◌, ◌++◌, length, Option, Some, None, Result, Ok, Err, refl, sym, ap, subst, ◌∙◌, append_assoc, inl, inr}
use Rattle.std.specs.Prelude.{◌⊎◌}
use Rattle.std.specs.Result.{result_map_both}
use Rattle.std.proofs.lemmas.List.{append-nil}
use Rattle.q3_bits.specs.ResultBind.{◌>>=◌}
use Rattle.q3_io.specs.declared.sink.Failed.{Failed}
use Rattle.q3_io.specs.Acts.{FileAct, Makes, Extends}
use Rattle.q3_io.specs.Laws.{TextsFollow}
use Rattle.q3_io.specs.Told.{Told, Named, Create, contents_of, contents_at, LooksUp, Creates}
use Rattle.q3_io.specs.Written.{Written}
use Rattle.q3_profile.specs.declared.profile.Profile.{Profile}
use Rattle.q3_demo.specs.declared.error.DemoError.{DemoError}
use Rattle.q3_demo.specs.declared.error.DemoError.TheVariants as errors
use Rattle.q3_demo.specs.Playing as demos
use Rattle.q3_index.specs.declared.build.Built.{Built}
use Rattle.q3_index.specs.Text as indexes
use Rattle.q3_index.specs.Running.{Puts, LeavesIndex, BeginsIndex, Builds, BuildCause, BuildWrites}
use Rattle.q3_runs.specs.declared.fault.Fault.{Fault}
use Rattle.q3_runs.specs.declared.fault.Fault.TheVariants as faults
use Rattle.q3_runs.specs.Faults.{build_fault, IsOutside, ReadCause, WriteCause, FileCause}
use Rattle.q3_runs.specs.Input.{IsFront, Holds, looked_up, created, Leaves, LeavesTold, LeavesFirst, LooksUpTold, Gives}
use Rattle.q3_runs.specs.Verdict.{Verdict, reads_first, printing, profile_in, Indexing, indexing_of, indexing_in, AnswersIndex, index_acts, indexed_text, demo_indexed, IsIndexVerdictBy, IsIndexVerdict, GetsFrom}
use Rattle.q3_runs.specs.Run.{Comes, Executes, LeavesFiles, PrintsAll}
use Rattle.q3_runs.proofs.Acting.{first_left}
use Rattle.q3_runs.proofs.Looking.{got_ok, gave, gave_first, leaves_then, first_then}
use Rattle.q3_runs.proofs.Ending.{refused_so, fails_writing}
use Rattle.q3_runs.proofs.Early.{MayEnd, ends_early, leaves_early, is_outside, outside_of, printed_so}
use Rattle.q3_runs.proofs.Numbered.{MadeAfter, made_after, untold_made, puts_leave, none_left, found_one, made_none}
use Rattle.q3_runs.proofs.Refusing.{OfDemo, Refuses, all_refuses}

-- ---- the verdict

abbrev both : List ℕ → List ℕ → List Named
both profile demo = looked_up profile ∷ looked_up demo ∷ []

some_indexed : (told : Option Told) (by : Profile) (demo : List ℕ) → (answer : Result Indexing DemoError) × AnswersIndex told by demo answer
some_indexed None by demo = (Err errors.NoMemory, tt)
some_indexed (Some told) by demo = (indexing_in by (contents_of told.files demo), refl)

index_verdict : (told : Option Told) (profile demo index : List ℕ) (by : Profile) (answer : Result Indexing DemoError) → GetsFrom profile_in told profile (Ok by) → AnswersIndex told by demo answer
    → IsIndexVerdict told profile demo index (demo_indexed (profile ∷ demo ∷ []) index answer)
index_verdict told profile demo index by answer passes is = (
  passes.0,
  passes.1,
  subst (λ (says : Result Profile Fault). IsIndexVerdictBy told says profile demo index (demo_indexed (profile ∷ demo ∷ []) index answer))
      (sym (got_ok (profile_in passes.0) by passes.2)) (answer, is, refl),
)

indexed_memory : (names : List (List ℕ)) (index : List ℕ) (answer : Result Indexing DemoError) → Comes (demo_indexed names index answer).stops.memory
indexed_memory names index (Ok made) = tt
indexed_memory names index (Err e) = tt

indexed_reads : (names : List (List ℕ)) (index : List ℕ) (answer : Result Indexing DemoError) → Comes (demo_indexed names index answer).stops.reads
indexed_reads names index (Ok made) = tt
indexed_reads names index (Err e) = tt

pub indexed_writes : (names : List (List ℕ)) (index : List ℕ) (answer : Result Indexing DemoError) → Comes (demo_indexed names index answer).stops.writes
indexed_writes names index (Ok made) = tt
indexed_writes names index (Err e) = tt

-- a verdict by what a profile's file says, which something from outside may end
record AnyIndexed (told : Option Told) (says : Result Profile Fault) (profile demo index : List ℕ) (first : List Named) : Type 0 where
  verdict : Verdict
  is : IsIndexVerdictBy told says profile demo index verdict
  memory : Comes verdict.stops.memory
  reads : Comes verdict.stops.reads
  others : List Named
  names : verdict.named ≡ first ++ others

by_profile : (told : Option Told) (profile demo index : List ℕ) (by : Profile) (first others : List Named) → both profile demo ≡ first ++ others → AnyIndexed told (Ok by) profile demo index first
by_profile told profile demo index by first others all =
    let some = some_indexed told by demo in
    let names = profile ∷ demo ∷ [] in
    let makes_so = created (index_acts index some.0) in
    record {
      verdict = demo_indexed names index some.0;
      is = (some.0, some.1, refl);
      memory = indexed_memory names index some.0;
      reads = indexed_reads names index some.0;
      others = others ++ makes_so;
      names = ap (λ (given : List Named). given ++ makes_so) all ∙ append_assoc first others makes_so;
    }

by_any : (told : Option Told) (profile demo index : List ℕ) (says : Result Profile Fault) → AnyIndexed told says profile demo index (looked_up profile ∷ [])
by_any told profile demo index (Ok by) = by_profile told profile demo index by (looked_up profile ∷ []) (looked_up demo ∷ []) refl
by_any told profile demo index (Err cause) = record {
  verdict = printing reads_first (profile ∷ []) [] (Err cause);
  is = refl;
  memory = tt;
  reads = tt;
  others = [];
  names = refl;
}

any_may : (told : Option Told) (profile demo index : List ℕ) (file : Option (List ℕ)) (first : List Named) → Holds told profile file → AnyIndexed told (profile_in file) profile demo index first
    → MayEnd (IsIndexVerdict told profile demo index) first
any_may told profile demo index file first holds any = record {
  verdict = any.verdict;
  is = (file, holds, any.is);
  memory = any.memory;
  reads = any.reads;
  others = any.others;
  names = any.names;
}

index_may : (told : Option Told) (profile demo index : List ℕ) (by : Profile) (first others : List Named) → GetsFrom profile_in told profile (Ok by) → both profile demo ≡ first ++ others
    → MayEnd (IsIndexVerdict told profile demo index) first
index_may told profile demo index by first others passes all =
    any_may told profile demo index passes.0 first passes.1
    (subst (λ (says : Result Profile Fault). AnyIndexed told says profile demo index first) (sym (got_ok (profile_in passes.0) by passes.2)) (by_profile told profile demo index by first others all))

-- ---- what comes from outside

pub index_unprofiled : (follow : TextsFollow) (told : Option Told) (profile demo index : List ℕ) (old : Option Written) (e : Fault) → GetsFrom profile_in told profile (Err e)
    → Executes (IsIndexVerdict told profile demo index) old old (Err e)
index_unprofiled follow told profile demo index old e gets =
    elim gets.2 [
      | inl said ↦ refused_so follow (IsIndexVerdict told profile demo index) old (printing reads_first (profile ∷ []) [] (Err e)) e
          (gets.0, gets.1, subst (λ (says : Result Profile Fault). IsIndexVerdictBy told says profile demo index (printing reads_first (profile ∷ []) [] (Err e))) said refl) refl refl
      | inr outside ↦ ends_early follow (IsIndexVerdict told profile demo index) (looked_up profile ∷ []) old e
          (any_may told profile demo index gets.0 (looked_up profile ∷ []) gets.1 (by_any told profile demo index (profile_in gets.0))) (outside_of {A = Profile} (Err e) e refl outside)
    ]

pub index_ended : (follow : TextsFollow) (told : Option Told) (profile demo index : List ℕ) (by : Profile) (old : Option Written) (e : Fault) → GetsFrom profile_in told profile (Ok by)
    → (e ≡ faults.NoMemory) ⊎ (e ≡ faults.Read) → Executes (IsIndexVerdict told profile demo index) old old (Err e)
index_ended follow told profile demo index by old e passes outside =
    ends_early follow (IsIndexVerdict told profile demo index) (looked_up profile ∷ []) old e
    (index_may told profile demo index by (looked_up profile ∷ []) (looked_up demo ∷ []) passes refl) outside

-- its file can't be made, or written
pub index_unwritten : (follow : TextsFollow) (told : Option Told) (profile demo index : List ℕ) (by : Profile) (old : Option Written) (e : Fault) → GetsFrom profile_in told profile (Ok by)
    → e ≡ faults.FileWrite → Executes (IsIndexVerdict told profile demo index) old old (Err e)
index_unwritten follow told profile demo index by old e passes is =
    let some = some_indexed told by demo in
    let names = profile ∷ demo ∷ [] in
    subst (λ (f : Fault). Executes (IsIndexVerdict told profile demo index) old old (Err f)) (sym is)
    (fails_writing follow (IsIndexVerdict told profile demo index) old (demo_indexed names index some.0) (index_verdict told profile demo index by some.0 passes some.1)
    (indexed_writes names index some.0))

-- ---- what the demo's file says

indexed_as : Profile → List ℕ → Result (List ℕ) DemoError → Result Indexing DemoError
indexed_as by bytes made = result_map_both (λ (index : List ℕ). record { index = index; records = length (demos.records_of by bytes) }) (λ e. e) made

-- the files of both numbers say the answer
indexed_so : (told t1 t2 t3 : Option Told) (profile demo index : List ℕ) (by : Profile) (first second : ℕ) (answer : Result Indexing DemoError) → index ≢ demo → LooksUpTold told t1 (profile ∷ [])
    → LooksUp t1 t2 demo (Ok first) → Creates t2 t3 index (Ok second) → ((now : Told) → t3 ≡ Some now → answer ≡ indexing_of by (contents_at now first)) → AnswersIndex told by demo answer
indexed_so None t1 t2 t3 profile demo index by first second answer apart leaves looks makes_it says = tt
indexed_so (Some told) t1 t2 t3 profile demo index by first second answer apart leaves looks makes_it says =
    let made = made_after told t1 t2 t3 (looked_up profile ∷ []) demo index first second apart leaves looks makes_it in
    says made.0 made.1 ∙ ap (indexing_in by) (sym made.2.of_demo)

-- a build that failed was refused by what the demo holds, or by something from outside
pub record IsRefused (e : DemoError) : Type 0 where
  pub acts : (index : List ℕ) → index_acts index (Err e) ≡ Makes index ∷ []
  pub says : (by : Profile) (now : Told) (first second : ℕ) (t4 : Option Told) → Builds by now first second t4 (Err e) → (indexes.index_of by (contents_at now first) ≡ Err e) × LeavesIndex now t4 second []

pub record IsBroken (e : DemoError) : Type 0 where
  pub fault : ((build_fault e ≡ faults.NoMemory) ⊎ (build_fault e ≡ faults.Read)) ⊎ (build_fault e ≡ faults.FileWrite)
  pub begins : (by : Profile) (now : Told) (first second : ℕ) (t4 : Option Told) → Builds by now first second t4 (Err e) → BeginsIndex by now first second t4

pub build_ends : (e : DemoError) → IsBroken e ⊎ IsRefused e
build_ends errors.ReadFault = inl (record { fault = inl (inr refl); begins = λ by now first second t4 is. is })
build_ends errors.NoMemory = inl (record { fault = inl (inl refl); begins = λ by now first second t4 is. is })
build_ends errors.WriteFault = inl (record { fault = inr refl; begins = λ by now first second t4 is. is })
build_ends (errors.Truncated at) = inr (record { acts = λ index. refl; says = λ by now first second t4 is. is })
build_ends (errors.BadLength at) = inr (record { acts = λ index. refl; says = λ by now first second t4 is. is })
build_ends (errors.BadNumber at) = inr (record { acts = λ index. refl; says = λ by now first second t4 is. is })
build_ends (errors.Message at cause) = inr (record { acts = λ index. refl; says = λ by now first second t4 is. is })

refused_is : (told t1 t2 t3 t4 : Option Told) (profile demo index : List ℕ) (by : Profile) (first second : ℕ) (e : DemoError) → index ≢ demo → LooksUpTold told t1 (profile ∷ [])
    → LooksUp t1 t2 demo (Ok first) → Creates t2 t3 index (Ok second) → IsRefused e → ((now : Told) → t3 ≡ Some now → Builds by now first second t4 (Err e)) → AnswersIndex told by demo (Err e)
unfolding indexed_as
refused_is told t1 t2 t3 t4 profile demo index by first second e apart leaves looks makes_it refused builds =
    indexed_so told t1 t2 t3 profile demo index by first second (Err e) apart leaves looks makes_it
    (λ now is. sym (ap (indexed_as by (contents_at now first)) (refused.says by now first second t4 (builds now is)).0))

pub index_refused : (follow : TextsFollow) (told t1 t2 t3 t4 : Option Told) (profile demo index : List ℕ) (by : Profile) (first second : ℕ) (old : Option Written) (e : DemoError) → index ≢ demo
    → GetsFrom profile_in told profile (Ok by) → Gives (Ok by) (profile ∷ []) told t1 → LooksUp t1 t2 demo (Ok first) → Creates t2 t3 index (Ok second)
    → ((now : Told) → t3 ≡ Some now → Builds by now first second t4 (Err e)) → Executes (IsIndexVerdict told profile demo index) old old (Err (build_fault e))
index_refused follow told t1 t2 t3 t4 profile demo index by first second old e apart passes gives looks makes_it builds =
    elim (build_ends e) [
      | inl broken ↦ elim broken.fault [
        | inl outside ↦ index_ended follow told profile demo index by old (build_fault e) passes outside
        | inr written ↦ index_unwritten follow told profile demo index by old (build_fault e) passes written
      ]
      | inr refused ↦ refused_so follow (IsIndexVerdict told profile demo index) old (demo_indexed (profile ∷ demo ∷ []) index (Err e)) (build_fault e)
          (index_verdict told profile demo index by (Err e) passes
          (refused_is told t1 t2 t3 t4 profile demo index by first second e apart (gave by (profile ∷ []) told t1 gives) looks makes_it refused builds)) refl refl
    ]

-- the answer of an index that was made
made_answer : Told → ℕ → Profile → Built → Result Indexing DemoError
made_answer now first by built = Ok (record { index = indexes.index_text by (contents_at now first); records = built.records })

made_of : (by : Profile) (now : Told) (first second : ℕ) (t4 : Option Told) (built : Built) → Builds by now first second t4 (Ok built) → made_answer now first by built ≡ indexing_of by (contents_at now first)
unfolding made_answer indexed_as
made_of by now first second t4 built builds =
    ap (λ (n : ℕ). Ok (record { index = indexes.index_text by (contents_at now first); records = n })) builds.2 ∙ sym (ap (indexed_as by (contents_at now first)) builds.0)

-- what was made, where it is told or not
record Made (told : Option Told) (by : Profile) (demo : List ℕ) (built : Built) : Type 0 where
  made : Indexing
  is : AnswersIndex told by demo (Ok made)
  records : made.records ≡ built.records

was_made : (told t1 t2 t3 t4 : Option Told) (profile demo index : List ℕ) (by : Profile) (first second : ℕ) (built : Built) → index ≢ demo → LooksUpTold told t1 (profile ∷ [])
    → LooksUp t1 t2 demo (Ok first) → Creates t2 t3 index (Ok second) → ((now : Told) → t3 ≡ Some now → Builds by now first second t4 (Ok built)) → Made told by demo built
unfolding made_answer
was_made None t1 t2 t3 t4 profile demo index by first second built apart leaves looks makes_it builds = record { made = record { index = []; records = built.records }; is = tt; records = refl }
was_made (Some told) t1 t2 t3 t4 profile demo index by first second built apart leaves looks makes_it builds =
    let behind = made_after told t1 t2 t3 (looked_up profile ∷ []) demo index first second apart leaves looks makes_it in
    record {
      made = record { index = indexes.index_text by (contents_at behind.0 first); records = built.records };
      is = made_of by behind.0 first second t4 built (builds behind.0 behind.1) ∙ ap (indexing_in by) (sym behind.2.of_demo);
      records = refl;
    }

pub index_printed : (told t1 t2 t3 t4 : Option Told) (profile demo index : List ℕ) (by : Profile) (first second : ℕ) (built : Built) (old now : Option Written) (ended : Result (Unit {0}) Fault) → index ≢ demo
    → GetsFrom profile_in told profile (Ok by) → Gives (Ok by) (profile ∷ []) told t1 → LooksUp t1 t2 demo (Ok first) → Creates t2 t3 index (Ok second)
    → ((now : Told) → t3 ≡ Some now → Builds by now first second t4 (Ok built)) → PrintsAll (indexed_text built.records) old now ended
    → Executes (IsIndexVerdict told profile demo index) old now ended
index_printed told t1 t2 t3 t4 profile demo index by first second built old now ended apart passes gives looks makes_it builds prints =
    let made = was_made told t1 t2 t3 t4 profile demo index by first second built apart (gave by (profile ∷ []) told t1 gives) looks makes_it builds in
    printed_so (IsIndexVerdict told profile demo index) old now (demo_indexed (profile ∷ demo ∷ []) index (Ok made.made)) ended
    (index_verdict told profile demo index by (Ok made.made) passes made.is) refl
    (subst (λ (n : ℕ). PrintsAll (indexed_text n) old now ended) (sym made.records) prints)

-- ---- what it leaves of the files

pub index_gives_profile : (told now : Option Told) (profile demo index : List ℕ) (e : Fault) → GetsFrom profile_in told profile (Err e) → Gives {A = Profile} (Err e) (profile ∷ []) told now
    → LeavesFiles (IsIndexVerdict told profile demo index) told now (Err e)
index_gives_profile told now profile demo index e gets gives =
    elim gets.2 [
      | inl said ↦ (
        printing reads_first (profile ∷ []) [] (Err e),
        (gets.0, gets.1, subst (λ (says : Result Profile Fault). IsIndexVerdictBy told says profile demo index (printing reads_first (profile ∷ []) [] (Err e))) said refl),
        gives,
      )
      | inr outside ↦ leaves_early told now (IsIndexVerdict told profile demo index) (looked_up profile ∷ []) e
          (any_may told profile demo index gets.0 (looked_up profile ∷ []) gets.1 (by_any told profile demo index (profile_in gets.0))) (outside_of {A = Profile} (Err e) e refl outside)
          (gave_first {A = Profile} (Err e) (profile ∷ []) told now gives)
    ]

pub index_gives_demo : (told t1 now : Option Told) (profile demo index : List ℕ) (by : Profile) (e : Fault) → GetsFrom profile_in told profile (Ok by) → Gives (Ok by) (profile ∷ []) told t1
    → Gives {A = ℕ} (Err e) (demo ∷ []) t1 now → e ≡ faults.Read → LeavesFiles (IsIndexVerdict told profile demo index) told now (Err e)
index_gives_demo told t1 now profile demo index by e passes one two read =
    leaves_early told now (IsIndexVerdict told profile demo index) (both profile demo) e
    (index_may told profile demo index by (both profile demo) [] passes refl) (inr read)
    (first_then told t1 now (looked_up profile) (looked_up demo ∷ []) (gave by (profile ∷ []) told t1 one) (gave_first {A = ℕ} (Err e) (demo ∷ []) t1 now two))

-- of a demo that is there the index is made first
not_reading : (ending : Result (Unit {0}) DemoError) → Refuses ending → ending ≡ Err errors.ReadFault → ⊥
not_reading (Ok x) so is = cc
not_reading (Err e) so is = let same : e ≡ errors.ReadFault = cc in subst OfDemo same so

record BeginsSo (index : List ℕ) (answer : Result Indexing DemoError) : Type 0 where
  rest : List FileAct
  acts : index_acts index answer ≡ Makes index ∷ rest
  none : created rest ≡ []

acts_begin : (index bytes : List ℕ) (by : Profile) (ending : Result (Unit {0}) DemoError) → Refuses ending
    → BeginsSo index (indexed_as by bytes (ending >>= λ none. Ok (indexes.index_text by bytes)))
unfolding created indexed_as
acts_begin index bytes by (Ok x) so = record { rest = Extends index (indexes.index_text by bytes) ∷ []; acts = refl; none = refl }
acts_begin index bytes by (Err errors.ReadFault) so = absurd so
acts_begin index bytes by (Err errors.NoMemory) so = absurd so
acts_begin index bytes by (Err errors.WriteFault) so = absurd so
acts_begin index bytes by (Err (errors.Truncated at)) so = record { rest = []; acts = refl; none = refl }
acts_begin index bytes by (Err (errors.BadLength at)) so = record { rest = []; acts = refl; none = refl }
acts_begin index bytes by (Err (errors.BadNumber at)) so = record { rest = []; acts = refl; none = refl }
acts_begin index bytes by (Err (errors.Message at cause)) so = record { rest = []; acts = refl; none = refl }

begins_so : (told : Told) (demo index bytes : List ℕ) (by : Profile) → contents_of told.files demo ≡ Some bytes → BeginsSo index (indexing_in by (contents_of told.files demo))
unfolding indexed_as
begins_so told demo index bytes by holds =
    subst (λ (file : Option (List ℕ)). BeginsSo index (indexing_in by file)) (sym holds) (acts_begin index bytes by (demos.play_of by bytes).ending (all_refuses by bytes))

both_looked : (told t1 t2 : Option Told) (profile demo : List ℕ) (by : Profile) (first : ℕ) → Gives (Ok by) (profile ∷ []) told t1 → Gives (Ok first) (demo ∷ []) t1 t2 → LeavesTold told t2 (both profile demo) []
both_looked told t1 t2 profile demo by first one two =
    leaves_then told t1 t2 (looked_up profile) (looked_up demo ∷ []) (gave by (profile ∷ []) told t1 one) (gave first (demo ∷ []) t1 t2 two)

-- where nothing is told, nothing is told after it
untold_gives : (profile demo index : List ℕ) (by : Profile) (ended : Result (Unit {0}) Fault) (now : Option Told) → GetsFrom profile_in None profile (Ok by) → now ≡ None
    → LeavesFiles (IsIndexVerdict None profile demo index) None now ended
untold_gives profile demo index by ended now passes none =
    let some = some_indexed None by demo in
    (demo_indexed (profile ∷ demo ∷ []) index some.0, index_verdict None profile demo index by some.0 passes some.1, inl none)

-- its file can't be made
pub index_gives_none : (told t1 t2 now : Option Told) (profile demo index : List ℕ) (by : Profile) (first : ℕ) (f : Failed) (e : Fault) → GetsFrom profile_in told profile (Ok by)
    → Gives (Ok by) (profile ∷ []) told t1 → Gives (Ok first) (demo ∷ []) t1 t2 → LooksUp t1 t2 demo (Ok first) → Creates t2 now index (Err f) → e ≡ faults.FileWrite
    → LeavesFiles (IsIndexVerdict told profile demo index) told now (Err e)
index_gives_none None t1 t2 now profile demo index by first f e passes one two looks makes_it is =
    untold_gives profile demo index by (Err e) now passes
    (subst (λ (t : Option Told). Creates t now index (Err f)) (both_looked None t1 t2 profile demo by first one two) makes_it)
index_gives_none (Some told) t1 t2 now profile demo index by first f e passes one two looks makes_it is =
    let bytes = found_one told t1 t2 (looked_up profile ∷ []) demo first (gave by (profile ∷ []) (Some told) t1 one) looks in
    let answer = indexing_in by (contents_of told.files demo) in
    let begins = begins_so told demo index bytes.0 by bytes.1 in (
      demo_indexed (profile ∷ demo ∷ []) index answer,
      index_verdict (Some told) profile demo index by answer passes refl,
      inr (
        subst IsOutside (sym is) tt,
        first_left (Some told) t2 now (both profile demo) (index_acts index answer) (Makes index ∷ []) begins.rest (Err f) (both_looked (Some told) t1 t2 profile demo by first one two)
            (made_none t2 now index f makes_it) begins.acts,
      ),
    )

-- the names that are given, where it is made
made_names : List ℕ → List ℕ → List ℕ → List Named
made_names profile demo index = looked_up profile ∷ looked_up demo ∷ record { name = index; call = Create } ∷ []

named_so : (profile demo index : List ℕ) (acts rest : List FileAct) → acts ≡ Makes index ∷ rest → created rest ≡ [] → made_names profile demo index ≡ both profile demo ++ created acts
unfolding created made_names
named_so profile demo index acts rest is none = sym (ap (λ (all : List FileAct). both profile demo ++ created all) is
    ∙ ap (λ (others : List Named). looked_up profile ∷ looked_up demo ∷ record { name = index; call = Create } ∷ others) none)

-- a front of it was written, of none that is refused
begun_leaves : (told now : Told) (t4 : Option Told) (profile demo index : List ℕ) (by : Profile) (first second : ℕ) → MadeAfter told now (looked_up profile ∷ []) demo index first second
    → BeginsIndex by now first second t4
    → LeavesFirst (Some told) t4 (both profile demo ++ created (index_acts index (indexing_in by (contents_of told.files demo)))) (index_acts index (indexing_in by (contents_of told.files demo)))
unfolding made_names indexed_as
begun_leaves told now None profile demo index by first second made begins = absurd begins.3
begun_leaves told now (Some after) profile demo index by first second made begins =
    let bytes = contents_at now first in
    let answer = indexing_in by (contents_of told.files demo) in
    let so = begins_so told demo index bytes by made.of_demo in
    let acts = index_acts index answer in
    let names = named_so profile demo index acts so.rest so.acts so.none in
    let front : IsFront (made_names profile demo index) (both profile demo ++ created acts) = ([], append-nil (made_names profile demo index) ∙ names) in
    elim begins.4 [
      | inl none ↦ (
        made_names profile demo index,
        Makes index ∷ [],
        front,
        inl (so.rest, sym so.acts),
        (after, refl, none_left told now after (looked_up profile ∷ []) demo index first second made (subst (λ (b : List ℕ). Puts now after second b) none begins.3)),
      )
      | inr whole ↦ (
        made_names profile demo index,
        Makes index ∷ Extends index begins.0 ∷ [],
        front,
        inr (
          Makes index ∷ [],
          index,
          begins.0,
          indexes.index_text by bytes,
          refl,
          (begins.1, begins.2),
          (
            [],
            sym (ap (index_acts index) (ap (indexing_in by) made.of_demo ∙ ap (indexed_as by bytes) whole)),
          ),
        ),
        (after, refl, puts_leave told now after (looked_up profile ∷ []) demo index begins.0 first second made begins.3),
      )
    ]

-- something from outside ended it
index_broken : (told t1 t2 t3 t4 : Option Told) (profile demo index : List ℕ) (by : Profile) (first second : ℕ) (e : Fault) → index ≢ demo → GetsFrom profile_in told profile (Ok by)
    → Gives (Ok by) (profile ∷ []) told t1 → LooksUp t1 t2 demo (Ok first) → Creates t2 t3 index (Ok second) → IsOutside e → (t3 ≡ None → t4 ≡ None)
    → ((now : Told) → t3 ≡ Some now → BeginsIndex by now first second t4) → LeavesFiles (IsIndexVerdict told profile demo index) told t4 (Err e)
index_broken None t1 t2 t3 t4 profile demo index by first second e apart passes gives looks makes_it outside untold begins =
    untold_gives profile demo index by (Err e) t4 passes (untold (untold_made t1 t2 t3 demo index first second (gave by (profile ∷ []) None t1 gives) looks makes_it))
index_broken (Some told) t1 t2 t3 t4 profile demo index by first second e apart passes gives looks makes_it outside untold begins =
    let behind = made_after told t1 t2 t3 (looked_up profile ∷ []) demo index first second apart (gave by (profile ∷ []) (Some told) t1 gives) looks makes_it in
    let answer = indexing_in by (contents_of told.files demo) in (
      demo_indexed (profile ∷ demo ∷ []) index answer,
      index_verdict (Some told) profile demo index by answer passes refl,
      inr (outside, begun_leaves told behind.0 t4 profile demo index by first second behind.2 (begins behind.0 behind.1)),
    )

broken_outside : (e : Fault) → ((e ≡ faults.NoMemory) ⊎ (e ≡ faults.Read)) ⊎ (e ≡ faults.FileWrite) → IsOutside e
broken_outside e is = elim is [ inl outside ↦ is_outside e outside | inr written ↦ subst IsOutside (sym written) tt ]

-- what it leaves that was made, or refused
index_left : (told : Told) (t1 t2 t3 t4 : Option Told) (profile demo index : List ℕ) (by : Profile) (ended : Result (Unit {0}) Fault) (answer : Result Indexing DemoError) (acts : List FileAct)
    → GetsFrom profile_in (Some told) profile (Ok by) → AnswersIndex (Some told) by demo answer → index_acts index answer ≡ acts → created acts ≡ record { name = index; call = Create } ∷ []
    → ((after : Told) × (t4 ≡ Some after) × Leaves told after (made_names profile demo index) acts) → LeavesFiles (IsIndexVerdict (Some told) profile demo index) (Some told) t4 ended
unfolding made_names
index_left told t1 t2 t3 t4 profile demo index by ended answer acts passes is are names leaves = (
  demo_indexed (profile ∷ demo ∷ []) index answer,
  index_verdict (Some told) profile demo index by answer passes is,
  inl (subst (λ (a : List FileAct). LeavesTold (Some told) t4 (both profile demo ++ created a) a) (sym are)
      (subst (λ (n : List Named). LeavesTold (Some told) t4 (both profile demo ++ n) acts) (sym names) leaves)),
)

left_some : (now : Told) (t4 : Option Told) (second : ℕ) (bytes : List ℕ) → LeavesIndex now t4 second bytes → (after : Told) × (t4 ≡ Some after) × Puts now after second bytes
left_some now None second bytes leaves = absurd leaves
left_some now (Some after) second bytes leaves = (after, refl, leaves)

pub index_gives_refused : (told t1 t2 t3 t4 : Option Told) (profile demo index : List ℕ) (by : Profile) (first second : ℕ) (e : DemoError) → index ≢ demo → GetsFrom profile_in told profile (Ok by)
    → Gives (Ok by) (profile ∷ []) told t1 → LooksUp t1 t2 demo (Ok first) → Creates t2 t3 index (Ok second) → (t3 ≡ None → t4 ≡ None)
    → ((now : Told) → t3 ≡ Some now → Builds by now first second t4 (Err e)) → LeavesFiles (IsIndexVerdict told profile demo index) told t4 (Err (build_fault e))
unfolding created made_names
index_gives_refused None t1 t2 t3 t4 profile demo index by first second e apart passes gives looks makes_it untold builds =
    untold_gives profile demo index by (Err (build_fault e)) t4 passes (untold (untold_made t1 t2 t3 demo index first second (gave by (profile ∷ []) None t1 gives) looks makes_it))
index_gives_refused (Some told) t1 t2 t3 t4 profile demo index by first second e apart passes gives looks makes_it untold builds =
    let looked = gave by (profile ∷ []) (Some told) t1 gives in
    let behind = made_after told t1 t2 t3 (looked_up profile ∷ []) demo index first second apart looked looks makes_it in
    elim (build_ends e) [
      | inl broken ↦ index_broken (Some told) t1 t2 t3 t4 profile demo index by first second (build_fault e) apart passes gives looks makes_it (broken_outside (build_fault e) broken.fault) untold
          (λ now is. broken.begins by now first second t4 (builds now is))
      | inr refused ↦
          let so = left_some behind.0 t4 second [] (refused.says by behind.0 first second t4 (builds behind.0 behind.1)).1 in
          index_left told t1 t2 t3 t4 profile demo index by (Err (build_fault e)) (Err e) (Makes index ∷ []) passes
          (refused_is (Some told) t1 t2 t3 t4 profile demo index by first second e apart looked looks makes_it refused builds) (refused.acts index) refl
          (so.0, so.1, none_left told behind.0 so.0 (looked_up profile ∷ []) demo index first second behind.2 so.2)
    ]

pub index_gives_all : (told t1 t2 t3 t4 : Option Told) (profile demo index : List ℕ) (by : Profile) (first second : ℕ) (built : Built) (ended : Result (Unit {0}) Fault) → index ≢ demo
    → GetsFrom profile_in told profile (Ok by) → Gives (Ok by) (profile ∷ []) told t1 → LooksUp t1 t2 demo (Ok first) → Creates t2 t3 index (Ok second) → (t3 ≡ None → t4 ≡ None)
    → ((now : Told) → t3 ≡ Some now → Builds by now first second t4 (Ok built)) → LeavesFiles (IsIndexVerdict told profile demo index) told t4 ended
unfolding created made_names made_answer
index_gives_all None t1 t2 t3 t4 profile demo index by first second built ended apart passes gives looks makes_it untold builds =
    untold_gives profile demo index by ended t4 passes (untold (untold_made t1 t2 t3 demo index first second (gave by (profile ∷ []) None t1 gives) looks makes_it))
index_gives_all (Some told) t1 t2 t3 t4 profile demo index by first second built ended apart passes gives looks makes_it untold builds =
    let behind = made_after told t1 t2 t3 (looked_up profile ∷ []) demo index first second apart (gave by (profile ∷ []) (Some told) t1 gives) looks makes_it in
    let whole = builds behind.0 behind.1 in
    let text = indexes.index_text by (contents_at behind.0 first) in
    let so = left_some behind.0 t4 second text whole.1 in
    index_left told t1 t2 t3 t4 profile demo index by ended (Ok (record { index = text; records = built.records })) (Makes index ∷ Extends index text ∷ []) passes
    (made_of by behind.0 first second t4 built whole ∙ ap (indexing_in by) (sym behind.2.of_demo)) refl refl
    (so.0, so.1, puts_leave told behind.0 so.0 (looked_up profile ∷ []) demo index text first second behind.2 so.2)

-- ---- causes

pub build_read_cause : (before now : ℕ) (e : DemoError) → BuildCause {T = Built} before now (Err e) → ReadCause {T = Unit {0}} before now (Err (build_fault e))
build_read_cause before now errors.ReadFault cause = cause
build_read_cause before now errors.NoMemory cause = cause
build_read_cause before now errors.WriteFault cause = cause
build_read_cause before now (errors.Truncated at) cause = cause
build_read_cause before now (errors.BadLength at) cause = cause
build_read_cause before now (errors.BadNumber at) cause = cause
build_read_cause before now (errors.Message at why) cause = cause

pub build_file_cause : (before now : ℕ) (e : DemoError) → BuildWrites {T = Built} before now (Err e) → FileCause before now (Err (build_fault e))
build_file_cause before now errors.ReadFault cause = cause
build_file_cause before now errors.NoMemory cause = cause
build_file_cause before now errors.WriteFault cause = cause
build_file_cause before now (errors.Truncated at) cause = cause
build_file_cause before now (errors.BadLength at) cause = cause
build_file_cause before now (errors.BadNumber at) cause = cause
build_file_cause before now (errors.Message at why) cause = cause

pub build_write_cause : (count : ℕ) (e : DemoError) → WriteCause count count (Err (build_fault e))
build_write_cause count errors.ReadFault = refl
build_write_cause count errors.NoMemory = refl
build_write_cause count errors.WriteFault = refl
build_write_cause count (errors.Truncated at) = refl
build_write_cause count (errors.BadLength at) = refl
build_write_cause count (errors.BadNumber at) = refl
build_write_cause count (errors.Message at why) = refl
