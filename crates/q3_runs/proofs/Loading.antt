-- What a file says, by a front of it.
use Rattle.std.proofs.Common.{◌≡◌, ℕ, ◌<◌, List, ◌++◌, length, Option, Some, None, Result, Ok, Err, refl, sym, ap, subst, ◌∙◌, inl, inr, arith}
use Rattle.std.specs.Prelude.{◌⊎◌}
use Rattle.std.specs.Result.{result_map_both}
use Rattle.std.proofs.lemmas.List.{append-nil, length-append}
use Rattle.std.proofs.lemmas.Bool.{cases_lt, lt-ltb}
use Rattle.q3_profile.specs.declared.profile.Profile.{Profile}
use Rattle.q3_profile.specs.declared.error.ProfileError.{ProfileError}
use Rattle.q3_profile.specs.declared.error.ProfileError.TheVariants as profile
use Rattle.q3_profile.specs.Profile.{longest_profile, checked}
use Rattle.q3_script.specs.declared.event.Event.{Event}
use Rattle.q3_script.specs.declared.cause.ScriptKind.{ScriptKind}
use Rattle.q3_script.specs.declared.cause.ScriptError.{ScriptError}
use Rattle.q3_script.specs.declared.cause.ScriptError.TheVariants as script
use Rattle.q3_script.specs.Script.{BadLine, Reads, script_at, longest_script}
use Rattle.q3_io.specs.Acts.{after_acts}
use Rattle.q3_io.specs.Told.{File, Told, contents_of}
use Rattle.q3_runs.specs.declared.fault.Fault.{Fault}
use Rattle.q3_runs.specs.declared.fault.Fault.TheVariants as faults
use Rattle.q3_runs.specs.Faults.{profile_fault, script_fault}
use Rattle.q3_runs.specs.Input.{Holds, ReadsFile, ReadsFront, LooksUpTold}
use Rattle.q3_runs.specs.Verdict.{GetsFrom, profile_in, events_in}

-- each name holds something
pub held : (told : Option Told) (name : List ℕ) → (file : Option (List ℕ)) × Holds told name file
held None name = (None, tt)
held (Some told) name = (contents_of told.files name, refl)

-- what the files hold isn't changed by a look
pub same_held : (told mid : Option Told) (names : List (List ℕ)) (name : List ℕ) (file : Option (List ℕ)) → LooksUpTold told mid names → Holds mid name file → Holds told name file
unfolding after_acts
same_held None mid names name file looks holds = tt
same_held (Some told) mid names name file looks holds =
    let there = subst (λ (m : Option Told). Holds m name file) looks.1 holds in
    ap (λ (files : List File). contents_of files name) (sym looks.2.files) ∙ there

-- a file wasn't read
pub unread : (A : Type 0) (says : Option (List ℕ) → Result A Fault) (most : ℕ) (told : Option Told) (name : List ℕ) (e : Fault)
    → ReadsFile most name told (Err e) → GetsFrom says told name (Err e)
unread A says most told name e early =
    let file = held told name in
    (file.0, file.1, elim early [ inl memory ↦ inr (inl (ap Err memory)) | inr read ↦ inr (inr (ap Err read)) ])

-- what says the same of all that is too long says of a front that is too long what it says of the whole
front_says : {A : Type 0} (most : ℕ) (says : List ℕ → A) → ((a b : List ℕ) → most < length a → most < length b → says a ≡ says b)
    → (contents bytes : List ℕ) → ReadsFront most contents bytes → says bytes ≡ says contents
front_says most says long contents bytes front =
    elim (cases_lt most (length bytes)) [
      | inl lt ↦ long bytes contents lt (omega (arith, lt, length-append bytes front.0, ap length front.1))
      | inr le ↦ ap says (sym (append-nil bytes) ∙ (ap (λ (z : List ℕ). bytes ++ z) (sym (front.2 le)) ∙ front.1))
    ]

long_profile : (a b : List ℕ) → longest_profile < length a → longest_profile < length b → checked a ≡ checked b
unfolding checked
long_profile a b long longer = rw (lt-ltb longest_profile (length a) long, lt-ltb longest_profile (length b) longer) refl

long_script : (kind : ScriptKind) (a b : List ℕ) → longest_script < length a → longest_script < length b → script_at kind a ≡ script_at kind b
unfolding script_at
long_script kind a b long longer = rw (lt-ltb longest_script (length a) long, lt-ltb longest_script (length b) longer) refl

-- ---- a profile

checked_as : Result Profile ProfileError → Result Profile Fault
checked_as says = result_map_both (λ profile. profile) faults.Profile says

-- a rule that fails is told so, want of memory aside
told_as : (e : ProfileError) → (e ≡ profile.NoMemory) ⊎ (profile_fault e ≡ faults.Profile e)
told_as profile.NoMemory = inl refl
told_as e = inr refl

memory_is : (e : ProfileError) → e ≡ profile.NoMemory → profile_fault e ≡ faults.NoMemory
memory_is e is = ap profile_fault is

pub profile_refused : (told : Option Told) (name bytes : List ℕ) (e : ProfileError) → ReadsFile longest_profile name told (Ok bytes)
    → (e ≡ profile.NoMemory) ⊎ (checked bytes ≡ Err e) → GetsFrom profile_in told name (Err (profile_fault e))
unfolding checked_as
profile_refused told name bytes e reads says =
    let same = front_says longest_profile checked long_profile reads.0 bytes reads.2 in (
      Some reads.0,
      reads.1,
      elim says [
        | inl memory ↦ inr (inl (ap Err (memory_is e memory)))
        | inr fails ↦ elim (told_as e) [
          | inl memory ↦ inr (inl (ap Err (memory_is e memory)))
          | inr is ↦ inl (ap Err is ∙ ap checked_as (sym fails ∙ same))
        ]
      ],
    )

pub profile_passed : (told : Option Told) (name bytes : List ℕ) (by : Profile) → ReadsFile longest_profile name told (Ok bytes)
    → checked bytes ≡ Ok by → GetsFrom profile_in told name (Ok by)
unfolding checked_as
profile_passed told name bytes by reads passes =
    (Some reads.0, reads.1, inl (ap checked_as (sym passes ∙ front_says longest_profile checked long_profile reads.0 bytes reads.2)))

-- ---- a script

script_as : Result (List Event) BadLine → Result (List Event) Fault
script_as says = result_map_both (λ events. events) (λ (bad : BadLine). faults.Script bad.line bad.cause) says

pub script_refused : (kind : ScriptKind) (told : Option Told) (name bytes : List ℕ) (e : ScriptError) → ReadsFile longest_script name told (Ok bytes)
    → Reads (Err e) (script_at kind bytes) → GetsFrom (events_in kind) told name (Err (script_fault e))
unfolding script_as
script_refused kind told name bytes script.NoMemory reads says = (Some reads.0, reads.1, inr (inl refl))
script_refused kind told name bytes (script.Line line cause) reads says =
    (Some reads.0, reads.1, inl (ap script_as (sym says ∙ front_says longest_script (script_at kind) (long_script kind) reads.0 bytes reads.2)))
