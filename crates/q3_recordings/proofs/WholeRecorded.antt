-- Which messages a recording has: all from the first whole snapshot on, or the first of them.
use Rattle.std.proofs.Common.{◌≡◌, ℕ, Bool, true, false, List, [], ◌∷◌, ◌++◌, length, Option, Some, None, Result, Ok, Err, inl, inr, refl, sym, ap, subst, ◌∙◌, arith}
use Rattle.std.specs.Prelude.{◌⊎◌, nat_lt, if◌then◌else◌, IsOk, IsSome}
use Rattle.std.specs.Result.{result_ok}
use Rattle.std.proofs.lemmas.Bool.{cases_Bool, ltb-true}
use Rattle.q3_bits.specs.Bits.{message_bytes, message_length}
use Rattle.q3_strings.specs.declared.error.OperationError.{OperationError}
use Rattle.q3_svmsg.specs.Values.{Message}
use Rattle.q3_entity_ring.specs.Snapshot.{Snapshot}
use Rattle.q3_rings.specs.Rings.{view_at}
use Rattle.q3_clstate.specs.State.{AppliedState}
use Rattle.q3_demo.specs.declared.recorder.Stage.TheVariants.{Waits, Runs, Ended}
use Rattle.q3_demo.specs.Records.{longest_record}
use Rattle.q3_demo.specs.Recording.{composed, game_bits, Front, front_at, whole_message, whole_with, whole_of, whole_bits, Noting, goes_on, recomposed, begins, is_whole, is_before, composed_whole, Noted}
use Rattle.q3_demo.specs.Laws.{AppliedMayBeNoted}
use Rattle.q3_recordings.specs.Plays.{IsNoted, AreNoted, recorded_with, recorded_from, from_whole, AreLong, TooLong, WholeIsRecorded}
use Rattle.q3_recordings.proofs.Recorded.{recorded_none}

-- all, or those before one of which this is said
abbrev AllOrFirst : (Noted → Type 0) → List Noted → List Noted → Type 0
AllOrFirst IsLong got all = (got ≡ all) ⊎ ((noted : Noted) × (later : List Noted) × (all ≡ got ++ noted ∷ later) × IsLong noted)

one_more : (IsLong : Noted → Type 0) (noted : Noted) (got all : List Noted) → AllOrFirst IsLong got all → AllOrFirst IsLong (noted ∷ got) (noted ∷ all)
one_more IsLong noted got all (inl same) = inl (ap (λ (others : List Noted). noted ∷ others) same)
one_more IsLong noted got all (inr first) = inr (first.0, first.1, ap (λ (others : List Noted). noted ∷ others) first.2, first.3)

none_before : (noted : Noted) (others : List Noted) → noted ∷ others ≡ recorded_from Ended others ++ noted ∷ others
none_before noted others = ap (λ (got : List Noted). got ++ noted ∷ others) (sym (recorded_none others))

-- ---- what is too long

are_long : (bits : List Bool) → composed bits ≡ None → AreLong bits
are_long bits none =
    elim (cases_Bool (nat_lt longest_record (message_length (length bits)))) [
      | inl lt ↦ ltb-true longest_record (message_length (length bits)) lt
      | inr not ↦ absurd (let no : Some (message_bytes bits) ≡ None = rw not at none in cc)
    ]

-- the message whole is there
whole_found : (front : Result Front OperationError) (view : Option Snapshot) → IsOk front → IsSome view → (whole : Message) × (whole_with (result_ok front) view ≡ Some whole)
whole_found (Ok front) (Some snapshot) is_front held = (whole_message front snapshot, refl)
whole_found (Ok front) None is_front held = absurd cc
whole_found (Err e) view is_front held = absurd cc

long_whole : (state : AppliedState) (found : Option Message) (whole : Message) → found ≡ Some whole → composed_whole state found ≡ None → AreLong (whole_bits state whole)
long_whole state found whole is none = are_long (whole_bits state whole) (ap (composed_whole state) (sym is) ∙ none)

-- ---- a recording that runs

abbrev RunsLong : ℕ → Noted → Type 0
RunsLong first noted =
    (is_before first noted.applied.answer.snap ≡ true)
    × (whole : Message) × (whole_of noted.applied.state noted.message ≡ Some whole) × AreLong (whole_bits noted.applied.state whole)

runs_long : AppliedMayBeNoted → (first : ℕ) (noted : Noted) → IsNoted noted → is_before first noted.applied.answer.snap ≡ true
    → composed_whole noted.applied.state (whole_of noted.applied.state noted.message) ≡ None → RunsLong first noted
runs_long may first noted is before none =
    let last = may noted.before noted.applied.answer.number noted.message noted.applied (Runs first) is.stands (omega (arith, is.number)) is.applies before in
    let found = whole_found (front_at noted.applied.state.profile.code noted.message) (view_at noted.applied.state.held noted.applied.state.number) last.front last.held in
    (before, found.0, found.1, long_whole noted.applied.state (whole_of noted.applied.state noted.message) found.0 found.1 none)

-- what is had after a message, by what the recording makes of it
abbrev HadAfter : (Noted → Type 0) → Noting → Noted → List Noted → Type 0
HadAfter IsLong now noted others = AllOrFirst IsLong (recorded_with now.stage noted (recorded_from now.stage others)) (noted ∷ others)

run_after : (first number : ℕ) (noted : Noted) (others : List Noted) → AllOrFirst (RunsLong first) (recorded_from (Runs first) others) others
    → (before : Bool) (whole : Option (List ℕ)) → (before ≡ true → whole ≡ None → RunsLong first noted)
    → HadAfter (RunsLong first) (if before then recomposed first number whole else goes_on first number noted.message) noted others
run_after first number noted others all true None long = inr (noted, others, none_before noted others, long refl refl)
run_after first number noted others all true (Some bytes) long = one_more (RunsLong first) noted (recorded_from (Runs first) others) others all
run_after first number noted others all false whole long = one_more (RunsLong first) noted (recorded_from (Runs first) others) others all

runs_all : AppliedMayBeNoted → (first : ℕ) (messages : List Noted) → AreNoted messages → AllOrFirst (RunsLong first) (recorded_from (Runs first) messages) messages
unfolding recorded_from
runs_all may first [] are = inl refl
runs_all may first (noted ∷ others) are =
    run_after first noted.applied.answer.number noted others (runs_all may first others are.2) (is_before first noted.applied.answer.snap)
    (composed_whole noted.applied.state (whole_of noted.applied.state noted.message)) (runs_long may first noted are.0)

-- ---- a recording that waits

abbrev HasAll : List Noted → List Noted → Type 0
HasAll got all = AllOrFirst (TooLong got) got all

begun_after : AppliedMayBeNoted → (noted : Noted) (others : List Noted) (game : Option (List ℕ)) → AreNoted others → composed (game_bits noted.before noted.issued) ≡ game
    → let now : Noting = begins noted.applied.answer.number noted.message game in HasAll (recorded_with now.stage noted (recorded_from now.stage others)) (noted ∷ others)
begun_after may noted others None are long =
    inr (
      noted,
      others,
      none_before noted others,
      subst (λ (got : List Noted). TooLong got noted) (sym (recorded_none others)) (are_long (game_bits noted.before noted.issued) long),
    )
begun_after may noted others (Some game) are e =
    let number = noted.applied.answer.number in
    one_more (RunsLong number) noted (recorded_from (Runs number) others) others (runs_all may number others are)

wait_after : AppliedMayBeNoted → (noted : Noted) (others : List Noted) (game : Option (List ℕ)) → AreNoted others → composed (game_bits noted.before noted.issued) ≡ game
    → HasAll (recorded_from Waits others) (from_whole others) → (whole : Bool)
    → let now : Noting = if whole then begins noted.applied.answer.number noted.message game else record { stage = Waits; bytes = [] } in
    HasAll (recorded_with now.stage noted (recorded_from now.stage others)) (if whole then noted ∷ others else from_whole others)
wait_after may noted others game are e all true = begun_after may noted others game are e
wait_after may noted others game are e all false = all

pub whole_is_recorded : AppliedMayBeNoted → WholeIsRecorded
unfolding recorded_from from_whole
whole_is_recorded may [] are = inl refl
whole_is_recorded may (noted ∷ others) are =
    wait_after may noted others (composed (game_bits noted.before noted.issued)) are.2 refl (whole_is_recorded may others are.2) (is_whole noted.applied.answer.snap)
