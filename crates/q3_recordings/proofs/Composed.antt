-- The bytes of a recording are those of records.
use Rattle.std.proofs.Common.{◌≡◌, ℕ, ◌+◌, ◌-◌, ◌≤◌, Bool, true, false, List, [], ◌∷◌, ◌++◌, length, Option, Some, None, refl, sym, ap, ◌∙◌, arith, append_assoc}
use Rattle.std.specs.Prelude.{if◌then◌else◌}
use Rattle.std.proofs.lemmas.List.{append-nil, append_cancel_right, length-append}
use Rattle.q3_clstate.specs.State.{AppliedState}
use Rattle.q3_clstate.specs.declared.applied.Applied.{Applied}
use Rattle.q3_demo.specs.declared.recorder.Stage.{Stage}
use Rattle.q3_demo.specs.declared.recorder.Stage.TheVariants.{Waits, Runs, Ended}
use Rattle.q3_demo.specs.Recording.{record_bytes, end_bytes, composed, game_bits, whole_of, Noting, goes_on, recomposed, begins, is_whole, is_before, composed_whole, note_at, Noted, note_of, noted_from, closing, recording}
use Rattle.q3_schedules.specs.NodeRecorded.{written_of}
use Rattle.q3_recordings.proofs.DemoBytes.{Record, bytes_of, IsTail, end_is_tail, none_is_tail}

-- ---- the records of a recording

-- the gamestate and the first message, unless the gamestate is too long
abbrev pub begins_with : ℕ → List ℕ → Option (List ℕ) → List Record
begins_with number message None = []
begins_with number message (Some game) = record { number = number - 1; message = game } ∷ record { number = number; message = message } ∷ []

-- a message that was composed, unless it is too long
abbrev pub goes_with : ℕ → Option (List ℕ) → List Record
goes_with number None = []
goes_with number (Some message) = record { number = number; message = message } ∷ []

-- those that a message adds, by what `note_at` asks
abbrev pub records_at : Stage → Option (List ℕ) → AppliedState → Applied → List ℕ → List Record
records_at Waits game state applied message = if is_whole applied.snap then begins_with applied.number message game else []
records_at (Runs first) game state applied message =
    if is_before first applied.snap then goes_with applied.number (composed_whole state (whole_of state message)) else record { number = applied.number; message = message } ∷ []
records_at Ended game state applied message = []

abbrev pub records_of_noting : Stage → Noted → List Record
records_of_noting stage noted = records_at stage (composed (game_bits noted.before noted.issued)) noted.applied.state noted.applied.answer noted.message

-- those of all messages
unfoldable pub records_from : Stage → List Noted → List Record
records_from stage [] = []
records_from stage (noted ∷ others) = records_of_noting stage noted ++ records_from (note_of stage noted).stage others

-- ---- the bytes of a message's records

pub none_ended : (messages : List Noted) → records_from Ended messages ≡ []
unfolding records_from
none_ended [] = refl
none_ended (noted ∷ others) = none_ended others

-- with what the others add, a message adds the bytes of its records
abbrev Adds : Stage → Noting → List Record → Type 0
Adds stage now records =
    (others : List Noted) → now.bytes ++ (bytes_of (records_from now.stage others) ++ closing now.stage) ≡ bytes_of (records ++ records_from now.stage others) ++ closing stage

ends_adds : (others : List Noted) → end_bytes ++ (bytes_of (records_from Ended others) ++ []) ≡ bytes_of (records_from Ended others) ++ end_bytes
ends_adds others =
    ap (λ (records : List Record). end_bytes ++ (bytes_of records ++ [])) (none_ended others) ∙ append-nil end_bytes
    ∙ ap (λ (records : List Record). bytes_of records ++ end_bytes) (sym (none_ended others))

one_adds : (number : ℕ) (message bytes : List ℕ) → record_bytes number message ++ (bytes ++ end_bytes) ≡ (record_bytes number message ++ bytes) ++ end_bytes
one_adds number message bytes = sym (append_assoc (record_bytes number message) bytes end_bytes)

begins_adds : (number : ℕ) (message : List ℕ) (game : Option (List ℕ)) → Adds Waits (begins number message game) (begins_with number message game)
begins_adds number message None others = ends_adds others
begins_adds number message (Some game) others =
    let after : List ℕ = bytes_of (records_from (Runs number) others) in
    append_assoc (record_bytes (number - 1) game) (record_bytes number message) (after ++ end_bytes)
    ∙ ap (λ (bytes : List ℕ). record_bytes (number - 1) game ++ bytes) (one_adds number message after)
    ∙ one_adds (number - 1) game (record_bytes number message ++ after)

goes_adds : (first number : ℕ) (message : List ℕ)
    → Adds (Runs first) (goes_on first number message) (record { number = number; message = message } ∷ [])
goes_adds first number message others = one_adds number message (bytes_of (records_from (Runs first) others))

recomposed_adds : (first number : ℕ) (message : Option (List ℕ)) → Adds (Runs first) (recomposed first number message) (goes_with number message)
recomposed_adds first number None others = ends_adds others
recomposed_adds first number (Some message) others = goes_adds first number message others

waits_adds : (whole : Bool) (number : ℕ) (message : List ℕ) (game : Option (List ℕ))
    → Adds Waits (if whole then begins number message game else record { stage = Waits; bytes = [] }) (if whole then begins_with number message game else [])
waits_adds true number message game others = begins_adds number message game others
waits_adds false number message game others = refl

runs_adds : (before : Bool) (first number : ℕ) (message : List ℕ) (whole : Option (List ℕ))
    → Adds (Runs first) (if before then recomposed first number whole else goes_on first number message)
    (if before then goes_with number whole else record { number = number; message = message } ∷ [])
runs_adds true first number message whole others = recomposed_adds first number whole others
runs_adds false first number message whole others = goes_adds first number message others

at_adds : (stage : Stage) (game : Option (List ℕ)) (state : AppliedState) (applied : Applied) (message : List ℕ)
    → Adds stage (note_at stage game state applied message) (records_at stage game state applied message)
at_adds Waits game state applied message others = waits_adds (is_whole applied.snap) applied.number message game others
at_adds (Runs first) game state applied message others =
    runs_adds (is_before first applied.snap) first applied.number message (composed_whole state (whole_of state message)) others
at_adds Ended game state applied message others = refl

-- ---- the bytes of all

pub bytes_from : (stage : Stage) (messages : List Noted)
    → (noted_from stage messages).bytes ++ closing (noted_from stage messages).stage ≡ bytes_of (records_from stage messages) ++ closing stage
unfolding noted_from records_from
bytes_from stage [] = refl
bytes_from stage (noted ∷ others) =
    let now : Noting = note_of stage noted in
    let rest : Noting = noted_from now.stage others in
    append_assoc now.bytes rest.bytes (closing rest.stage) ∙ ap (λ (bytes : List ℕ). now.bytes ++ bytes) (bytes_from now.stage others)
    ∙ at_adds stage (composed (game_bits noted.before noted.issued)) noted.applied.state noted.applied.answer noted.message others

pub recording_bytes : (messages : List Noted) → recording messages ≡ bytes_of (records_from Waits messages) ++ end_bytes
recording_bytes messages = bytes_from Waits messages

-- what is written of them, with the end or as long as there is none
pub record Tailed (bytes : List ℕ) (records : List Record) : Type 0 where
  pub tail : List ℕ
  pub ends : IsTail tail
  pub few : length tail ≤ 8
  pub whole : bytes ≡ bytes_of records ++ tail

tailed : (stage : Stage) (bytes : List ℕ) (records : List Record) → bytes ++ closing stage ≡ bytes_of records ++ end_bytes → Tailed bytes records
tailed Ended bytes records same = record { tail = end_bytes; ends = end_is_tail; few = omega arith; whole = sym (append-nil bytes) ∙ same }
tailed Waits bytes records same =
    record { tail = []; ends = none_is_tail; few = omega arith; whole = append_cancel_right bytes (bytes_of records) end_bytes same ∙ sym (append-nil (bytes_of records)) }
tailed (Runs first) bytes records same =
    record { tail = []; ends = none_is_tail; few = omega arith; whole = append_cancel_right bytes (bytes_of records) end_bytes same ∙ sym (append-nil (bytes_of records)) }

pub written_tailed : (over : Bool) (messages : List Noted) → Tailed (written_of over messages) (records_from Waits messages)
written_tailed true messages = record { tail = end_bytes; ends = end_is_tail; few = omega arith; whole = recording_bytes messages }
written_tailed false messages = tailed (noted_from Waits messages).stage (noted_from Waits messages).bytes (records_from Waits messages) (bytes_from Waits messages)

-- ---- how many they are

-- the gamestate's record is still to come
abbrev spare : Stage → ℕ
spare Waits = 1
spare other = 0

abbrev AreFew : Stage → Noting → List Record → Type 0
AreFew stage now records = length records + spare now.stage ≤ 1 + spare stage

begins_few : (number : ℕ) (message : List ℕ) (game : Option (List ℕ)) → AreFew Waits (begins number message game) (begins_with number message game)
begins_few number message None = omega arith
begins_few number message (Some game) = omega arith

recomposed_few : (first number : ℕ) (message : Option (List ℕ)) → AreFew (Runs first) (recomposed first number message) (goes_with number message)
recomposed_few first number None = omega arith
recomposed_few first number (Some message) = omega arith

waits_few : (whole : Bool) (number : ℕ) (message : List ℕ) (game : Option (List ℕ))
    → AreFew Waits (if whole then begins number message game else record { stage = Waits; bytes = [] }) (if whole then begins_with number message game else [])
waits_few true number message game = begins_few number message game
waits_few false number message game = omega arith

runs_few : (before : Bool) (first number : ℕ) (message : List ℕ) (whole : Option (List ℕ))
    → AreFew (Runs first) (if before then recomposed first number whole else goes_on first number message)
    (if before then goes_with number whole else record { number = number; message = message } ∷ [])
runs_few true first number message whole = recomposed_few first number whole
runs_few false first number message whole = omega arith

at_few : (stage : Stage) (game : Option (List ℕ)) (state : AppliedState) (applied : Applied) (message : List ℕ)
    → AreFew stage (note_at stage game state applied message) (records_at stage game state applied message)
at_few Waits game state applied message = waits_few (is_whole applied.snap) applied.number message game
at_few (Runs first) game state applied message = runs_few (is_before first applied.snap) first applied.number message (composed_whole state (whole_of state message))
at_few Ended game state applied message = omega arith

few_from : (stage : Stage) (messages : List Noted) → length (records_from stage messages) ≤ length messages + spare stage
unfolding records_from
few_from stage [] = omega arith
few_from stage (noted ∷ others) =
    let now : Noting = note_of stage noted in
    let one : AreFew stage now (records_of_noting stage noted) =
    at_few stage (composed (game_bits noted.before noted.issued)) noted.applied.state noted.applied.answer noted.message in
    omega (arith, one, few_from now.stage others, length-append (records_of_noting stage noted) (records_from now.stage others))

pub records_few : (messages : List Noted) → length (records_from Waits messages) ≤ length messages + 1
records_few messages = few_from Waits messages
