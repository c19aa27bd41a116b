-- What the demo plays to that a client recorded.
use Rattle.std.specs.Prelude.{◌≡◌, ◌⊎◌, ℕ, zero, suc, ◌-◌, ◌^◌, ◌<◌, ◌≤◌, if◌then◌else◌, Bool, true, List, [], ◌∷◌, ◌++◌, length, map, Option, Some, None, IsSome, Result, Ok}
use Rattle.std.specs.Result.{result_ok}
use Rattle.q3_bits.specs.Bits.{message_length}
use Rattle.q3_text.specs.declared.text.Command.{Command}
use Rattle.q3_config.specs.Strings.{server_id}
use Rattle.q3_profile.specs.declared.profile.Profile.{Profile}
use Rattle.q3_svmsg.specs.Values.{Message as ServerMessage}
use Rattle.q3_clstate.specs.State.{AppliedState, Application, apply_at}
use Rattle.q3_clstate.specs.Standing.{IsApplied}
use Rattle.q3_entity_ring.specs.Snapshot.{Snapshot}
use Rattle.q3_demo.specs.declared.error.DemoError.{DemoError}
use Rattle.q3_demo.specs.declared.record.Piece.{Piece}
use Rattle.q3_demo.specs.declared.record.Piece.TheVariants.{Message}
use Rattle.q3_demo.specs.declared.recorder.Stage.{Stage}
use Rattle.q3_demo.specs.declared.recorder.Stage.TheVariants.{Waits, Runs}
use Rattle.q3_demo.specs.Records.{longest_record, number_end, most_bytes}
use Rattle.q3_demo.specs.Recording.{Noted, game_bits, is_before, is_whole, note_of, whole_bits, whole_of}
use Rattle.q3_demo.specs.Playing.{Played, unplayed, next_piece, message_of, played_on, most_records, play_of, last_played}
use Rattle.q3_schedules.specs.NodeRecorded.{written_of}

-- ---- messages that a client applied

-- one that a client applied after another: numbers rise, no snapshot of a newer number was accepted, and all that there was and that came is
-- well formed and as long as a record may be
pub record IsNoted (noted : Noted) : Type 0 where
  pub stands : IsApplied noted.before
  pub begun : 0 < noted.before.number
  pub newest : noted.before.held.newest ≤ noted.before.number
  pub newer : noted.before.number < noted.applied.answer.number
  pub number : noted.applied.answer.number < number_end
  pub short : length noted.message ≤ longest_record
  pub issued : noted.issued < 2 ^ 32
  pub applies : apply_at noted.before noted.applied.answer.number noted.message ≡ Ok noted.applied

-- the next one goes on from what it left
abbrev pub Follows : Noted → List Noted → Type 0
Follows noted [] = Unit {0}
Follows noted (next ∷ others) = next.before ≡ noted.applied.state

abbrev pub AreNoted : List Noted → Type 0
AreNoted [] = Unit {0}
AreNoted (noted ∷ others) = IsNoted noted × Follows noted others × AreNoted others

-- those of them that are recorded: from the first whole snapshot on, to the one before a message that is too long once it is composed
abbrev pub recorded_with : Stage → Noted → List Noted → List Noted
recorded_with (Runs first) noted others = noted ∷ others
recorded_with other noted others = others

unfoldable pub recorded_from : Stage → List Noted → List Noted
recorded_from stage [] = []
recorded_from stage (noted ∷ others) =
    let now = note_of stage noted in
    recorded_with now.stage noted (recorded_from now.stage others)

-- ---- what a demo's records do

-- what becomes of a record's message, and then of the others
abbrev pub applied_so : Played → ℕ → ℕ → Option Application → (Played → List Application) → List Application
applied_so played number next None others = []
applied_so played number next (Some applied) others = applied ∷ others (played_on played number next applied).played

-- the next record's, if there is one; nothing more after a refusal or the demo's end
abbrev pub next_applied : List ℕ → Played → Result Piece DemoError → (Played → List Application) → List Application
next_applied demo played (Ok (Message number length next)) others = applied_so played number next (result_ok (apply_at played.state number (message_of demo played length))) others
next_applied demo played other others = []

unfoldable pub applied_from : ℕ → List ℕ → Played → List Application
applied_from zero demo played = []
applied_from (suc left) demo played = next_applied demo played (next_piece demo played) (applied_from left demo)

-- those of a demo, by a profile
abbrev pub applied_of : Profile → List ℕ → List Application
applied_of profile demo = applied_from most_records demo (unplayed profile)

-- ---- the law

-- nothing where nothing is recorded; otherwise the gamestate's first
abbrev pub game_first : {A : Type 0} → A → List A → List A
game_first game [] = []
game_first game (first ∷ others) = game ∷ first ∷ others

-- and of numbers that before the first
abbrev pub number_before_first : List ℕ → List ℕ
number_before_first [] = []
number_before_first (first ∷ others) = (first - 1) ∷ first ∷ others

-- the number of a message, the snapshot that is accepted of it, if one is, and the commands that are executed of it
abbrev pub number_in : Application → ℕ
number_in applied = applied.answer.number

abbrev pub accepted_in : Application → Option Snapshot
accepted_in applied = applied.accepted

abbrev pub heard_in : Application → List Command
heard_in applied = applied.heard

-- before the first of these messages, if there is one, the config strings told the map's id
abbrev pub BeginsTold : List Noted → Type 0
BeginsTold [] = Unit {0}
BeginsTold (first ∷ others) = IsSome (server_id first.before.strings)

-- and no long string was still being put together
abbrev pub BeginsWhole : List Noted → Type 0
BeginsWhole [] = Unit {0}
BeginsWhole (first ∷ others) = first.before.strings.pending ≡ None

-- the first is of a profile, and so all are that follow it
abbrev pub AreBy : Profile → List Noted → Type 0
AreBy profile [] = Unit {0}
AreBy profile (first ∷ others) = first.before.profile ≡ profile

-- the number of the last command that was executed, the baselines, the client's slot and the checksum feed are those of a client; and so are
-- the config strings, where they may be
pub record LeftAs (strings_too : Type 0) (client state : AppliedState) : Type 0 where
  pub executed : state.executed.executed ≡ client.executed.executed
  pub baselines : state.baselines ≡ client.baselines
  pub slot : state.slot ≡ client.slot
  pub feed : state.feed ≡ client.feed
  pub strings : strings_too → state.strings ≡ client.strings

-- what the last message left, if there is one
abbrev pub LeftBy : Type 0 → List Noted → AppliedState → Type 0
LeftBy strings_too [] state = Unit {0}
LeftBy strings_too (noted ∷ []) state = LeftAs strings_too noted.applied.state state
LeftBy strings_too (noted ∷ next ∷ others) state = LeftBy strings_too (next ∷ others) state

-- a demo plays to its end; after the gamestate its records are the messages that were recorded, each under its number, with the snapshot
-- that the client accepted of it and the commands that it executed of it; and in the end the state is as the client's
pub record PlaysTo (profile : Profile) (demo : List ℕ) (recorded : List Noted) : Type 0 where
  pub ending : (play_of profile demo).ending ≡ Ok tt
  pub numbers : map number_in (applied_of profile demo) ≡ number_before_first (map (λ (noted : Noted). noted.applied.answer.number) recorded)
  pub accepted : map accepted_in (applied_of profile demo) ≡ game_first None (map (λ (noted : Noted). noted.applied.accepted) recorded)
  pub heard : map heard_in (applied_of profile demo) ≡ game_first [] (map (λ (noted : Noted). noted.applied.heard) recorded)
  pub left : LeftBy (BeginsWhole recorded) recorded (last_played profile demo).state

-- a recording of so many messages is no longer than a demo that may be played, as that of so few always is: each takes a head and 16,384
-- bytes at most, and so does the gamestate before them
abbrev pub always_short : ℕ
always_short = 65503

abbrev pub IsShort : List ℕ → ℕ → Type 0
IsShort demo count = (length demo ≤ most_bytes) ⊎ (count ≤ always_short)

-- so it is of all messages that a client applied one after the other, where the recording begins by strings that tell the map's id, and
-- isn't longer than a demo that may be played; and also as long as it has no end yet
abbrev pub RecordingPlays : Type 0
RecordingPlays = (profile : Profile) (messages : List Noted) (over : Bool) → AreNoted messages → AreBy profile messages → BeginsTold (recorded_from Waits messages)
    → IsShort (written_of over messages) (length messages) → length messages < most_records → PlaysTo profile (written_of over messages) (recorded_from Waits messages)

-- ---- which messages are recorded

-- all from the first on of which a whole snapshot was accepted
unfoldable pub from_whole : List Noted → List Noted
from_whole [] = []
from_whole (noted ∷ others) = if is_whole noted.applied.answer.snap then noted ∷ others else from_whole others

-- bits that make more bytes than a message may have
abbrev pub AreLong : List Bool → Type 0
AreLong bits = longest_record < message_length (length bits)

-- what had to be composed for a message, after those that were recorded, is too long: the gamestate before the first, or the message whole
abbrev pub TooLong : List Noted → Noted → Type 0
TooLong [] noted = AreLong (game_bits noted.before noted.issued)
TooLong (first ∷ others) noted =
    (is_before first.applied.answer.number noted.applied.answer.snap ≡ true)
    × (whole : ServerMessage) × (whole_of noted.applied.state noted.message ≡ Some whole) × AreLong (whole_bits noted.applied.state whole)

-- of messages that a client applied one after the other these are recorded, or those before the first for which what had to be composed is
-- too long
abbrev pub WholeIsRecorded : Type 0
WholeIsRecorded = (messages : List Noted) → AreNoted messages
    → (recorded_from Waits messages ≡ from_whole messages)
    ⊎ ((noted : Noted) × (later : List Noted) × (from_whole messages ≡ recorded_from Waits messages ++ noted ∷ later) × TooLong (recorded_from Waits messages) noted)
