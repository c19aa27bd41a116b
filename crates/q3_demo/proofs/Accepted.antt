-- A message that was applied may be noted.
use Rattle.std.proofs.Common.{◌≡◌, ℕ, ◌^◌, ◌<◌, ◌≤◌, Bool, true, List, [], length, Result, Ok, refl, sym, ap, subst, ◌∙◌}
use Rattle.std.specs.Prelude.{IsOk, IsSome, is_some}
use Rattle.std.specs.Result.{result_ok}
use Rattle.std.proofs.lemmas.Bool.{cond_both, leb-false}
use Rattle.q3_bits.specs.Bits.{bits_of}
use Rattle.q3_bits.specs.ResultBind.{◌>>=◌, fault_as}
use Rattle.q3_bits.proofs.Binds.{bind_ok, map_err_ok}
use Rattle.q3_bits.specs.Words.{field_at}
use Rattle.q3_bits.specs.declared.reader.ReadError.{ReadError}
use Rattle.q3_strings.specs.declared.error.OperationError.{OperationError}
use Rattle.q3_strings.specs.declared.error.OperationError.TheVariants as operations
use Rattle.q3_strings.specs.Operations.{Row, row_at}
use Rattle.q3_entity.specs.Entities.{most_entities}
use Rattle.q3_profile.specs.declared.profile.Profile.{Profile}
use Rattle.q3_svmsg.specs.declared.error.Illegible.{Illegible}
use Rattle.q3_svmsg.specs.declared.error.Illegible.TheVariants.{Bits}
use Rattle.q3_svmsg.specs.Values as told
use Rattle.q3_svmsg.specs.Values.{Context, Told, HasNumber, Message}
use Rattle.q3_svmsg.specs.Reading.{field_read, operation_error, rest_at, operations_at, server_message_at, server_message_in}
use Rattle.q3_svmsg.specs.Laws.{IsReadTold, ReadIsSpelled}
use Rattle.q3_entity_ring.specs.Snapshot.{Snapshot}
use Rattle.q3_rings.specs.declared.rings.NoBase.{NoBase}
use Rattle.q3_rings.specs.Laws.{AcceptedIsHeld}
use Rattle.q3_rings.specs.Rings.{AreHeldSnapshots, held_snapshot, view_at, accept_at}
use Rattle.q3_clstate.specs.Laws.{AppliedIsContext}
use Rattle.q3_clstate.specs.declared.applied.SnapOutcome.TheVariants.{Stale, Skipped}
use Rattle.q3_clstate.specs.State.{AppliedState, Application, context_of, passes, accepts, is_stale, skipped_for, apply_section, apply_read, apply_at, hearing}
use Rattle.q3_clstate.specs.Standing.{IsApplied}
use Rattle.q3_demo.specs.declared.recorder.Stage.TheVariants.{Waits, Runs, Ended}
use Rattle.q3_demo.specs.Recording.{Front, front_at, is_before}
use Rattle.q3_demo.specs.Recorder.{IsAcceptedLast}
use Rattle.q3_demo.specs.Laws.{AppliedMayBeNoted}

-- ---- what stands before the section was read

abbrev front_with : ℕ → Row × List Bool → Result Front OperationError
front_with ack row = Ok (record { ack = ack; commands = row.0.commands })

abbrev front_after : List (List Bool) → ℕ × List Bool → Result Front OperationError
front_after words ack = row_at words 5 (length ack.1) [] ack.1 >>= front_with ack.0

-- where the operations after the leading long are read, so is the front
row_read : (profile : Profile) (context : Context) (number : ℕ) (ack : ℕ) (bits : List Bool) (read : Message × List Bool)
    → operations_at profile context number (record { ack = ack; commands = []; section = told.Nothing }) bits ≡ Ok read
    → (row : Row × List Bool) × (row_at profile.code 5 (length bits) [] bits ≡ Ok row)
unfolding operations_at
row_read profile context number ack bits read e =
    let found = bind_ok (fault_as operation_error (row_at profile.code 5 (length bits) [] bits))
    (λ (row : Row × List Bool). rest_at profile context number row.0.operation (record { ack = ack; commands = row.0.commands; section = told.Nothing }) row.1) read e in
    (found.0, map_err_ok operation_error (row_at profile.code 5 (length bits) [] bits) found.0 found.1)

front_read : (profile : Profile) (context : Context) (number : ℕ) (bits : List Bool) (read : Message × List Bool) → server_message_at profile context number bits ≡ Ok read
    → (front : Front) × ((fault_as operations.Bits (field_at profile.code 32 bits) >>= front_after profile.code) ≡ Ok front)
unfolding server_message_at
front_read profile context number bits read e =
    let found = bind_ok (field_read profile.code 32 bits)
    (λ (ack : ℕ × List Bool). operations_at profile context number (record { ack = ack.0; commands = []; section = told.Nothing }) ack.1) read e in
    let ack = found.0 in
    let field = map_err_ok Bits (field_at profile.code 32 bits) ack found.1 in
    let row = row_read profile context number ack.0 ack.1 read found.2 in (
      record { ack = ack.0; commands = row.0.0.commands },
      ap (λ (r : Result (ℕ × List Bool) ReadError). fault_as operations.Bits r >>= front_after profile.code) field
          ∙ ap (λ (r : Result (Row × List Bool) OperationError). r >>= front_with ack.0) row.1,
    )

is_front : (profile : Profile) (context : Context) (number : ℕ) (message : List ℕ) (read : Message × List Bool) → server_message_at profile context number (bits_of message) ≡ Ok read
    → IsOk (front_at profile.code message)
is_front profile context number message read e =
    let front = front_read profile context number (bits_of message) read e in
    subst (λ (r : Result Front OperationError). IsOk r) (sym front.1) refl

-- ---- what is accepted is held

-- whatever becomes of a section, it is that of its number, and the profile stays
record IsOf (profile : Profile) (number : ℕ) (applied : Application) : Type 0 where
  state : applied.state.number ≡ number
  answer : applied.answer.number ≡ number
  profile_is : applied.state.profile ≡ profile

section_is_of : (state : AppliedState) (number : ℕ) (section : Told) → IsOf state.profile number (apply_section state number section)
section_is_of state number told.Nothing = record { state = refl; answer = refl; profile_is = refl }
section_is_of state number (told.Game game) = record { state = refl; answer = refl; profile_is = refl }
section_is_of state number (told.Snap base head entities) =
    cond_both (is_stale state.held number) (passes state number Stale) (accepts state number base (record { head = head; entities = entities })) (IsOf state.profile number)
    (λ e. record { state = refl; answer = refl; profile_is = refl }) (λ e. record { state = refl; answer = refl; profile_is = refl })
section_is_of state number (told.Skipped base) =
    cond_both (is_stale state.held number) (passes state number Stale) (passes state number (Skipped base (skipped_for (held_snapshot state.held base)))) (IsOf state.profile number)
    (λ e. record { state = refl; answer = refl; profile_is = refl }) (λ e. record { state = refl; answer = refl; profile_is = refl })

-- a snapshot has few entities
abbrev HasFew : Told → Type 0
HasFew (told.Snap base head entities) = length entities ≤ most_entities
HasFew other = Unit {0}

-- one that was accepted against another is held
abbrev Holds : ℕ → ℕ → Application → Type 0
Holds first number applied = is_before first applied.answer.snap ≡ true → IsSome (view_at applied.state.held number)

accepted_holds : AcceptedIsHeld → (state : AppliedState) (number first base : ℕ) (snapshot : Snapshot) → AreHeldSnapshots state.held → snapshot.head.number ≡ number
    → length snapshot.entities ≤ most_entities → state.held.newest < number → Holds first number (accepts state number base snapshot)
accepted_holds law state number first base snapshot are same few newer before =
    let held : held_snapshot (accept_at state.held snapshot) snapshot.head.number ≡ Ok snapshot = law state.held snapshot are (rw same newer) few in
    subst (λ (n : ℕ). IsSome (view_at (accept_at state.held snapshot) n)) same (ap (λ (found : Result Snapshot NoBase). is_some (result_ok found)) held)

section_holds : AcceptedIsHeld → (state : AppliedState) (number first : ℕ) (section : Told) → AreHeldSnapshots state.held → HasNumber number section → HasFew section
    → Holds first number (apply_section state number section)
section_holds law state number first told.Nothing are same few = λ before. absurd cc
section_holds law state number first (told.Game game) are same few = λ before. absurd cc
section_holds law state number first (told.Snap base head entities) are same few =
    let snapshot : Snapshot = record { head = head; entities = entities } in
    cond_both (is_stale state.held number) (passes state number Stale) (accepts state number base snapshot) (Holds first number)
    (λ e before. absurd cc) (λ new. accepted_holds law state number first base snapshot are same few (leb-false _ _ new))
section_holds law state number first (told.Skipped base) are same few =
    cond_both (is_stale state.held number) (passes state number Stale) (passes state number (Skipped base (skipped_for (held_snapshot state.held base)))) (Holds first number)
    (λ e before. absurd cc) (λ e before. absurd cc)

-- ---- a message that was applied

few_read : (profile : Profile) (context : Context) (section : Told) → IsReadTold profile context section → HasFew section
few_read profile context told.Nothing is = tt
few_read profile context (told.Game game) is = tt
few_read profile context (told.Snap base head entities) is = is.0.1.list.few
few_read profile context (told.Skipped base) is = tt

abbrev applied_as : Application → Result Application Illegible
applied_as application = Ok application

same_applied : (one other : Application) → applied_as one ≡ applied_as other → one ≡ other
same_applied one other e = cc

abbrev read_as : Message → Result Message Illegible
read_as message = Ok message

same_read : (one other : Message) → read_as one ≡ read_as other → one ≡ other
same_read one other e = cc

-- the value that was read of it
record WasRead (state : AppliedState) (number : ℕ) (message : List ℕ) (applied : Application) : Type 0 where
  read : Message
  left : List Bool
  by : server_message_at state.profile (context_of state.held state.baselines) number (bits_of message) ≡ Ok (read, left)
  does : apply_read state number read ≡ applied

was_read : (state : AppliedState) (number : ℕ) (message : List ℕ) (applied : Application) → apply_at state number message ≡ Ok applied → WasRead state number message applied
was_read state number message applied e =
    let context = context_of state.held state.baselines in
    let read = bind_ok (server_message_in state.profile context number (bits_of message)) (λ (read : Message). applied_as (apply_read state number read)) applied e in
    let after = bind_ok (server_message_at state.profile context number (bits_of message)) (λ (read : Message × List Bool). read_as read.0) read.0 read.1 in
    record {
      read = after.0.0;
      left = after.0.1;
      by = after.1;
      does = ap (λ (m : Message). apply_read state number m) (same_read after.0.0 read.0 after.2) ∙ same_applied (apply_read state number read.0) applied read.2;
    }

accepted_last : ReadIsSpelled → AppliedIsContext → AcceptedIsHeld → (state : AppliedState) (number first : ℕ) (message : List ℕ) (applied : Application) → IsApplied state → number < 2 ^ 32
    → WasRead state number message applied → is_before first applied.answer.snap ≡ true → IsAcceptedLast applied.state applied.answer message
accepted_last spelled contexts law state number first message applied is fits was =
    let read = was.read in
    let context = context_of state.held state.baselines in
    let now = hearing state read.commands in
    let of_number = section_is_of now number read.section in
    let is_read = (spelled state.profile context number read (bits_of message) was.left is.profile (contexts state is) was.by).0 fits in
    subst (λ (a : Application). is_before first a.answer.snap ≡ true → IsAcceptedLast a.state a.answer message) was.does (λ before. record {
      number = of_number.state ∙ sym of_number.answer;
      front = subst (λ (p : Profile). IsOk (front_at p.code message)) (sym of_number.profile_is) (is_front state.profile context number message (read, was.left) was.by);
      held = subst (λ (n : ℕ). IsSome (view_at (apply_section now number read.section).state.held n)) (sym of_number.state)
          (section_holds law now number first read.section is.held is_read.number_is (few_read state.profile context read.section is_read.section) before);
    })

pub may_note : ReadIsSpelled → AppliedIsContext → AcceptedIsHeld → AppliedMayBeNoted
may_note spelled contexts law state number message applied Waits is fits e = tt
may_note spelled contexts law state number message applied (Runs first) is fits e =
    accepted_last spelled contexts law state number first message applied is fits (was_read state number message applied e)
may_note spelled contexts law state number message applied Ended is fits e = tt
