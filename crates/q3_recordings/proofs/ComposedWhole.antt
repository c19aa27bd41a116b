-- A message that is composed anew, with its snapshot whole, is read whatever is held.
use Rattle.std.proofs.Common.{◌≡◌, ℕ, ◌≤◌, Bool, List, [], ◌∷◌, length, map, Option, Some, None, Result, Ok, Err, refl, sym, ap, subst, ◌∙◌, arith}
use Rattle.std.specs.Prelude.{◌==◌, if◌then◌else◌}
use Rattle.std.specs.Result.{result_ok}
use Rattle.std.proofs.lemmas.Bool.{cond_both}
use Rattle.std.proofs.lemmas.List.Elements.{All-head, All-tail}
use Rattle.q3_bits.specs.Bits.{bits_of}
use Rattle.q3_bits.specs.ResultBind.{◌>>=◌, fault_as}
use Rattle.q3_bits.proofs.Binds.{bind_ok, map_err_ok}
use Rattle.q3_bits.specs.Words.{field_at}
use Rattle.q3_bits.specs.Laws.{MessageHoldsBits, MessageIsBytes}
use Rattle.q3_bits.specs.declared.reader.ReadError.{ReadError}
use Rattle.q3_text.specs.declared.text.Command.{Command}
use Rattle.q3_strings.specs.declared.error.OperationError.{OperationError}
use Rattle.q3_strings.specs.declared.error.OperationError.TheVariants as operations
use Rattle.q3_strings.specs.Operations.{Row, row_at, ending_at}
use Rattle.q3_fields.specs.Kinds.{Layout}
use Rattle.q3_player.specs.declared.head.SnapHead.{SnapHead}
use Rattle.q3_player.specs.declared.state.PlayerState.{PlayerState}
use Rattle.q3_entity.specs.declared.state.EntityState.{EntityState}
use Rattle.q3_entity.specs.Entities.{normal_entity, IsNormal, AreNormal}
use Rattle.q3_entity.specs.Baselines.{Baselines}
use Rattle.q3_profile.specs.declared.profile.Profile.{Profile}
use Rattle.q3_profile.specs.Profile.{IsCodec}
use Rattle.q3_svmsg.specs.declared.error.Illegible.{Illegible}
use Rattle.q3_svmsg.specs.declared.error.Illegible.TheVariants.{Bits, BadOp}
use Rattle.q3_svmsg.specs.Values as told
use Rattle.q3_svmsg.specs.Values.{Context, Told, Snap, Message}
use Rattle.q3_svmsg.specs.Texts.{server_message_bits}
use Rattle.q3_svmsg.specs.Reading.{field_read, operation_error, game_at, section_at, ended_at, rest_at, operations_at, server_message_at, server_message_in}
use Rattle.q3_svmsg.specs.Laws.{IsContext, IsRead, IsReadTold, IsMessage, WrittenIsRead, ReadIsSpelled, normal_told}
use Rattle.q3_entity_ring.specs.Snapshot.{Snapshot}
use Rattle.q3_rings.specs.declared.rings.NoBase.{NoBase}
use Rattle.q3_rings.specs.Laws.{AcceptedIsHeld}
use Rattle.q3_rings.specs.Rings.{HeldSnapshots, held_snapshot, view_at, accept_at}
use Rattle.q3_clstate.specs.declared.applied.SnapOutcome.TheVariants.{Stale}
use Rattle.q3_clstate.specs.State.{AppliedState, Application, context_of, passes, accepts, is_stale, apply_section, apply_read, apply_at, hearing, heard_with}
use Rattle.q3_clstate.specs.Laws.{AppliedIsContext}
use Rattle.q3_demo.specs.Records.{longest_record}
use Rattle.q3_demo.specs.Recording.{Noted, Front, front_at, whole_message, whole_with, whole_of, whole_bits, composed}
use Rattle.q3_recordings.specs.Plays.{IsNoted}
use Rattle.q3_recordings.proofs.ComposedGames.{composed_short, bytes_read}

-- ---- the front of a message

-- what stands before the section is as it was
record KeepsFront (ack : ℕ) (commands : List Command) (message : Message) : Type 0 where
  ack_is : message.ack ≡ ack
  commands_are : message.commands ≡ commands

abbrev Read : Type 0
Read = Result (Message × List Bool) Illegible

abbrev read_so : Message × List Bool → Read
read_so one = Ok one

same_read : (one other : Message × List Bool) → read_so one ≡ read_so other → one ≡ other
same_read one other e = cc

abbrev bad_op : ℕ → Read
bad_op operation = Err (BadOp operation)

none_read : (operation : ℕ) (read : Message × List Bool) → bad_op operation ≡ read_so read → ⊥
none_read operation read e = absurd cc

ended_keeps : (words : List (List Bool)) (message : Message) (section : Told × List Bool) (read : Message × List Bool) → ended_at words message section ≡ Ok read
    → KeepsFront message.ack message.commands read.0
unfolding ended_at
ended_keeps words message section read e =
    let found = bind_ok (fault_as operation_error (ending_at words 8 (length section.1) section.1)) (λ (ending : Unit {0} × List Bool). read_so (record message { section = section.0 }, ending.1)) read e in
    subst (λ (one : Message × List Bool). KeepsFront message.ack message.commands one.0) (same_read (record message { section = section.0 }, found.0.1) read found.2) (record { ack_is = refl; commands_are = refl })

-- where a message is read, it keeps its front
abbrev Keeps : Message → (Message × List Bool) → Read → Type 0
Keeps message read r = r ≡ Ok read → KeepsFront message.ack message.commands read.0

abbrev ends_with : List (List Bool) → Message → Result (Told × List Bool) Illegible → Read
ends_with words message section = section >>= λ one. ended_at words message one

ends_keeps : (words : List (List Bool)) (message : Message) (section : Result (Told × List Bool) Illegible) (read : Message × List Bool) → Keeps message read (ends_with words message section)
ends_keeps words message section read e =
    let found = bind_ok section (λ (one : Told × List Bool). ended_at words message one) read e in
    ended_keeps words message found.0 read found.2

rest_keeps : (profile : Profile) (context : Context) (number operation : ℕ) (message : Message) (bits : List Bool) (read : Message × List Bool)
    → Keeps message read (rest_at profile context number operation message bits)
unfolding rest_at
rest_keeps profile context number operation message bits read =
    let snap = ends_with profile.code message (section_at profile context number bits) in
    let game = ends_with profile.code message (game_at profile bits) in
    let bad : Read = Err (BadOp operation) in
    let whole : Read = Ok (message, bits) in
    cond_both (operation == 8) whole (if operation == 2 then game else if operation == 7 then snap else bad) (Keeps message read)
    (λ end e. subst (λ (one : Message × List Bool). KeepsFront message.ack message.commands one.0) (same_read (message, bits) read e) (record { ack_is = refl; commands_are = refl }))
    (λ other. cond_both (operation == 2) game (if operation == 7 then snap else bad) (Keeps message read)
    (λ is. ends_keeps profile.code message (game_at profile bits) read)
    (λ none. cond_both (operation == 7) snap bad (Keeps message read)
    (λ is. ends_keeps profile.code message (section_at profile context number bits) read)
    (λ nothing e. absurd (none_read operation read e))))

abbrev front_with : ℕ → Row × List Bool → Result Front OperationError
front_with ack row = Ok (record { ack = ack; commands = row.0.commands })

abbrev front_after : List (List Bool) → ℕ × List Bool → Result Front OperationError
front_after words ack = row_at words 5 (length ack.1) [] ack.1 >>= front_with ack.0

-- the row of commands after the leading long, and what the message keeps of both
record ReadRow (profile : Profile) (ack : ℕ) (bits : List Bool) (message : Message) : Type 0 where
  row : Row × List Bool
  by : row_at profile.code 5 (length bits) [] bits ≡ Ok row
  keeps : KeepsFront ack row.0.commands message

row_read : (profile : Profile) (context : Context) (number : ℕ) (ack : ℕ) (bits : List Bool) (read : Message × List Bool)
    → operations_at profile context number (record { ack = ack; commands = []; section = told.Nothing }) bits ≡ Ok read
    → ReadRow profile ack bits read.0
unfolding operations_at
row_read profile context number ack bits read e =
    let found = bind_ok (fault_as operation_error (row_at profile.code 5 (length bits) [] bits))
    (λ (row : Row × List Bool). rest_at profile context number row.0.operation (record { ack = ack; commands = row.0.commands; section = told.Nothing }) row.1) read e in
    record {
      row = found.0;
      by = map_err_ok operation_error (row_at profile.code 5 (length bits) [] bits) found.0 found.1;
      keeps = rest_keeps profile context number found.0.0.operation (record { ack = ack; commands = found.0.0.commands; section = told.Nothing }) found.0.1 read found.2;
    }

-- what a message says before its section
abbrev pub front_of : Message → Front
front_of message = record { ack = message.ack; commands = message.commands }

abbrev fronted_as : Front → Result Front OperationError
fronted_as front = Ok front

front_kept : (ack : ℕ) (commands : List Command) (message : Message) → KeepsFront ack commands message → fronted_as (record { ack = ack; commands = commands }) ≡ fronted_as (front_of message)
front_kept ack commands message keeps =
    ap (λ (n : ℕ). fronted_as (record { ack = n; commands = commands })) (sym keeps.ack_is)
    ∙ ap (λ (cs : List Command). fronted_as (record { ack = message.ack; commands = cs })) (sym keeps.commands_are)

front_read : (profile : Profile) (context : Context) (number : ℕ) (bits : List Bool) (read : Message × List Bool) → server_message_at profile context number bits ≡ Ok read
    → (fault_as operations.Bits (field_at profile.code 32 bits) >>= front_after profile.code) ≡ Ok (front_of read.0)
unfolding server_message_at
front_read profile context number bits read e =
    let found = bind_ok (field_read profile.code 32 bits)
    (λ (ack : ℕ × List Bool). operations_at profile context number (record { ack = ack.0; commands = []; section = told.Nothing }) ack.1) read e in
    let ack = found.0 in
    let field = map_err_ok Bits (field_at profile.code 32 bits) ack found.1 in
    let row = row_read profile context number ack.0 ack.1 read found.2 in
    ap (λ (r : Result (ℕ × List Bool) ReadError). fault_as operations.Bits r >>= front_after profile.code) field
    ∙ (ap (λ (r : Result (Row × List Bool) OperationError). r >>= front_with ack.0) row.by
    ∙ front_kept ack.0 row.row.0.commands read.0 row.keeps)

-- the front of a message that was read is that of its value
pub front_is : (profile : Profile) (context : Context) (number : ℕ) (message : List ℕ) (read : Message × List Bool) → server_message_at profile context number (bits_of message) ≡ Ok read
    → front_at profile.code message ≡ Ok (front_of read.0)
front_is profile context number message read e = front_read profile context number (bits_of message) read e

-- ---- what was accepted

-- a snapshot is accepted of a message's section: what it left, and its number
record Accepts (state : AppliedState) (number : ℕ) (snapshot : Snapshot) (applied : Application) : Type 0 where
  profile_is : applied.state.profile ≡ state.profile
  baselines_are : applied.state.baselines ≡ state.baselines
  number_is : applied.state.number ≡ number
  held_are : applied.state.held ≡ accept_at state.held snapshot

none_accepted : (snapshot : Snapshot) → None ≡ Some snapshot → ⊥
none_accepted snapshot e = absurd cc

section_accepts : (state : AppliedState) (commands : List Command) (number base : ℕ) (snapshot found : Snapshot)
    → (heard_with state commands (apply_section (hearing state commands) number (Snap base snapshot.head snapshot.entities))).accepted ≡ Some found
    → Accepts state number snapshot (heard_with state commands (apply_section (hearing state commands) number (Snap base snapshot.head snapshot.entities)))
section_accepts state commands number base snapshot found =
    let now = hearing state commands in
    cond_both (is_stale state.held number) (passes now number Stale) (accepts now number base snapshot)
    (λ (applied : Application). (heard_with state commands applied).accepted ≡ Some found → Accepts state number snapshot (heard_with state commands applied))
    (λ stale e. absurd (none_accepted found e))
    (λ new e. record { profile_is = refl; baselines_are = refl; number_is = refl; held_are = refl })

-- ---- a message that was applied

abbrev applied_as : Application → Result Application Illegible
applied_as application = Ok application

same_applied : (one other : Application) → applied_as one ≡ applied_as other → one ≡ other
same_applied one other e = cc

abbrev message_as : Message → Result Message Illegible
message_as message = Ok message

same_message : (one other : Message) → message_as one ≡ message_as other → one ≡ other
same_message one other e = cc

read_does : (state : AppliedState) (number : ℕ) (message : List ℕ) (applied : Application) (read : Message) → apply_at state number message ≡ Ok applied
    → server_message_in state.profile (context_of state.held state.baselines) number (bits_of message) ≡ Ok read → apply_read state number read ≡ applied
read_does state number message applied read e by =
    same_applied (apply_read state number read) applied
    (sym (ap (λ (r : Result Message Illegible). r >>= (λ (m : Message). applied_as (apply_read state number m))) by) ∙ e)

-- what is left of a message that was read
rest_read : (profile : Profile) (context : Context) (number : ℕ) (bits : List Bool) (read : Message) → server_message_in profile context number bits ≡ Ok read
    → (rest : List Bool) × (server_message_at profile context number bits ≡ Ok (read, rest))
rest_read profile context number bits read e =
    let found = bind_ok (server_message_at profile context number bits) (λ (one : Message × List Bool). message_as one.0) read e in
    let same = same_message found.0.0 read found.2 in
    (found.0.1, subst (λ (m : Message). server_message_at profile context number bits ≡ Ok (m, found.0.1)) same found.1)

some_message : (one other : Message) → Some one ≡ Some other → one ≡ other
some_message one other e = cc

-- what the message is that is composed
record IsWhole (noted : Noted) (snapshot : Snapshot) (read message : Message) : Type 0 where
  profile_is : noted.applied.state.profile ≡ noted.before.profile
  baselines_are : noted.applied.state.baselines ≡ noted.before.baselines
  fits : IsRead noted.before.profile (context_of noted.before.held noted.before.baselines) noted.applied.answer.number read
  message_is : message ≡ whole_message (front_of read) snapshot

module _ (spelled : ReadIsSpelled) (accepted : AcceptedIsHeld) (contexts : AppliedIsContext) where
  is_whole_message : (noted : Noted) → IsNoted noted → (read : Message)
      → server_message_in noted.before.profile (context_of noted.before.held noted.before.baselines) noted.applied.answer.number (bits_of noted.message) ≡ Ok read
      → (base : ℕ) (snapshot : Snapshot) → read.section ≡ Snap base snapshot.head snapshot.entities → noted.applied.accepted ≡ Some snapshot
      → (message : Message) → whole_of noted.applied.state noted.message ≡ Some message → IsWhole noted snapshot read message
  is_whole_message noted is read by base snapshot section took message whole =
      let before = noted.before in
      let profile = before.profile in
      let context = context_of before.held before.baselines in
      let number = noted.applied.answer.number in
      let after = rest_read profile context number (bits_of noted.message) read by in
      let below = is.number in
      let fits = (spelled profile context number read (bits_of noted.message) after.0 is.stands.profile (contexts before is.stands) after.1).0 (omega (arith, below)) in
      let as_snap = subst (λ (s : Told). IsReadTold profile context s) section fits.section in
      let of_number : snapshot.head.number ≡ number = subst (λ (s : Told). told.HasNumber number s) section fits.number_is in
      let does = read_does before number noted.message noted.applied read is.applies by in
      let does_snap : heard_with before read.commands (apply_section (hearing before read.commands) number (Snap base snapshot.head snapshot.entities)) ≡ noted.applied =
      ap (λ (s : Told). heard_with before read.commands (apply_section (hearing before read.commands) number s)) (sym section) ∙ does in
      let accepts : Accepts before number snapshot noted.applied =
      subst (λ (a : Application). Accepts before number snapshot a) does_snap
      (section_accepts before read.commands number base snapshot snapshot (ap (λ (a : Application). a.accepted) does_snap ∙ took)) in
      let newest = is.newest in
      let newer = is.newer in
      let held : held_snapshot (accept_at before.held snapshot) snapshot.head.number ≡ Ok snapshot =
      accepted before.held snapshot is.stands.held (omega (arith, newest, newer, of_number)) as_snap.0.1.list.few in
      let viewed : view_at noted.applied.state.held noted.applied.state.number ≡ Some snapshot =
      ap (λ (h : HeldSnapshots). view_at h noted.applied.state.number) accepts.held_are
      ∙ (ap (λ (n : ℕ). view_at (accept_at before.held snapshot) n) (accepts.number_is ∙ sym of_number)
      ∙ ap (λ (r : Result Snapshot NoBase). result_ok r) held) in
      let front : front_at noted.applied.state.profile.code noted.message ≡ Ok (front_of read) =
      ap (λ (p : Profile). front_at p.code noted.message) accepts.profile_is
      ∙ front_is profile context number noted.message (read, after.0) after.1 in
      record {
        profile_is = accepts.profile_is;
        baselines_are = accepts.baselines_are;
        fits = fits;
        message_is = some_message message (whole_message (front_of read) snapshot)
            (sym whole
            ∙ (ap (λ (r : Result Front OperationError). whole_with (result_ok r) (view_at noted.applied.state.held noted.applied.state.number)) front
            ∙ ap (λ (o : Option Snapshot). whole_with (Some (front_of read)) o) viewed));
      }

-- ---- it is read back

-- entities in normal form are their normal form
all_normal : (table : Layout) (entities : List EntityState) → AreNormal table entities → map (normal_entity table) entities ≡ entities
all_normal table [] normal = refl
all_normal table (entity ∷ others) normal =
    ap (λ (e : EntityState). e ∷ map (normal_entity table) others) (All-head (IsNormal table) entity others normal)
    ∙ ap (λ (rest : List EntityState). entity ∷ rest) (all_normal table others (All-tail (IsNormal table) entity others normal))

-- what was read, with its snapshot whole, is a message, and has no other normal form
whole_is_message : (profile : Profile) (context other : Context) (number base : ℕ) (snapshot : Snapshot) (read : Message) → IsRead profile context number read
    → read.section ≡ Snap base snapshot.head snapshot.entities → IsMessage profile other number (whole_message (front_of read) snapshot)
whole_is_message profile context other number base snapshot read is section =
    let as_snap = subst (λ (s : Told). IsReadTold profile context s) section is.section in
    record {
      ack = is.ack;
      few = is.few;
      commands = is.commands;
      section = (as_snap.0.0, as_snap.0.1, refl);
      number_is = subst (λ (s : Told). told.HasNumber number s) section is.number_is;
    }

whole_is_normal : (profile : Profile) (context : Context) (base : ℕ) (snapshot : Snapshot) → IsReadTold profile context (Snap base snapshot.head snapshot.entities)
    → normal_told profile (Snap 0 snapshot.head snapshot.entities) ≡ Snap 0 snapshot.head snapshot.entities
whole_is_normal profile context base snapshot is =
    ap (λ (p : PlayerState). Snap 0 (record snapshot.head { player = p }) (map (normal_entity profile.entity) snapshot.entities)) is.1
    ∙ ap (λ (es : List EntityState). Snap 0 snapshot.head es) (all_normal profile.entity snapshot.entities is.2)

whole_is_read : WrittenIsRead → MessageHoldsBits → (profile : Profile) (context other : Context) (number base : ℕ) (snapshot : Snapshot) (read : Message) (bytes : List ℕ) → IsCodec profile
    → IsContext profile other → IsRead profile context number read → read.section ≡ Snap base snapshot.head snapshot.entities
    → composed (server_message_bits profile other.baselines None (whole_message (front_of read) snapshot)) ≡ Some bytes
    → server_message_in profile other number (bits_of bytes) ≡ Ok (whole_message (front_of read) snapshot)
whole_is_read written holds profile context other number base snapshot read bytes codec is_context is section e =
    let whole = whole_message (front_of read) snapshot in
    let as_snap = subst (λ (s : Told). IsReadTold profile context s) section is.section in
    bytes_read holds profile other number (server_message_bits profile other.baselines None whole) bytes whole e
    (λ rest. written profile other number whole rest codec is_context (whole_is_message profile context other number base snapshot read is section)
    ∙ ap (λ (s : Told). with_rest (record whole { section = s }) rest) (whole_is_normal profile context base snapshot as_snap))
  where
    with_rest : Message → List Bool → Read
    with_rest message rest = Ok (message, rest)

pub whole_applies : WrittenIsRead → ReadIsSpelled → MessageHoldsBits → AcceptedIsHeld → AppliedIsContext → (noted : Noted) → IsNoted noted → (read : Message)
    → server_message_in noted.before.profile (context_of noted.before.held noted.before.baselines) noted.applied.answer.number (bits_of noted.message) ≡ Ok read
    → (base : ℕ) (head : SnapHead) (entities : List EntityState) → read.section ≡ Snap base head entities → noted.applied.accepted ≡ Some (record { head = head; entities = entities })
    → (message : Message) → whole_of noted.applied.state noted.message ≡ Some message → (bytes : List ℕ) → composed (whole_bits noted.applied.state message) ≡ Some bytes
    → (play : AppliedState) → play.profile ≡ noted.before.profile → play.baselines ≡ noted.before.baselines → IsContext play.profile (context_of play.held play.baselines)
    → server_message_in play.profile (context_of play.held play.baselines) noted.applied.answer.number (bits_of bytes) ≡ Ok (record { ack = read.ack; commands = read.commands; section = Snap 0 head entities })
whole_applies written spelled holds accepted contexts noted is read by base head entities section took message whole bytes e play same_profile same_baselines is_context =
    let snapshot : Snapshot = record { head = head; entities = entities } in
    let number = noted.applied.answer.number in
    let is_whole = is_whole_message spelled accepted contexts noted is read by base snapshot section took message whole in
    let context = context_of noted.before.held noted.before.baselines in
    let other = context_of play.held play.baselines in
    let text : whole_bits noted.applied.state message ≡ server_message_bits play.profile play.baselines None (whole_message (front_of read) snapshot) =
    ap (λ (m : Message). server_message_bits noted.applied.state.profile noted.applied.state.baselines None m) is_whole.message_is
    ∙ (ap (λ (p : Profile). server_message_bits p noted.applied.state.baselines None (whole_message (front_of read) snapshot)) (is_whole.profile_is ∙ sym same_profile)
    ∙ ap (λ (l : Baselines). server_message_bits play.profile l None (whole_message (front_of read) snapshot)) (is_whole.baselines_are ∙ sym same_baselines)) in
    whole_is_read written holds play.profile context other number base snapshot read bytes
    (subst (λ (p : Profile). IsCodec p) (sym same_profile) is.stands.profile) is_context
    (subst (λ (p : Profile). IsRead p context number read) (sym same_profile) is_whole.fits) section
    (ap (λ (bits : List Bool). composed bits) (sym text) ∙ e)

pub whole_short : MessageIsBytes → (state : AppliedState) (message : Message) (bytes : List ℕ) → composed (whole_bits state message) ≡ Some bytes → length bytes ≤ longest_record
whole_short are_bytes state message bytes e = composed_short are_bytes (whole_bits state message) bytes e
