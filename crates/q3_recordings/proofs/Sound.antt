-- A client whose messages may be noted.
use Rattle.std.proofs.Common.{◌≡◌, ◌⊎◌, ℕ, ◌+◌, ◌^◌, ◌<◌, ◌≤◌, Bool, true, List, [], ◌∷◌, ◌++◌, length, Option, Some, None, Result, Ok, Err, inl, inr, refl, sym, ap, subst, ◌∙◌, arith}
use Rattle.std.specs.Prelude.{◌&&◌, not, nat_lt, nat_le, if◌then◌else◌}
use Rattle.std.proofs.lemmas.Bool.{cond_both, leb-true, and_parts}
use Rattle.std.proofs.lemmas.List.{length-append}
use Rattle.q3_bits.specs.Bits.{bits_of, message_bytes, message_length}
use Rattle.q3_bits.proofs.Binds.{bind_ok}
use Rattle.q3_window.specs.Outgoing.{OutgoingState, most_waiting, most_text, last_number, total_of, issued_of, fits, issue_at, Issuing}
use Rattle.q3_profile.specs.declared.profile.Profile.{Profile}
use Rattle.q3_profile.specs.Profile.{IsCodec}
use Rattle.q3_chan.specs.Datagrams.{longest_message, sequence_end}
use Rattle.q3_chan.specs.Gathering.{Gathering}
use Rattle.q3_chan.specs.Sending.{UnderWay, started}
use Rattle.q3_chan.specs.Keys.{client_scrambled}
use Rattle.q3_svmsg.specs.declared.error.Illegible.{Illegible}
use Rattle.q3_svmsg.specs.Reading.{server_message_in}
use Rattle.q3_svmsg.specs.Values.{Told, Nothing, Game, Snap, Skipped, Message}
use Rattle.q3_svmsg.specs.Laws.{ReadIsSpelled}
use Rattle.q3_rings.specs.Rings.{held_snapshot}
use Rattle.q3_clstate.specs.declared.applied.Applied.{Applied}
use Rattle.q3_clstate.specs.declared.applied.SnapOutcome.TheVariants.{Skipped as SkippedFor, Stale}
use Rattle.q3_clstate.specs.State.{AppliedState, Application, context_of, passes, accepts, is_stale, skipped_for, apply_section, hearing, apply_read, apply_at, state_after_message}
use Rattle.q3_clstate.specs.Standing.{IsApplied}
use Rattle.q3_clstate.specs.Laws.{ApplyStays, AppliedIsContext}
use Rattle.q3_clmsg.specs.declared.moves.Move.{Move}
use Rattle.q3_client.specs.declared.client.ClientTook.{ClientTook}
use Rattle.q3_client.specs.declared.client.ClientTook.TheVariants as took
use Rattle.q3_client.specs.declared.client.MoveError.{MoveError}
use Rattle.q3_client.specs.declared.client.MoveError.TheVariants.{NoGame, NotLater, Range}
use Rattle.q3_client.specs.declared.client.Sent.TheVariants as sent
use Rattle.q3_client.specs.Client.{ClientState, Taken, new_client, type_at, take_at}
use Rattle.q3_client.specs.Moves.{Handed, is_issuable, issue, add_move_at}
use Rattle.q3_client.specs.Sending.{Said, Emission, next_message, next_said, said_bits, is_unclear, nothing, hand_out, emit_bits, emit_new, emit_left, emit_unless, emit_at}
use Rattle.q3_client.specs.Laws.{WasApplied, WasLeft, TakesMessages}
use Rattle.q3_demo.specs.Records.{number_end}
use Rattle.q3_demo.specs.Recording.{Noted}
use Rattle.q3_schedules.specs.Recorded.{noted_of}
use Rattle.q3_recordings.specs.Plays.{IsNoted}
use Rattle.q3_recordings.proofs.ReadAlike.{read_is}
use Rattle.q3_recordings.proofs.PlaysAs.{section_number, section_newest}

-- all that the messages left is well formed; no snapshot is newer than the message that was applied last, and that none newer than the last that was taken
pub record IsSound (profile : Profile) (client : ClientState) : Type 0 where
  pub applied : IsApplied client.state
  pub by : client.state.profile ≡ profile
  pub newest : client.state.held.newest ≤ client.state.number
  pub number : client.state.number ≤ client.gathering.taken
  pub taken : client.gathering.taken < number_end
  pub begun : client.state.has_game ≡ true → 0 < client.state.number
  pub issued : issued_of client.issued < 2 ^ 32

pub new_sound : ApplyStays → (profile : Profile) (challenge qport dup : ℕ) → IsCodec profile → 512 ≤ profile.parse_ring → IsSound profile (new_client profile challenge qport dup)
new_sound stays profile challenge qport dup codec room = record {
  applied = stays.none profile codec room;
  by = refl;
  newest = omega arith;
  number = omega arith;
  taken = omega arith;
  begun = λ e. absurd cc;
  issued = omega arith;
}

-- where the messages left the same
sound_as : (profile : Profile) (old new : ClientState) → new.state ≡ old.state → old.gathering.taken ≤ new.gathering.taken → new.gathering.taken < number_end
    → issued_of new.issued < 2 ^ 32 → IsSound profile old → IsSound profile new
sound_as profile old new state rises below issued is =
    let number : new.state.number ≡ old.state.number = ap (λ (state : AppliedState). state.number) state in
    let newest = is.newest in
    let under = is.number in
    record {
      applied = subst IsApplied (sym state) is.applied;
      by = ap (λ (state : AppliedState). state.profile) state ∙ is.by;
      newest = subst (λ (state : AppliedState). state.held.newest ≤ state.number) (sym state) newest;
      number = omega (arith, number, under, rises);
      taken = below;
      begun = subst (λ (state : AppliedState). state.has_game ≡ true → 0 < state.number) (sym state) is.begun;
      issued = issued;
    }

-- ---- what is handed in or emitted changes nothing of what messages left

pub record Keeps (profile : Profile) (old new : ClientState) : Type 0 where
  pub state : new.state ≡ old.state
  pub sound : IsSound profile old → IsSound profile new

record AreAlike (old new : ClientState) : Type 0 where
  state : new.state ≡ old.state
  gathering : new.gathering ≡ old.gathering
  issued : new.issued ≡ old.issued

alike : (client : ClientState) → AreAlike client client
alike client = record { state = refl; gathering = refl; issued = refl }

alike_keeps : (profile : Profile) (old new : ClientState) → AreAlike old new → Keeps profile old new
alike_keeps profile old new are = record {
  state = are.state;
  sound = λ is.
      let taken : new.gathering.taken ≡ old.gathering.taken = ap (λ (g : Gathering). g.taken) are.gathering in
      let below = is.taken in
      sound_as profile old new are.state (omega (arith, taken)) (omega (arith, taken, below)) (subst (λ (window : OutgoingState). issued_of window < 2 ^ 32) (sym are.issued) is.issued) is;
}

pub keeps_same : (profile : Profile) (client : ClientState) → Keeps profile client client
keeps_same profile client = record { state = refl; sound = λ is. is }

issue_fits : (window : OutgoingState) (text : List ℕ) → issued_of window < 2 ^ 32 → issued_of (issue_at window text).window < 2 ^ 32
issue_fits window text below =
    cond_both (fits window 1 (length text)) (record { window = record window { waiting = window.waiting ++ text ∷ [] }; answer = Ok (issued_of window + 1) }) (record { window = window; answer = Err (record {}) })
    (λ (issuing : Issuing). issued_of issuing.window < 2 ^ 32)
    (λ e. let few = nat_le (length window.waiting + 1) most_waiting && nat_le (total_of window.waiting + length text) most_text in
    let room = leb-true (issued_of window + 1) last_number (and_parts few (nat_le (issued_of window + 1) last_number) e).1 in
    let long = length-append window.waiting (text ∷ []) in
    omega (arith, room, long))
    (λ e. below)

pub typed_keeps : (profile : Profile) (client : ClientState) (text : List ℕ) → Keeps profile client (type_at client text).client
typed_keeps profile client text = record {
  state = refl;
  sound = λ is. sound_as profile client (type_at client text).client refl (omega arith) is.taken (issue_fits client.issued text is.issued) is;
}

moved_alike : (client : ClientState) (one : Move) → AreAlike client (add_move_at client one).client
moved_alike client one =
    let in_range : Handed MoveError = if is_issuable one then record { client = issue client one; answer = Ok tt } else record { client = client; answer = Err Range } in
    let later : Handed MoveError = if nat_le one.time client.last_time then record { client = client; answer = Err (NotLater client.last_time) } else in_range in
    let Alike = λ (handed : Handed MoveError). AreAlike client handed.client in
    cond_both (not client.state.has_game) (record { client = client; answer = Err NoGame }) later Alike (λ e. alike client)
    (λ e. cond_both (nat_le one.time client.last_time) (record { client = client; answer = Err (NotLater client.last_time) }) in_range Alike (λ e. alike client)
    (λ e. cond_both (is_issuable one) (record { client = issue client one; answer = Ok tt }) (record { client = client; answer = Err Range }) Alike
    (λ e. record { state = refl; gathering = refl; issued = refl }) (λ e. alike client)))

pub moved_keeps : (profile : Profile) (client : ClientState) (one : Move) → Keeps profile client (add_move_at client one).client
moved_keeps profile client one = alike_keeps profile client (add_move_at client one).client (moved_alike client one)

bits_alike : (client : ClientState) (said : Said) (bits : List Bool) → AreAlike client (emit_bits client said bits).client
bits_alike client said bits =
    let begun = started client.sending (client_scrambled said.key (message_bytes bits)) in
    cond_both (nat_lt longest_message (message_length (length bits))) (nothing client sent.Overlong)
    (hand_out (record client { sending = begun }) 0 (sent.Message (client.sending.number + 1) (message_length (length bits))) (Some said)) (λ (emission : Emission). AreAlike client emission.client)
    (λ long. alike client) (λ short. record { state = refl; gathering = refl; issued = refl })

new_alike : (client : ClientState) → AreAlike client (emit_new client).client
new_alike client =
    let message = next_message client in
    let begun : Emission = emit_bits client (next_said client) (said_bits client.state.profile (next_said client)) in
    let clear : Emission = if is_unclear client.state.profile message then nothing client sent.Unclear else begun in
    let Alike = λ (emission : Emission). AreAlike client emission.client in
    cond_both (nat_le sequence_end (client.sending.number + 1)) (nothing client sent.SequenceEnd) clear Alike (λ e. alike client)
    (λ e. cond_both (is_unclear client.state.profile message) (nothing client sent.Unclear) begun Alike (λ e. alike client)
    (λ e. bits_alike client (next_said client) (said_bits client.state.profile (next_said client))))

left_alike : (client : ClientState) (left : Option UnderWay) → AreAlike client (emit_left client left).client
left_alike client None = new_alike client
left_alike client (Some left) = record { state = refl; gathering = refl; issued = refl }

unless_alike : (client : ClientState) (dropped : Option Illegible) → AreAlike client (emit_unless client dropped).client
unless_alike client None = left_alike client client.sending.under_way
unless_alike client (Some cause) = alike client

emitted_alike : (client : ClientState) → AreAlike client (emit_at client).client
unfolding emit_at
emitted_alike client = unless_alike client client.dropped

pub emitted_keeps : (profile : Profile) (client : ClientState) (on : Bool) → Keeps profile client (emit_at (record client { asks_whole = on })).client
emitted_keeps profile client on =
    let asks : ClientState = record client { asks_whole = on } in
    let are = emitted_alike asks in
    alike_keeps profile client (emit_at asks).client (record { state = are.state; gathering = are.gathering; issued = are.issued })

-- ---- a message that was applied

-- the profile stays
section_profile : (state : AppliedState) (number : ℕ) (told : Told) → (apply_section state number told).state.profile ≡ state.profile
section_profile state number Nothing = refl
section_profile state number (Game game) = refl
section_profile state number (Snap base head entities) =
    cond_both (is_stale state.held number) (passes state number Stale) (accepts state number base (record { head = head; entities = entities }))
    (λ (applied : Application). applied.state.profile ≡ state.profile) (λ e. refl) (λ e. refl)
section_profile state number (Skipped base) =
    cond_both (is_stale state.held number) (passes state number Stale) (passes state number (SkippedFor base (skipped_for (held_snapshot state.held base))))
    (λ (applied : Application). applied.state.profile ≡ state.profile) (λ e. refl) (λ e. refl)

abbrev applied_as : Application → Result Application Illegible
applied_as application = Ok application

are_same : (one other : Application) → applied_as one ≡ applied_as other → one ≡ other
are_same one other e = cc

-- what it left is of the same profile and has its number, and no snapshot is newer
record Leaves (before : AppliedState) (number : ℕ) (applied : Application) : Type 0 where
  by : applied.state.profile ≡ before.profile
  numbered : applied.state.number ≡ number
  newest : applied.state.held.newest ≤ number

leaves : ReadIsSpelled → AppliedIsContext → (before : AppliedState) (number : ℕ) (message : List ℕ) (applied : Application) → IsApplied before → before.held.newest < number → number < 2 ^ 32
    → apply_at before number message ≡ Ok applied → Leaves before number applied
leaves spelled contexts before number message applied is newer fits e =
    let found = bind_ok (server_message_in before.profile (context_of before.held before.baselines) number (bits_of message)) (λ (read : Message). applied_as (apply_read before number read)) applied e in
    let does = are_same (apply_read before number found.0) applied found.2 in
    let read = read_is spelled before.profile (context_of before.held before.baselines) number found.0 (bits_of message) is.profile (contexts before is) fits found.1 in
    let heard = hearing before found.0.commands in
    record {
      by = subst (λ (applied : Application). applied.state.profile ≡ before.profile) does (section_profile heard number found.0.section);
      numbered = subst (λ (applied : Application). applied.state.number ≡ number) does (section_number heard number found.0.section);
      newest = subst (λ (applied : Application). applied.state.held.newest ≤ number) does (section_newest heard number found.0.section newer read.number_is);
    }

record Laws : Type 0 where
  read : ReadIsSpelled
  stays : ApplyStays
  contexts : AppliedIsContext
  takes : TakesMessages

was_leaving : Laws → (profile : Profile) (client : ClientState) (taken : Taken) (applied : Applied) (was : WasApplied client taken applied) → IsSound profile client
    → Leaves client.state applied.number was.application
was_leaving laws profile client taken applied was is =
    let newest = is.newest in
    let number = is.number in
    let newer = was.newer in
    let fits = was.fits in
    leaves laws.read laws.contexts client.state applied.number taken.client.message was.application is.applied (omega (arith, newest, number, newer)) (omega (arith, fits)) was.does

applied_sound : Laws → (profile : Profile) (client : ClientState) (taken : Taken) (applied : Applied)
    → WasApplied client taken applied → IsSound profile client → IsSound profile taken.client
applied_sound laws profile client taken applied was is =
    let new = was_leaving laws profile client taken applied was is in
    let left : IsApplied was.application.state =
    subst (λ (result : Result Application Illegible). IsApplied (state_after_message client.state result)) was.does (laws.stays.apply client.state applied.number taken.client.message (let fits = was.fits in omega (arith, fits)) is.applied) in
    let numbered : taken.client.state.number ≡ applied.number = subst (λ (state : AppliedState). state.number ≡ applied.number) was.state new.numbered in
    let newest : taken.client.state.held.newest ≤ applied.number = subst (λ (state : AppliedState). state.held.newest ≤ applied.number) was.state new.newest in
    let number = was.newest in
    let fits = was.fits in
    let newer = was.newer in
    let issued = was.issued in
    let before = is.issued in
    record {
      applied = subst IsApplied was.state left;
      by = subst (λ (state : AppliedState). state.profile ≡ profile) was.state (new.by ∙ is.by);
      newest = omega (arith, numbered, newest);
      number = omega (arith, numbered, number);
      taken = omega (arith, number, fits);
      begun = λ e. omega (arith, numbered, newer);
      issued = omega (arith, issued, before);
    }

did_sound : Laws → (profile : Profile) (client : ClientState) (datagram : List ℕ) → IsSound profile client
    → ((applied : Applied) × ((take_at client datagram).answer ≡ took.Applied applied)) ⊎ WasLeft client (take_at client datagram) → IsSound profile (take_at client datagram).client
did_sound laws profile client datagram is (inl did) =
    applied_sound laws profile client (take_at client datagram) did.0 (laws.takes.applies client datagram did.0 did.1) is
did_sound laws profile client datagram is (inr did) =
    sound_as profile client (take_at client datagram).client did.state did.rises (did.fits is.taken) (subst (λ (window : OutgoingState). issued_of window < 2 ^ 32) (sym did.issued) is.issued) is

-- a client that takes a datagram stays sound
pub taken_sound : ReadIsSpelled → ApplyStays → AppliedIsContext → TakesMessages → (profile : Profile) (client : ClientState) (bytes : List ℕ)
    → IsSound profile client → IsSound profile (take_at client bytes).client
taken_sound read stays contexts takes profile client bytes is =
    did_sound (record { read = read; stays = stays; contexts = contexts; takes = takes }) profile client bytes is (takes.leaves client bytes)

-- ---- what is noted of it

-- the message that it applied
pub record NotesOne (client : ClientState) (taken : Taken) (noted : Noted) : Type 0 where
  pub notes : noted_of client taken taken.answer ≡ noted ∷ []
  pub before : noted.before ≡ client.state
  pub after : taken.client.state ≡ noted.applied.state
  pub begun : 0 < taken.client.state.number
  pub is : 0 < client.state.number → IsNoted noted

-- or none
pub record NotesNone (client : ClientState) (taken : Taken) : Type 0 where
  pub notes : noted_of client taken taken.answer ≡ []
  pub same : taken.client.state ≡ client.state

abbrev Notes : ClientState → Taken → Type 0
Notes client taken = ((noted : Noted) × NotesOne client taken noted) ⊎ NotesNone client taken

abbrev noted_with : ClientState → Taken → Applied → Noted
noted_with client taken applied = record {
  before = client.state;
  issued = issued_of client.issued;
  message = taken.client.message;
  applied = record { state = taken.client.state; answer = applied; accepted = taken.accepted; heard = taken.heard };
}

application_is : (client : ClientState) (taken : Taken) (applied : Applied) (was : WasApplied client taken applied)
    → was.application ≡ record { state = taken.client.state; answer = applied; accepted = taken.accepted; heard = taken.heard }
application_is client taken applied was =
    let one = was.application in
    ap (λ (state : AppliedState). record one { state = state }) was.state
    ∙ ap (λ (answer : Applied). record one { state = taken.client.state; answer = answer }) was.answer
    ∙ ap (λ accepted. record one { state = taken.client.state; answer = applied; accepted = accepted }) was.accepted
    ∙ ap (λ heard. record one { state = taken.client.state; answer = applied; accepted = taken.accepted; heard = heard }) was.heard

applied_notes : Laws → (profile : Profile) (client : ClientState) (taken : Taken) (applied : Applied) → taken.answer ≡ took.Applied applied
    → WasApplied client taken applied → IsSound profile client → NotesOne client taken (noted_with client taken applied)
applied_notes laws profile client taken applied answered was is =
    let new = was_leaving laws profile client taken applied was is in
    let numbered : taken.client.state.number ≡ applied.number = subst (λ (state : AppliedState). state.number ≡ applied.number) was.state new.numbered in
    let number = is.number in
    let newer = was.newer in
    record {
      notes = ap (noted_of client taken) answered;
      before = refl;
      after = refl;
      begun = omega (arith, numbered, newer);
      is = λ begun. record {
        stands = is.applied;
        begun = begun;
        newest = is.newest;
        newer = omega (arith, number, newer);
        number = was.fits;
        short = was.short;
        issued = is.issued;
        applies = subst (λ (application : Application). apply_at client.state applied.number taken.client.message ≡ Ok application) (application_is client taken applied was) was.does;
      };
    }

-- where no message was applied, none is noted
notes_nothing : (client : ClientState) (taken : Taken) (answer : ClientTook) → ((applied : Applied) → answer ≡ took.Applied applied → ⊥) → noted_of client taken answer ≡ []
notes_nothing client taken (took.Applied applied) none = absurd (none applied refl)
notes_nothing client taken (took.Dropped cause) none = refl
notes_nothing client taken took.Runt none = refl
notes_nothing client taken took.Connectionless none = refl
notes_nothing client taken took.BadCheck none = refl
notes_nothing client taken took.Old none = refl
notes_nothing client taken took.OutOfOrder none = refl
notes_nothing client taken took.BadFragment none = refl
notes_nothing client taken took.Partial none = refl
notes_nothing client taken (took.Illegible cause) none = refl

did_notes : Laws → (profile : Profile) (client : ClientState) (datagram : List ℕ) → IsSound profile client
    → ((applied : Applied) × ((take_at client datagram).answer ≡ took.Applied applied)) ⊎ WasLeft client (take_at client datagram) → Notes client (take_at client datagram)
did_notes laws profile client datagram is (inl did) =
    inl (noted_with client (take_at client datagram) did.0, applied_notes laws profile client (take_at client datagram) did.0 did.1 (laws.takes.applies client datagram did.0 did.1) is)
did_notes laws profile client datagram is (inr did) = inr (record { notes = notes_nothing client (take_at client datagram) (take_at client datagram).answer did.none; same = did.state })

pub taken_notes : ReadIsSpelled → ApplyStays → AppliedIsContext → TakesMessages → (profile : Profile) (client : ClientState) (bytes : List ℕ)
    → IsSound profile client → ((noted : Noted) × NotesOne client (take_at client bytes) noted) ⊎ NotesNone client (take_at client bytes)
taken_notes read stays contexts takes profile client bytes is =
    did_notes (record { read = read; stays = stays; contexts = contexts; takes = takes }) profile client bytes is (takes.leaves client bytes)
