-- What a client keeps stays well formed and in range, whatever is handed in and whatever comes.
use Rattle.std.proofs.Common.{◌≡◌, ℕ, ◌+◌, ◌^◌, ◌<◌, ◌≤◌, Bool, List, [], ◌++◌, length, take, Option, Some, None, Result, Ok, Err, refl, sym, ap, subst, ◌∙◌, arith, ◌-◌, ◌∷◌}
use Rattle.std.specs.Prelude.{◌==◌, ◌||◌, not, nat_lt, nat_le, if◌then◌else◌}
use Rattle.std.proofs.lemmas.Bool.{cond_both, eqb-true}
use Rattle.std.proofs.lemmas.List.{length-drop}
use Rattle.circular_buffer.specs.Buffer.{keep_last}
use Rattle.q3_bits.specs.Bits.{bits_of, message_bytes, message_length}
use Rattle.q3_bits.proofs.Binds.{bind_ok}
use Rattle.q3_text.specs.Texts.{IsText}
use Rattle.q3_profile.specs.declared.profile.Profile.{Profile}
use Rattle.q3_profile.specs.Profile.{IsCodec}
use Rattle.q3_chan.specs.declared.gatherer.Gathered.{Gathered}
use Rattle.q3_chan.specs.declared.gatherer.Gathered.TheVariants as gathered
use Rattle.q3_chan.specs.Datagrams.{fragment_size, longest_message, is_fragment, number_in, length_of, has_bad_check, start_in, count_in, after_header}
use Rattle.q3_chan.specs.Gathering.{Gathering, Took, answers as gathers, arrives, emptied, gathering_of, take_whole, add_piece, take_piece, take_fragment, take_newer, is_connectionless, gathered as gathered_of}
use Rattle.q3_chan.specs.Datagrams.{server_form, client_header, sequence_end}
use Rattle.q3_chan.specs.Checks.{check_for}
use Rattle.q3_chan.specs.Laws.{EndsGather, EndsSend}
use Rattle.q3_chan.specs.Sending.{Sending, UnderWay, started, next_of}
use Rattle.q3_chan.specs.Keys.{client_scrambled}
use Rattle.q3_svmsg.specs.declared.error.Illegible.{Illegible}
use Rattle.q3_svmsg.specs.Reading.{server_message_in}
use Rattle.q3_svmsg.specs.Values as told
use Rattle.q3_svmsg.specs.Values.{Told, Message}
use Rattle.q3_window.specs.Outgoing.{IsOutgoing}
use Rattle.q3_window.specs.Laws.{StaysOutgoing}
use Rattle.q3_clmsg.specs.declared.moves.Move.{Move}
use Rattle.q3_clmsg.specs.Moves.{IsMove}
use Rattle.q3_clstate.specs.declared.applied.SnapOutcome.TheVariants.{Stale, Skipped}
use Rattle.q3_clstate.specs.State.{AppliedState, Application, context_of, passes, accepts, is_stale, skipped_for, apply_section, apply_read, apply_at, hearing, state_after_message}
use Rattle.q3_rings.specs.Rings.{held_snapshot}
use Rattle.q3_clstate.specs.Standing.{IsApplied}
use Rattle.q3_clstate.specs.Laws.{ApplyStays}
use Rattle.q3_client.specs.declared.moves.Issued.{Issued}
use Rattle.q3_client.specs.declared.client.MoveError.{MoveError}
use Rattle.q3_client.specs.declared.client.MoveError.TheVariants.{NoGame, NotLater, Range}
use Rattle.q3_client.specs.Client.{ClientState, Reception, new_client, type_at, applies_read, take_answer, take_unless, take_at, receive_bytes, moves_after}
use Rattle.q3_client.specs.Moves.{Handed, most_moves, is_issuable, issue, add_move_at}
use Rattle.q3_client.specs.declared.client.Sent.TheVariants as sent
use Rattle.q3_client.specs.Sending.{Said, Emission, next_message, next_said, said_bits, is_unclear, nothing, hand_out, emit_bits, emit_new, emit_left, emit_unless, emit_at}
use Rattle.q3_client.specs.Standing.{IsClient}
use Rattle.q3_client.proofs.Received.{was_received}
use Rattle.q3_client.proofs.Numbered.{applied_as, are_same}
use Rattle.q3_client.proofs.Begins.{no_moves, moves_pushed, moves_wiped}

-- ---- what was gathered

abbrev number_of : Gathered → ℕ
number_of (gathered.Whole number count) = number
number_of other = 0

-- the newest number taken, and that of a message that came whole, fit a long
record Fits (took : Took) : Type 0 where
  taken : took.gathering.taken < 2 ^ 32
  number : number_of took.answer < 2 ^ 32

record AreShort (g : Gathering) : Type 0 where
  taken : g.taken < 2 ^ 32
  number : g.number < 2 ^ 32

piece_fits : (g : Gathering) (piece : List ℕ) → AreShort g → Fits (add_piece g piece)
piece_fits g piece are =
    cond_both (nat_lt (length piece) fragment_size) (arrives (emptied g) g.number (g.bytes ++ piece)) (gathers (record g { bytes = g.bytes ++ piece }) gathered.Partial) Fits
    (λ e. record { taken = are.number; number = are.number }) (λ e. record { taken = are.taken; number = omega arith })

there_fits : (g : Gathering) (count : ℕ) (there : List ℕ) → AreShort g → Fits (take_piece g count there)
there_fits g count there are =
    cond_both (nat_lt fragment_size count || nat_lt (length there) count || nat_lt longest_message (length g.bytes + count)) (gathers g gathered.BadFragment) (add_piece g (take count there)) Fits
    (λ e. record { taken = are.taken; number = omega arith }) (λ e. piece_fits g (take count there) are)

fragment_fits : (g : Gathering) (start count : ℕ) (there : List ℕ) → AreShort g → Fits (take_fragment g start count there)
fragment_fits g start count there are =
    cond_both (start == length g.bytes) (take_piece g count there) (gathers g gathered.OutOfOrder) Fits
    (λ e. there_fits g count there are) (λ e. record { taken = are.taken; number = omega arith })

newer_fits : (g : Gathering) (datagram : List ℕ) → g.taken < 2 ^ 32 → Fits (take_newer g datagram)
newer_fits g datagram few =
    let n = number_in datagram in
    let short : n < 2 ^ 32 = omega arith in
    let message = after_header g.form datagram in
    let now = gathering_of g n in
    let are : AreShort now = cond_both (n == g.number) g (record g { number = n; bytes = [] }) AreShort
    (λ same. record { taken = few; number = let e = eqb-true n g.number same in omega (arith, e, short) }) (λ other. record { taken = few; number = short }) in
    cond_both (is_fragment datagram) (take_fragment now (start_in g.form datagram) (count_in g.form datagram) message) (take_whole g n message) Fits
    (λ e. fragment_fits now (start_in g.form datagram) (count_in g.form datagram) message are)
    (λ e. cond_both (nat_lt longest_message (length message)) (gathers g gathered.BadFragment) (arrives g n message) Fits
    (λ long. record { taken = few; number = omega arith }) (λ fits. record { taken = short; number = short }))

gathered_fits : (g : Gathering) (datagram : List ℕ) → g.taken < 2 ^ 32 → Fits (gathered_of g datagram)
unfolding gathered_of
gathered_fits g datagram few =
    let newer : Took = if nat_le (number_in datagram) g.taken then gathers g gathered.Old else take_newer g datagram in
    let checked : Took = if has_bad_check g.form.side g.form.check datagram then gathers g gathered.BadCheck else newer in
    let headed : Took = if nat_lt (length datagram) (length_of g.form (is_fragment datagram)) then gathers g gathered.Runt else checked in
    let bare : Took = if is_connectionless datagram then gathers g gathered.Connectionless else headed in
    cond_both (nat_lt (length datagram) 4) (gathers g gathered.Runt) bare Fits (λ e. record { taken = few; number = omega arith })
    (λ e. cond_both (is_connectionless datagram) (gathers g gathered.Connectionless) headed Fits (λ e. record { taken = few; number = omega arith })
    (λ e. cond_both (nat_lt (length datagram) (length_of g.form (is_fragment datagram))) (gathers g gathered.Runt) checked Fits (λ e. record { taken = few; number = omega arith })
    (λ e. cond_both (has_bad_check g.form.side g.form.check datagram) (gathers g gathered.BadCheck) newer Fits (λ e. record { taken = few; number = omega arith })
    (λ e. cond_both (nat_le (number_in datagram) g.taken) (gathers g gathered.Old) (take_newer g datagram) Fits (λ e. record { taken = few; number = omega arith })
    (λ e. newer_fits g datagram few)))))

-- ---- what is received

-- what a section does leaves the profile
section_profiled : (state : AppliedState) (number : ℕ) (section : Told) → (apply_section state number section).state.profile ≡ state.profile
section_profiled state number told.Nothing = refl
section_profiled state number (told.Game game) = refl
section_profiled state number (told.Snap base head entities) =
    cond_both (is_stale state.held number) (passes state number Stale) (accepts state number base (record { head = head; entities = entities }))
    (λ (applied : Application). applied.state.profile ≡ state.profile) (λ e. refl) (λ e. refl)
section_profiled state number (told.Skipped base) =
    cond_both (is_stale state.held number) (passes state number Stale) (passes state number (Skipped base (skipped_for (held_snapshot state.held base))))
    (λ (applied : Application). applied.state.profile ≡ state.profile) (λ e. refl) (λ e. refl)

-- and so does what bytes do
applied_profiled : (state : AppliedState) (number : ℕ) (bytes : List ℕ) (application : Application) → apply_at state number bytes ≡ Ok application → application.state.profile ≡ state.profile
applied_profiled state number bytes application e =
    let read = bind_ok (server_message_in state.profile (context_of state.held state.baselines) number (bits_of bytes)) (λ (read : Message). applied_as (apply_read state number read)) application e in
    let does = are_same (apply_read state number read.0) application read.2 in
    subst (λ (a : Application). a.state.profile ≡ state.profile) does (section_profiled (hearing state read.0.commands) number read.0.section)

-- the state and the window after a message: the profile stays
pub record AreReceived (profile : Profile) (received : Reception) : Type 0 where
  pub applied : IsApplied received.application.state
  pub by : received.application.state.profile ≡ profile
  pub window : IsOutgoing received.issued

pub are_received : ApplyStays → StaysOutgoing → (client : ClientState) (n : ℕ) (bytes : List ℕ) (received : Reception) → n < 2 ^ 32 → IsApplied client.state → IsOutgoing client.issued
    → receive_bytes client n bytes ≡ Ok received → AreReceived client.state.profile received
are_received applies stays client n bytes received fits is window e =
    let was = was_received client n bytes received e in
    record {
      applied = subst (λ (applied : Result Application Illegible). IsApplied (state_after_message client.state applied)) was.does (applies.apply client.state n received.message fits is);
      by = applied_profiled client.state n received.message received.application was.does;
      window = subst IsOutgoing (sym was.window) (stays.acknowledges client.issued was.ack window);
    }

-- ---- a client

-- with what was gathered
gathered_client : (client : ClientState) (g : Gathering) → g.taken < 2 ^ 32 → g.form ≡ client.gathering.form → IsClient client → IsClient (record client { gathering = g })
gathered_client client g few same is =
    record { applied = is.applied; taken = few; window = is.window; few = is.few; moves = is.moves; sends = is.sends; hears = same ∙ is.hears }

few_after : (game : Bool) (moves : List Issued) → length moves ≤ most_moves → length (moves_after game moves) ≤ most_moves
few_after game moves few = cond_both game [] moves (λ (moves : List Issued). length moves ≤ most_moves) (λ e. omega arith) (λ e. few)

read_stays : (client : ClientState) (received : Result Reception Illegible) → ((reception : Reception) → received ≡ Ok reception → AreReceived client.state.profile reception) → IsClient client
    → IsClient (applies_read client received).client
read_stays client (Err cause) are is =
    record { applied = is.applied; taken = is.taken; window = is.window; few = is.few; moves = is.moves; sends = is.sends; hears = is.hears }
read_stays client (Ok reception) are is =
    let after = are reception refl in
    let game = reception.application.answer.game in
    let by = sym after.by in
    record {
      applied = after.applied;
      taken = is.taken;
      window = after.window;
      few = few_after game client.moves is.few;
      moves = moves_wiped game client.moves is.moves;
      sends = is.sends ∙ ap (λ (p : Profile). client_header (check_for p.protocol client.challenge) client.qport) by;
      hears = is.hears ∙ ap (λ (p : Profile). server_form (check_for p.protocol client.challenge)) by;
    }

answer_stays : (client : ClientState) (answer : Gathered) (receive : ℕ → Result Reception Illegible) → number_of answer < 2 ^ 32
    → ((n : ℕ) (reception : Reception) → n < 2 ^ 32 → receive n ≡ Ok reception → AreReceived client.state.profile reception) → IsClient client → IsClient (take_answer client answer receive).client
answer_stays client (gathered.Whole n count) receive fits are is = read_stays client (receive n) (λ reception e. are n reception fits e) is
answer_stays client gathered.Partial receive fits are is = is
answer_stays client gathered.Old receive fits are is = is
answer_stays client gathered.OutOfOrder receive fits are is = is
answer_stays client gathered.BadFragment receive fits are is = is
answer_stays client gathered.BadCheck receive fits are is = is
answer_stays client gathered.Runt receive fits are is = is
answer_stays client gathered.Connectionless receive fits are is = is

unless_stays : EndsGather → ApplyStays → StaysOutgoing → (client : ClientState) (datagram : List ℕ) (dropped : Option Illegible) → IsClient client → IsClient (take_unless client datagram dropped).client
unless_stays gathers applies stays client datagram (Some cause) is = is
unless_stays gathers applies stays client datagram None is =
    let took = gathered_of client.gathering datagram in
    let fits = gathered_fits client.gathering datagram is.taken in
    answer_stays (record client { gathering = took.gathering }) took.answer (λ n. receive_bytes client n took.message) fits.number
    (λ n reception short e. are_received applies stays client n took.message reception short is.applied is.window e) (gathered_client client took.gathering fits.taken (gathers.stays client.gathering datagram) is)

-- whatever bytes it takes
pub takes_stay : EndsGather → ApplyStays → StaysOutgoing → (client : ClientState) (datagram : List ℕ) → IsClient client → IsClient (take_at client datagram).client
unfolding take_at
takes_stay gathers applies stays client datagram is = unless_stays gathers applies stays client datagram client.dropped is

-- ---- what it sends

-- whatever is being sent, by the same header
sending_client : (client : ClientState) (sending : Sending) → sending.header ≡ client.sending.header → IsClient client → IsClient (record client { sending = sending })
sending_client client sending same is =
    record { applied = is.applied; taken = is.taken; window = is.window; few = is.few; moves = is.moves; sends = same ∙ is.sends; hears = is.hears }

bits_stay : EndsSend → (client : ClientState) (said : Said) (bits : List Bool) → IsClient client → IsClient (emit_bits client said bits).client
bits_stay ends client said bits is =
    let begun = started client.sending (client_scrambled said.key (message_bytes bits)) in
    cond_both (nat_lt longest_message (message_length (length bits))) (nothing client sent.Overlong)
    (hand_out (record client { sending = begun }) 0 (sent.Message (client.sending.number + 1) (message_length (length bits))) (Some said)) (λ (emission : Emission). IsClient emission.client)
    (λ long. is) (λ short. sending_client client (next_of begun).sending (ends.stays begun).0 is)

new_stays : EndsSend → (client : ClientState) → IsClient client → IsClient (emit_new client).client
new_stays ends client is =
    let message = next_message client in
    let begun : Emission = emit_bits client (next_said client) (said_bits client.state.profile (next_said client)) in
    let clear : Emission = if is_unclear client.state.profile message then nothing client sent.Unclear else begun in
    let Stays = λ (emission : Emission). IsClient emission.client in
    cond_both (nat_le sequence_end (client.sending.number + 1)) (nothing client sent.SequenceEnd) clear Stays (λ e. is)
    (λ e. cond_both (is_unclear client.state.profile message) (nothing client sent.Unclear) begun Stays (λ e. is)
    (λ e. bits_stay ends client (next_said client) (said_bits client.state.profile (next_said client)) is))

left_stays : EndsSend → (client : ClientState) (left : Option UnderWay) → IsClient client → IsClient (emit_left client left).client
left_stays ends client None is = new_stays ends client is
left_stays ends client (Some left) is = sending_client client (next_of client.sending).sending (ends.stays client.sending).0 is

sends_stay : EndsSend → (client : ClientState) (dropped : Option Illegible) → IsClient client → IsClient (emit_unless client dropped).client
sends_stay ends client None is = left_stays ends client client.sending.under_way is
sends_stay ends client (Some cause) is = is

-- whatever it emits
pub emits_stay : EndsSend → (client : ClientState) → IsClient client → IsClient (emit_at client).client
unfolding emit_at
emits_stay ends client is = sends_stay ends client client.dropped is

-- ---- what is handed in

pub joins_stay : ApplyStays → StaysOutgoing → (profile : Profile) (challenge qport dup : ℕ) → IsCodec profile → 512 ≤ profile.parse_ring → IsClient (new_client profile challenge qport dup)
joins_stay applies stays profile challenge qport dup codec room =
    record { applied = applies.none profile codec room; taken = omega arith; window = stays.opens; few = omega arith; moves = no_moves; sends = refl; hears = refl }

pub asks_stay : (client : ClientState) (on : Bool) → IsClient client → IsClient (record client { asks_whole = on })
asks_stay client on is =
    record { applied = is.applied; taken = is.taken; window = is.window; few = is.few; moves = is.moves; sends = is.sends; hears = is.hears }

pub types_stay : StaysOutgoing → (client : ClientState) (text : List ℕ) → IsText text → IsClient client → IsClient (type_at client text).client
types_stay stays client text is_text is =
    record {
      applied = is.applied;
      taken = is.taken;
      window = stays.issues client.issued text is.window is_text;
      few = is.few;
      moves = is.moves;
      sends = is.sends;
      hears = is.hears;
    }

-- a move is issued
issue_stays : (client : ClientState) (one : Move) → IsMove one → IsClient client → IsClient (issue client one)
issue_stays client one is_one is =
    let issued : Issued = record { begun = client.sending.number; one = one } in
    let more : List Issued = client.moves ++ issued ∷ [] in
    let few : length (keep_last most_moves more) ≤ most_moves = let counted = length-drop (length more - most_moves) more in omega (arith, counted) in
    record {
      applied = is.applied;
      taken = is.taken;
      window = is.window;
      few = few;
      moves = moves_pushed client.moves (keep_last most_moves more) most_moves issued refl is_one is.moves;
      sends = is.sends;
      hears = is.hears;
    }

pub moves_stay : (client : ClientState) (one : Move) → IsMove one → IsClient client → IsClient (add_move_at client one).client
moves_stay client one is_one is =
    let in_range : Handed MoveError = if is_issuable one then record { client = issue client one; answer = Ok tt } else record { client = client; answer = Err Range } in
    let later : Handed MoveError = if nat_le one.time client.last_time then record { client = client; answer = Err (NotLater client.last_time) } else in_range in
    let Stays = λ (handed : Handed MoveError). IsClient handed.client in
    cond_both (not client.state.has_game) (record { client = client; answer = Err NoGame }) later Stays (λ e. is)
    (λ e. cond_both (nat_le one.time client.last_time) (record { client = client; answer = Err (NotLater client.last_time) }) in_range Stays (λ e. is)
    (λ e. cond_both (is_issuable one) (record { client = issue client one; answer = Ok tt }) (record { client = client; answer = Err Range }) Stays
    (λ e. issue_stays client one is_one is) (λ e. is)))
