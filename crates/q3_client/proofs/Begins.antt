-- What a client begins is a message that it may begin.
use Rattle.std.proofs.Common.{◌≡◌, ℕ, ◌+◌, ◌-◌, ◌^◌, ◌<◌, ◌≤◌, true, false, List, [], ◌∷◌, ◌++◌, length, Option, Some, None, refl, sym, ap, subst, inl, inr, arith}
use Rattle.std.specs.Prelude.{Bool, IfSome, filter, nat_lt, nat_le}
use Rattle.std.proofs.lemmas.List.{length-map}
use Rattle.std.proofs.lemmas.List.Elements.{All-nil, All-push, All-drop, All-map, All-filter}
use Rattle.std.proofs.lemmas.Bool.{cases_Bool}
use Rattle.circular_buffer.specs.Buffer.{keep_last}
use Rattle.q3_strings.specs.Laws.{NumberedAreCommands}
use Rattle.q3_window.specs.Outgoing.{IsOutgoing}
use Rattle.q3_chan.specs.Datagrams.{sequence_end, longest_message}
use Rattle.q3_chan.specs.Sending.{UnderWay}
use Rattle.q3_bits.specs.Bits.{message_length}
use Rattle.q3_clmsg.specs.declared.moves.Move.{Move}
use Rattle.q3_clmsg.specs.Moves.{IsMove}
use Rattle.q3_clmsg.specs.Laws.{IsMessage}
use Rattle.q3_svmsg.specs.declared.error.Illegible.{Illegible}
use Rattle.q3_clstate.specs.Standing.{IsApplied}
use Rattle.q3_client.specs.declared.moves.Issued.{Issued}
use Rattle.q3_client.specs.Client.{ClientState, moves_after}
use Rattle.q3_client.specs.Moves.{most_moves, is_carried, carried, asks_delta}
use Rattle.q3_client.specs.Sending.{IsSaid, Emission, next_message, next_said, said_bits, is_unclear, emit_new, emit_left, emit_unless, emit_at, wants_delta}
use Rattle.q3_client.specs.Standing.{AreMoves, IsClient}

-- ---- moves

-- none was issued
pub no_moves : AreMoves []
no_moves = record { each = All-nil (λ (issued : Issued). IsMove issued.one) }

-- one is issued, and the newest stay
pub moves_pushed : (moves now : List Issued) (room : ℕ) (issued : Issued) → now ≡ keep_last room (moves ++ issued ∷ []) → IsMove issued.one → AreMoves moves → AreMoves now
moves_pushed moves now room issued after is are =
    let more : List Issued = moves ++ issued ∷ [] in
    let all = All-push (λ (issued : Issued). IsMove issued.one) moves issued are.each is in
    subst AreMoves (sym after) (record { each = All-drop (λ (issued : Issued). IsMove issued.one) (length more - room) more all })

-- a gamestate wipes them
pub moves_wiped : (game : Bool) (moves : List Issued) → AreMoves moves → AreMoves (moves_after game moves)
moves_wiped true moves are = no_moves
moves_wiped false moves are = are

abbrev one_of : Issued → Move
one_of issued = issued.one

few_pass : (test : Issued → Bool) (moves : List Issued) → length (filter test moves) ≤ length moves
few_pass test [] = omega arith
few_pass test (issued ∷ moves) =
    let few = few_pass test moves in
    elim (cases_Bool (test issued)) [
      | inl goes ↦ rw goes (omega (arith, few))
      | inr stays ↦ rw stays (omega (arith, few))
    ]

-- ---- what a client begins

-- what that rests on
pub record Speaks (client : ClientState) : Type 0 where
  pub applied : IsApplied client.state
  pub taken : client.gathering.taken < 2 ^ 32
  pub window : IsOutgoing client.issued
  pub few : length client.moves ≤ most_moves
  pub moves : AreMoves client.moves

speaks : (client : ClientState) → IsClient client → Speaks client
speaks client is = record { applied = is.applied; taken = is.taken; window = is.window; few = is.few; moves = is.moves }

-- the next message is one that an end may send
next_is_message : NumberedAreCommands → (client : ClientState) → Speaks client → IsMessage (next_message client)
next_is_message law client is =
    let number = client.sending.number + 1 in
    let those = filter (is_carried number client.dup) client.moves in
    let first = client.issued.acknowledged + 1 in
    let numbers : client.issued.acknowledged + length client.issued.waiting ≤ 2 ^ 31 - 1 = is.window.numbers in
    let waiting = is.window.few in
    let few = is.few in
    let commands = law first client.issued.waiting (omega (arith, numbers)) is.window.texts in
    record {
      id = let least = is.applied.id in omega (arith, least);
      acknowledged = is.taken;
      command = is.applied.executed;
      few = omega (arith, waiting, commands.1);
      commands = commands.0;
      few_moves = omega (arith, few, few_pass (is_carried number client.dup) client.moves, length-map those one_of);
      moves = All-map IsMove one_of those (All-filter (is_carried number client.dup) (λ (issued : Issued). IsMove issued.one) client.moves is.moves.each);
      whole = λ none. none_asked (carried number client.dup client.moves) none;
    }
  where
    none_asked : (moves : List Move) → moves ≡ [] → asks_delta (wants_delta client) moves ≡ false
    none_asked [] none = refl
    none_asked (one ∷ moves) none = let long : length (one ∷ moves) ≡ 0 = ap (λ (l : List Move). length l) none in absurd (omega (arith, long))

-- and so is what it is scrambled by
said_next : NumberedAreCommands → (client : ClientState) → Speaks client → is_unclear client.state.profile (next_message client) ≡ false
    → IsSaid client.state.profile client.challenge (next_said client)
said_next law client is clear = record { message = next_is_message law client is; feed = is.applied.feed; key = refl; text = is.applied.last; clear = clear }

pub next_is_said : NumberedAreCommands → (client : ClientState) → IsClient client → is_unclear client.state.profile (next_message client) ≡ false
    → IsSaid client.state.profile client.challenge (next_said client)
next_is_said law client is clear = said_next law client (speaks client is) clear

-- what was begun, if anything was
abbrev Begins : ClientState → Emission → Type 0
Begins client emission = IfSome emission.began (IsSaid client.state.profile client.challenge)

pub begins_new : NumberedAreCommands → (client : ClientState) → Speaks client → Begins client (emit_new client)
begins_new law client is =
    let next = next_said client in
    let bits = said_bits client.state.profile next in
    elim (cases_Bool (nat_le sequence_end (client.sending.number + 1))) [
      | inl ended ↦ rw ended tt
      | inr goes ↦ elim (cases_Bool (is_unclear client.state.profile (next_message client))) [
        | inl hidden ↦ rw (goes, hidden) tt
        | inr clear ↦ elim (cases_Bool (nat_lt longest_message (message_length (length bits)))) [
          | inl long ↦ rw (goes, clear, long) tt
          | inr short ↦ rw (goes, clear, short) (said_next law client is clear)
        ]
      ]
    ]

begins_left : NumberedAreCommands → (client : ClientState) (left : Option UnderWay) → IsClient client → Begins client (emit_left client left)
begins_left law client None is = begins_new law client (speaks client is)
begins_left law client (Some left) is = tt

begins_unless : NumberedAreCommands → (client : ClientState) (cause : Option Illegible) → IsClient client → Begins client (emit_unless client cause)
begins_unless law client None is = begins_left law client client.sending.under_way is
begins_unless law client (Some cause) is = tt

-- whatever it keeps
pub begins : NumberedAreCommands → (client : ClientState) → IsClient client → IfSome (emit_at client).began (IsSaid client.state.profile client.challenge)
unfolding emit_at
begins law client is = begins_unless law client client.dropped is
