-- A gamestate that is composed is read back, by one who has nothing yet.
use Rattle.std.proofs.Common.{◌≡◌, ℕ, ◌-◌, ◌*◌, ◌^◌, ◌<◌, ◌≤◌, Bool, false, List, [], ◌++◌, length, replicate, Option, Some, None, Result, Ok, refl, sym, ap, subst, ◌∙◌, arith}
use Rattle.std.specs.Prelude.{nat_lt, IsSome}
use Rattle.std.proofs.lemmas.Bool.{cond_both, ltb-false}
use Rattle.std.proofs.lemmas.List.Elements.{All-nil}
use Rattle.q3_bits.specs.Bits.{bits_of, message_bytes, message_length}
use Rattle.q3_bits.specs.ResultBind.{◌>>=◌}
use Rattle.q3_bits.specs.Laws.{MessageHoldsBits, MessageIsBytes}
use Rattle.q3_strings.specs.Laws.{IsCommand}
use Rattle.q3_config.specs.Strings.{Strings, server_id}
use Rattle.q3_config.specs.Changes.{without_pending}
use Rattle.q3_entity.specs.Baselines.{Baselines, no_baselines}
use Rattle.q3_profile.specs.declared.profile.Profile.{Profile}
use Rattle.q3_gamestate.specs.Values.{Gamestate}
use Rattle.q3_gamestate.specs.Texts.{gamestate_bits}
use Rattle.q3_gamestate.specs.Laws.{IsGamestate}
use Rattle.q3_svmsg.specs.declared.error.Illegible.{Illegible}
use Rattle.q3_svmsg.specs.Values.{Context, Game, Message}
use Rattle.q3_svmsg.specs.Texts.{section_bits, server_message_bits}
use Rattle.q3_svmsg.specs.Reading.{server_message_at, server_message_in}
use Rattle.q3_svmsg.specs.Laws.{IsContext, WrittenIsRead}
use Rattle.q3_clstate.specs.State.{AppliedState, Application, new_state, context_of, apply_read, apply_at}
use Rattle.q3_clstate.specs.Standing.{IsApplied}
use Rattle.q3_clstate.specs.Laws.{ApplyStays, AppliedIsContext}
use Rattle.q3_demo.specs.Records.{longest_record}
use Rattle.q3_demo.specs.Recording.{composed, game_in, game_bits}

-- ---- bytes that are composed

-- they are those of the bits, and not too many
pub record IsComposed (bits : List Bool) (bytes : List ℕ) : Type 0 where
  pub bytes_are : message_bytes bits ≡ bytes
  pub fits : message_length (length bits) ≤ longest_record

abbrev no_bytes : Option (List ℕ)
no_bytes = None

some_bytes : (xs ys : List ℕ) → Some xs ≡ Some ys → xs ≡ ys
some_bytes xs ys e = cc

none_some : (ys : List ℕ) → no_bytes ≡ Some ys → ⊥
none_some ys e = absurd cc

pub is_composed : (bits : List Bool) (bytes : List ℕ) → composed bits ≡ Some bytes → IsComposed bits bytes
is_composed bits bytes =
    cond_both (nat_lt longest_record (message_length (length bits))) no_bytes (Some (message_bytes bits)) (λ (o : Option (List ℕ)). o ≡ Some bytes → IsComposed bits bytes)
    (λ long e. absurd (none_some bytes e))
    (λ short e. record { bytes_are = some_bytes (message_bytes bits) bytes e; fits = ltb-false _ _ short })

pub composed_short : MessageIsBytes → (bits : List Bool) (bytes : List ℕ) → composed bits ≡ Some bytes → length bytes ≤ longest_record
composed_short are_bytes bits bytes e =
    let is = is_composed bits bytes e in
    let fits = is.fits in
    let count : length (message_bytes bits) ≡ message_length (length bits) = (are_bytes bits).0 in
    subst (λ (xs : List ℕ). length xs ≤ longest_record) is.bytes_are (subst (λ (n : ℕ). n ≤ longest_record) (sym count) fits)

abbrev value_of : Result (Message × List Bool) Illegible → Result Message Illegible
value_of read = read >>= λ one. Ok one.0

-- what is read of bits, whatever follows them, is read of their bytes
pub bytes_read : MessageHoldsBits → (profile : Profile) (context : Context) (number : ℕ) (bits : List Bool) (bytes : List ℕ) (message : Message) → composed bits ≡ Some bytes
    → ((rest : List Bool) → server_message_at profile context number (bits ++ rest) ≡ Ok (message, rest))
    → server_message_in profile context number (bits_of bytes) ≡ Ok message
bytes_read holds profile context number bits bytes message e read =
    let zeros = replicate (8 * message_length (length bits) - length bits) false in
    let is = is_composed bits bytes e in
    ap (λ (xs : List ℕ). value_of (server_message_at profile context number (bits_of xs))) (sym is.bytes_are)
    ∙ (ap (λ (bs : List Bool). value_of (server_message_at profile context number bs)) (holds bits)
    ∙ ap value_of (read zeros))

-- ---- a gamestate

-- the message that is composed of a gamestate
abbrev pub game_message : ℕ → Gamestate → Message
game_message issued game = record { ack = issued; commands = []; section = Game game }

-- the gamestate that a client has, as far as a message tells it: a text that is pending isn't told
abbrev pub told_in : AppliedState → Gamestate
told_in state = record (game_in state) { strings = without_pending state.strings }

told_is_gamestate : (state : AppliedState) → IsApplied state → IsSome (server_id state.strings) → IsGamestate state.profile (told_in state)
unfolding server_id
told_is_gamestate state is id = record {
  command = is.executed;
  slot = is.slot;
  feed = is.feed;
  strings = record { count = is.strings.count; size = is.strings.size; each = is.strings.each; pending = tt };
  texts = is.texts.each;
  pending = refl;
  baselines = is.baselines;
  id = id;
}

-- its text doesn't tell a pending text
pending_untold : (profile : Profile) (baselines : Baselines) (issued : ℕ) (state : AppliedState)
    → server_message_bits profile baselines None (game_message issued (game_in state)) ≡ server_message_bits profile baselines None (game_message issued (told_in state))
unfolding server_message_bits section_bits gamestate_bits
pending_untold profile baselines issued state = refl

new_context : ApplyStays → AppliedIsContext → (state : AppliedState) → IsApplied state → IsContext state.profile (context_of (new_state state.profile).held no_baselines)
new_context stays contexts state is =
    let room = is.room in
    let ring = is.held.ring in
    contexts (new_state state.profile) (stays.none state.profile is.profile (omega (arith, room, ring)))

-- it is read so by one who has nothing, whatever is pending
pub told_applies : WrittenIsRead → MessageHoldsBits → ApplyStays → AppliedIsContext → (state : AppliedState) (issued number : ℕ) (bytes : List ℕ) → IsApplied state → IsSome (server_id state.strings)
    → issued < 2 ^ 32 → composed (game_bits state issued) ≡ Some bytes
    → apply_at (new_state state.profile) number bytes ≡ Ok (apply_read (new_state state.profile) number (game_message issued (told_in state)))
told_applies read holds stays contexts state issued number bytes is id fits e =
    let profile = state.profile in
    let new = new_state profile in
    let context = context_of new.held no_baselines in
    let message = game_message issued (told_in state) in
    let text = game_bits state issued in
    let again : (rest : List Bool) → server_message_at profile context number (text ++ rest) ≡ Ok (message, rest) = λ rest.
    ap (λ (bits : List Bool). server_message_at profile context number (bits ++ rest)) (pending_untold profile no_baselines issued state)
    ∙ read profile context number message rest is.profile (new_context stays contexts state is)
    (record { ack = fits; few = omega arith; commands = All-nil IsCommand; section = told_is_gamestate state is id; number_is = tt }) in
    let at : server_message_in profile context number (bits_of bytes) ≡ Ok message = bytes_read holds profile context number text bytes message e again in
    ap (λ (r : Result Message Illegible). r >>= (λ (m : Message). applied_as (apply_read new number m))) at
  where
    applied_as : Application → Result Application Illegible
    applied_as application = Ok application

-- and as the client has it, where nothing is pending
pub game_applies : WrittenIsRead → MessageHoldsBits → ApplyStays → AppliedIsContext → (state : AppliedState) (issued number : ℕ) (bytes : List ℕ) → IsApplied state → IsSome (server_id state.strings)
    → state.strings.pending ≡ None → issued < 2 ^ 32 → composed (game_bits state issued) ≡ Some bytes
    → apply_at (new_state state.profile) number bytes ≡ Ok (apply_read (new_state state.profile) number (record { ack = issued; commands = []; section = Game (game_in state) }))
game_applies read holds stays contexts state issued number bytes is id none fits e =
    told_applies read holds stays contexts state issued number bytes is id fits e
    ∙ ap (λ (strings : Strings). applied_as (apply_read (new_state state.profile) number (game_message issued (record (game_in state) { strings = strings })))) (same state.strings none)
  where
    applied_as : Application → Result Application Illegible
    applied_as application = Ok application

    same : (strings : Strings) → strings.pending ≡ None → without_pending strings ≡ strings
    same strings none = ap (λ p. record strings { pending = p }) (sym none)

pub game_short : MessageIsBytes → (state : AppliedState) (issued : ℕ) (bytes : List ℕ) → composed (game_bits state issued) ≡ Some bytes → length bytes ≤ longest_record
game_short are_bytes state issued bytes e = composed_short are_bytes (game_bits state issued) bytes e
