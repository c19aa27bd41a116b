-- All that a state holds stays well formed and in range, whatever bytes are applied.
use Rattle.std.proofs.Common.{◌≡◌, ℕ, ◌^◌, ◌<◌, ◌≤◌, List, [], Option, None, Result, Ok, Err, refl, sym, subst, inl, arith}
use Rattle.std.specs.Prelude.{All, IfSome, ◌==◌}
use Rattle.std.proofs.lemmas.Bool.{cond_both, leb-false}
use Rattle.std.proofs.lemmas.List.Elements.{All-nil}
use Rattle.q3_bits.specs.Bits.{bits_of}
use Rattle.q3_bits.specs.ResultBind.{◌>>=◌}
use Rattle.q3_bits.proofs.Binds.{bind_ok}
use Rattle.q3_text.specs.Texts.{IsText, IsTextByte}
use Rattle.q3_window.specs.Incoming.{IncomingState, jump_at}
use Rattle.q3_config.specs.Strings.{Pending}
use Rattle.q3_profile.specs.declared.profile.Profile.{Profile}
use Rattle.q3_profile.specs.Profile.{IsCodec}
use Rattle.q3_gamestate.specs.Values.{Gamestate}
use Rattle.q3_gamestate.specs.Laws.{IsGamestate}
use Rattle.q3_svmsg.specs.declared.error.Illegible.{Illegible}
use Rattle.q3_svmsg.specs.Values.{Context, Told, Nothing, Game, Snap, Skipped, HasNumber, Message}
use Rattle.q3_svmsg.specs.Laws.{IsReadTold, IsRead}
use Rattle.q3_svmsg.specs.Reading.{server_message_at, server_message_in}
use Rattle.q3_entity_ring.specs.Snapshot.{Snapshot}
use Rattle.q3_clstate.specs.declared.applied.SnapOutcome.{SnapOutcome}
use Rattle.q3_clstate.specs.declared.applied.SnapOutcome.TheVariants.{NoSnap, Skipped as SkippedFor, Stale}
use Rattle.q3_rings.specs.Rings.{held_snapshot}
use Rattle.q3_clstate.specs.State.{AppliedState, new_state, context_of, passes, accepts, applies_game, is_stale, skipped_for, apply_section, hearing, apply_read, apply_at, state_after_message}
use Rattle.q3_clstate.specs.Standing.{IsApplied}
use Rattle.q3_clstate.proofs.Below.{Below}
use Rattle.q3_clstate.proofs.Hearing.{id_below, hearing_stays}
use Rattle.q3_clstate.proofs.HeldStays as held
use Rattle.q3_clstate.proofs.HeldStays.{context_is, accepted_are, accepted_newest, none_is}

no_text : IsText []
no_text = record { short = omega arith; each = All-nil IsTextByte }

-- at first
pub new_stays : Below → (profile : Profile) → IsCodec profile → 512 ≤ profile.parse_ring → IsApplied (new_state profile)
new_stays below profile codec room = record {
  profile = codec;
  number = omega arith;
  executed = omega arith;
  last = no_text;
  id = omega arith;
  slot = omega arith;
  feed = omega arith;
  strings = below.strings.none;
  texts = below.texts.none;
  baselines = below.baselines profile.entity;
  room = refl;
  held = below.snapshots.none profile.parse_ring room;
  newest = inl refl;
  snapshots = none_is profile profile.parse_ring;
}

-- with another number
passes_stays : (state : AppliedState) (number : ℕ) (outcome : SnapOutcome) → number < 2 ^ 32 → IsApplied state → IsApplied (passes state number outcome).state
passes_stays state number outcome fits is = record {
  profile = is.profile;
  number = fits;
  executed = is.executed;
  last = is.last;
  id = is.id;
  slot = is.slot;
  feed = is.feed;
  strings = is.strings;
  texts = is.texts;
  baselines = is.baselines;
  room = is.room;
  held = is.held;
  newest = is.newest;
  snapshots = is.snapshots;
}

-- after a gamestate
record IsWindow (window : IncomingState) : Type 0 where
  number : window.executed < 2 ^ 32
  last : IsText window.last

jumped : (window : IncomingState) (number : ℕ) → number < 2 ^ 32 → IsWindow window → IsWindow (jump_at window number)
jumped window number fits is =
    cond_both (number == window.executed) window (record { executed = number; last = [] }) IsWindow (λ e. is) (λ e. record { number = fits; last = no_text })

nothing_pending : (o : Option Pending) → o ≡ None → IfSome o (λ pending. All IsTextByte pending.text)
nothing_pending o none = subst (λ (o : Option Pending). IfSome o (λ pending. All IsTextByte pending.text)) (sym none) tt

game_stays : Below → (state : AppliedState) (number : ℕ) (game : Gamestate) → number < 2 ^ 32 → IsGamestate state.profile game → IsApplied state
    → IsApplied (applies_game state number game).state
game_stays below state number game fits is_game is =
    let window = jumped state.executed game.command is_game.command (record { number = is.executed; last = is.last }) in
    record {
      profile = is.profile;
      number = fits;
      executed = window.number;
      last = window.last;
      id = id_below game.strings state.id is.id;
      slot = is_game.slot;
      feed = is_game.feed;
      strings = is_game.strings;
      texts = record { each = is_game.texts; pending = nothing_pending game.strings.pending is_game.pending };
      baselines = is_game.baselines;
      room = is.room;
      held = below.snapshots.none state.held.ring is.held.ring;
      newest = inl refl;
      snapshots = none_is state.profile state.held.ring;
    }

-- after a snapshot that is newer than all others
accepts_stays : Below → (state : AppliedState) (number base : ℕ) (snapshot : Snapshot) → number < 2 ^ 32 → state.held.newest < snapshot.head.number
    → held.IsRead state.profile snapshot → IsApplied state → IsApplied (accepts state number base snapshot).state
accepts_stays below state number base snapshot fits newer read is = record {
  profile = is.profile;
  number = fits;
  executed = is.executed;
  last = is.last;
  id = is.id;
  slot = is.slot;
  feed = is.feed;
  strings = is.strings;
  texts = is.texts;
  baselines = is.baselines;
  room = is.room;
  held = below.snapshots.accept state.held snapshot is.held newer;
  newest = accepted_newest state.held snapshot is.held;
  snapshots = accepted_are state.profile state.held snapshot is.held read is.snapshots;
}

-- after any section that was read
section_stays : Below → (state : AppliedState) (context : Context) (number : ℕ) (section : Told) → number < 2 ^ 32 → IsReadTold state.profile context section
    → HasNumber number section → IsApplied state → IsApplied (apply_section state number section).state
section_stays below state context number Nothing fits read under is = passes_stays state number NoSnap fits is
section_stays below state context number (Game game) fits read under is = game_stays below state number game fits read is
section_stays below state context number (Snap base head entities) fits read under is =
    let snapshot : Snapshot = record { head = head; entities = entities } in
    cond_both (is_stale state.held number) (passes state number Stale) (accepts state number base snapshot) (λ applied. IsApplied applied.state)
    (λ stale. passes_stays state number Stale fits is)
    (λ fresh. let newer = leb-false number state.held.newest fresh in
    accepts_stays below state number base snapshot fits (omega (arith, newer, under)) (record { head = read.0.0; player = read.1; entities = read.0.1; normal = read.2 }) is)
section_stays below state context number (Skipped base) fits read under is =
    let outcome = SkippedFor base (skipped_for (held_snapshot state.held base)) in
    cond_both (is_stale state.held number) (passes state number Stale) (passes state number outcome) (λ applied. IsApplied applied.state)
    (λ stale. passes_stays state number Stale fits is) (λ fresh. passes_stays state number outcome fits is)

-- after a message that was read
read_stays : Below → (state : AppliedState) (context : Context) (number : ℕ) (message : Message) → number < 2 ^ 32 → IsRead state.profile context number message
    → IsApplied state → IsApplied (apply_read state number message).state
read_stays below state context number message fits read is =
    section_stays below (hearing state message.commands) context number message.section fits read.section read.number_is
    (hearing_stays below state message.commands read.commands is)

-- after any bytes
pub bytes_stay : Below → (state : AppliedState) (number : ℕ) (message : List ℕ) → number < 2 ^ 32 → IsApplied state
    → IsApplied (state_after_message state (apply_at state number message))
bytes_stay below state number message fits is = of_read (server_message_in state.profile context number (bits_of message)) refl
  where
    context : Context
    context = context_of state.held state.baselines

    one : Result Message Illegible → Message → Type 0
    one r read = r ≡ Ok read

    same : (x y : Message) → one (Ok x) y → x ≡ y
    same x y e = cc

    of_read : (r : Result Message Illegible) → server_message_in state.profile context number (bits_of message) ≡ r
        → IsApplied (state_after_message state (r >>= λ read. Ok (apply_read state number read)))
    of_read (Err e) answer = is
    of_read (Ok read) answer =
        let found = bind_ok (server_message_at state.profile context number (bits_of message)) (λ read. Ok read.0) read answer in
        let was = below.read state.profile context number found.0.0 (bits_of message) found.0.1 is.profile (context_is state is) found.1 in
        read_stays below state context number read fits (subst (IsRead state.profile context number) (same found.0.0 read found.2) (was.0 fits)) is
