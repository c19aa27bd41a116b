-- What the strings follow from in a message that is begun for a client, and in one that the client takes.
use Rattle.std.proofs.Common.{List, None, Ok, Option, Result, Some, [], ap, arith, inl, inr, length, refl, subst, sym, ℕ, ◌++◌, ◌+◌, ◌<◌, ◌∙◌, ◌∷◌, ◌≡◌, ◌≤◌}
use Rattle.std.specs.Prelude.{All, IfSome, if◌then◌else◌, nat_le, nat_lt, ◌==◌, ◌||◌}
use Rattle.std.proofs.lemmas.Bool.{cond_both, eqb-true}
use Rattle.std.proofs.lemmas.List.Elements.{All-push}
use Rattle.q3_bits.specs.Bits.{message_length}
use Rattle.q3_chan.specs.Datagrams.{sequence_end}
use Rattle.q3_chan.specs.Gathering.{Took}
use Rattle.q3_chan.specs.Sending.{UnderWay}
use Rattle.q3_chan.specs.Tags.{IsQuiet, PieceDoes}
use Rattle.q3_chan.specs.declared.gatherer.Gathered.{Gathered}
use Rattle.q3_chan.specs.declared.gatherer.Gathered.TheVariants as gathered
use Rattle.q3_client.specs.Client.{ClientState, Reception, applies, receive_message, take_answer, take_gathered}
use Rattle.q3_clstate.specs.State.{Application, AppliedState, accepts, apply_message, apply_section, has_base, hearing, is_stale, passes, received, skipped_for}
use Rattle.q3_clstate.specs.declared.applied.SnapOutcome.TheVariants.{Skipped, Stale}
use Rattle.q3_config.specs.Strings.{Strings}
use Rattle.q3_entity.specs.declared.state.EntityState.{EntityState}
use Rattle.q3_frames.specs.Frames.{FramesState}
use Rattle.q3_gamestate.specs.Values.{Gamestate}
use Rattle.q3_map.specs.Map.{MapState, begins_game}
use Rattle.q3_player.specs.declared.head.SnapHead.{SnapHead}
use Rattle.q3_profile.specs.declared.profile.Profile.{Profile}
use Rattle.q3_entity_ring.specs.Snapshot.{Snapshot}
use Rattle.q3_rings.specs.Rings.{held_snapshot}
use Rattle.q3_built.specs.Built.{Built, IsBuilt, is_unclear, number_of, built_bits}
use Rattle.q3_slot.specs.Emitting.{SlotEmission, begin, begun_next, emit_built, emit_game, emit_new, emit_next, emit_slot, is_overlong, most_placed, next_frames, next_game, next_game_built, nothing}
use Rattle.q3_slot.specs.Slot.{SlotState, primed}
use Rattle.q3_slot.specs.declared.answer.Emitted.TheVariants as emitted
use Rattle.q3_svmsg.specs.Values as told
use Rattle.q3_svmsg.specs.Values.{Told}
use Rattle.q3_svmsg.specs.declared.error.Illegible.{Illegible}
use Rattle.q3_text.specs.declared.text.Command.{Command}
use Rattle.q3_window.specs.Flow.{FlowLaws}
use Rattle.q3_window.specs.Incoming.{IncomingState, executes, fresh_of, jump_at}
use Rattle.q3_window.specs.Outgoing.{issued_of}
use Rattle.q3_world.specs.Games.{HasGames}
use Rattle.q3_world.specs.StandsFor.{AreCommanded}
use Rattle.q3_world.specs.World.{History, Played, built_at, texts_of, with_game, with_heard, with_taken}
use Rattle.q3_world.proofs.Commanded.{client_hears}
use Rattle.q3_schedules.proofs.StringsSince.{Follows, HasHeard, IsHeard, follows_taken}

-- ---- a message is begun

same_game : (x y : Gamestate) → told.Game x ≡ told.Game y → x ≡ y
same_game x y e = cc

-- one that is begun next: it tells of the last command, and its gamestate has the strings of the map
pub record TellsOf (map : MapState) (last : ℕ) (next : Built) : Type 0 where
  pub last_is : next.last ≡ last
  pub game : (game : Gamestate) → next.message.section ≡ told.Game game → (game.strings ≡ map.strings) × (game.command ≡ last)

-- the map has the same id and strings, and what was begun, if a message was
pub record BeginsSo (map : MapState) (last : ℕ) (after : MapState) (began : Option Built) : Type 0 where
  pub id : after.id ≡ map.id
  pub strings : after.strings ≡ map.strings
  pub tells : IfSome began (TellsOf map last)

abbrev pub EmitsSo : MapState → SlotState → SlotEmission → Type 0
EmitsSo map slot emission = BeginsSo map (issued_of slot.issued) emission.map emission.began

module _ (profile : Profile) (map : MapState) (frames : FramesState) (c : ℕ) (slot : SlotState) where
  emits_game : EmitsSo map slot (emit_game profile slot map frames (next_game_built profile map c slot))
  emits_game =
      cond_both (is_overlong (built_bits profile (next_game_built profile map c slot))) (nothing slot map frames emitted.Overlong)
      (begin (primed slot (slot.sending.number + 1)) (begins_game map) frames
      (emitted.Game (slot.sending.number + 1) (message_length (length (built_bits profile (next_game_built profile map c slot))))) (next_game_built profile map c slot) (built_bits profile (next_game_built profile map c slot)))
      (EmitsSo map slot)
      (λ e. record { id = refl; strings = refl; tells = tt })
      (λ e. record {
        id = refl;
        strings = refl;
        tells = record {
          last_is = refl;
          game = λ game is.
              let same = same_game (next_game map c slot) game is in
              (sym (ap (λ (g : Gamestate). g.strings) same), sym (ap (λ (g : Gamestate). g.command) same));
        };
      })

  emits_snapshot : EmitsSo map slot (emit_built profile slot map (next_frames map frames c slot) (begun_next profile map frames c slot))
  emits_snapshot =
      cond_both (is_overlong (built_bits profile (begun_next profile map frames c slot))) (nothing slot map (next_frames map frames c slot) emitted.Overlong)
      (begin slot map (next_frames map frames c slot)
      (emitted.Snapshot (slot.sending.number + 1) (number_of (begun_next profile map frames c slot).base) (message_length (length (built_bits profile (begun_next profile map frames c slot)))))
      (begun_next profile map frames c slot) (built_bits profile (begun_next profile map frames c slot)))
      (EmitsSo map slot)
      (λ e. record { id = refl; strings = refl; tells = tt })
      (λ e. record { id = refl; strings = refl; tells = record { last_is = refl; game = λ game is. absurd (apart game is) } })
    where
      apart : {base : ℕ} {head : SnapHead} {entities : List EntityState} (game : Gamestate) → told.Snap base head entities ≡ told.Game game → ⊥
      apart game e = absurd cc

  emits_new : EmitsSo map slot (emit_new profile map frames c slot)
  emits_new =
      cond_both (nat_le sequence_end (slot.sending.number + 1) || nat_lt most_placed frames.placed) (nothing slot map frames emitted.SequenceEnd)
      (if is_unclear profile slot.executed.executed then nothing slot map frames emitted.Unclear else emit_next profile map frames c slot)
      (EmitsSo map slot)
      (λ e. record { id = refl; strings = refl; tells = tt })
      (λ e. cond_both (is_unclear profile slot.executed.executed) (nothing slot map frames emitted.Unclear) (emit_next profile map frames c slot)
      (EmitsSo map slot)
      (λ e. record { id = refl; strings = refl; tells = tt })
      (λ e. cond_both slot.owed (emit_game profile slot map frames (next_game_built profile map c slot))
      (emit_built profile slot map (next_frames map frames c slot) (begun_next profile map frames c slot))
      (EmitsSo map slot) (λ e. emits_game) (λ e. emits_snapshot)))

  -- what a slot emits
  pub emits_so : (left : Option UnderWay) → EmitsSo map slot (emit_slot profile map frames c slot left)
  emits_so None = emits_new
  emits_so (Some left) = record { id = refl; strings = refl; tells = tt }

-- the number of a gamestate is that of the last command issued when its message was begun
pub built_last : (profile : Profile) (challenge n : ℕ) (built : Built) (game : Gamestate) → IsBuilt profile challenge n built → built.message.section ≡ told.Game game → game.command ≡ built.last
built_last profile challenge n built game is e =
    elim is.section [
      | inl one ↦
          let section : built.message.section ≡ told.Snap (number_of built.base) one.snapshot.head one.snapshot.entities = ap (λ (b : Built). b.message.section) one.is in
          absurd (apart (sym section ∙ e))
      | inr made ↦
          let section : built.message.section ≡ told.Game made.game = ap (λ (b : Built). b.message.section) made.is in
          ap (λ (g : Gamestate). g.command) (same_game game made.game (sym e ∙ section)) ∙ (made.last ∙ sym (ap (λ (b : Built). b.last) made.is))
    ]
  where
    apart : {base : ℕ} {head : SnapHead} {entities : List EntityState} → told.Snap base head entities ≡ told.Game game → ⊥
    apart e = absurd cc

-- ---- a message is applied

-- a client's state after one
record HeardTo (state : AppliedState) (n last : ℕ) : Type 0 where
  number_is : state.number ≡ n
  executed_is : state.executed.executed ≡ last

jumps_to : (window : IncomingState) (number : ℕ) → (jump_at window number).executed ≡ number
jumps_to window number =
    cond_both (number == window.executed) window (record { executed = number; last = [] }) (λ (w : IncomingState). w.executed ≡ number)
    (λ e. sym (eqb-true number window.executed e)) (λ e. refl)

-- whatever section it has, the commands up to the last are executed
section_heard : (state : AppliedState) (commands : List Command) (n last : ℕ) (section : Told) → (executes state.executed commands).executed ≡ last
    → ((game : Gamestate) → section ≡ told.Game game → game.command ≡ last)
    → HeardTo (apply_section (hearing state commands) n (received state.held section)).state n last
section_heard state commands n last told.Nothing is game = record { number_is = refl; executed_is = is }
section_heard state commands n last (told.Game g) is game = record { number_is = refl; executed_is = jumps_to (executes state.executed commands) g.command ∙ game g refl }
section_heard state commands n last (told.Snap base head entities) is game =
    let heard = hearing state commands in
    cond_both (has_base state.held base) (told.Snap base head entities) (told.Skipped base) (λ (s : Told). HeardTo (apply_section heard n s).state n last)
    (λ e. cond_both (is_stale heard.held n) (passes heard n Stale) (accepts heard n base (record { head = head; entities = entities })) (λ (a : Application). HeardTo a.state n last)
    (λ e. record { number_is = refl; executed_is = is }) (λ e. record { number_is = refl; executed_is = is }))
    (λ e. cond_both (is_stale heard.held n) (passes heard n Stale) (passes heard n (Skipped base (skipped_for (held_snapshot heard.held base)))) (λ (a : Application). HeardTo a.state n last)
    (λ e. record { number_is = refl; executed_is = is }) (λ e. record { number_is = refl; executed_is = is }))
section_heard state commands n last (told.Skipped base) is game =
    let heard = hearing state commands in
    cond_both (is_stale heard.held n) (passes heard n Stale) (passes heard n (Skipped base (skipped_for (held_snapshot heard.held base)))) (λ (a : Application). HeardTo a.state n last)
    (λ e. record { number_is = refl; executed_is = is }) (λ e. record { number_is = refl; executed_is = is })

-- the gamestate of a message, as it is noted
abbrev pub noted : History → ℕ → Built → Gamestate → ℕ → ℕ → ℕ → Played
noted history n built game executed accepted time = record {
  number = n;
  game = game;
  accepted = accepted;
  executed = length (history.client_executed ++ texts_of (fresh_of executed built.message.commands));
  time = time;
}

-- a newer message that was built for a client is applied: it has heard it, and its gamestate, if it has one
pub record HearsIt (client : ClientState) (history : History) (n : ℕ) (built : Built) : Type 0 where
  pub heard : HasHeard (apply_message client.state n built.message).state history.built history.games
  pub game : (game : Gamestate) (accepted time : ℕ) → built.message.section ≡ told.Game game
      → HasHeard (apply_message client.state n built.message).state history.built (history.games ++ noted history n built game client.state.executed.executed accepted time ∷ [])

pub hears_it : FlowLaws → (profile : Profile) (slot : SlotState) (client : ClientState) (history : History) (n : ℕ) → client.gathering.taken < n → n ≤ length history.built
    → IsBuilt profile slot.challenge n (built_at history.built n) → AreCommanded slot client history
    → HasGames client.state client.gathering.taken client.last_time history.built history.games history.accepted history.client_executed
    → HasHeard client.state history.built history.games → HearsIt client history n (built_at history.built n)
hears_it laws profile slot client history n newer within is commanded games heard =
    let built = built_at history.built n in
    let hears = client_hears laws slot client history n newer within commanded in
    let after = (apply_message client.state n built.message).state in
    let so = section_heard client.state built.message.commands n built.last built.message.section hears.last (λ game e. built_last profile slot.challenge n built game is e) in
    let number = so.number_is in
    let each : All (IsHeard after.number) history.games =
    λ k d lt.
    let most = (games.each k d lt).most in
    record { most = omega (arith, most, newer, number); up_to = (heard.each k d lt).up_to } in
    let last : 1 ≤ after.number → after.executed.executed ≡ (built_at history.built after.number).last =
    λ some. so.executed_is ∙ ap (λ (k : ℕ). (built_at history.built k).last) (sym number) in
    record {
      heard = record { begun = omega (arith, within, number); last = last; each = each };
      game = λ game accepted time e.
          record {
            begun = omega (arith, within, number);
            last = last;
            each = All-push (IsHeard after.number) history.games (noted history n built game client.state.executed.executed accepted time) each
                (record {
                  most = omega (arith, number);
                  up_to = sym hears.to_client.runs.executed ∙ (hears.last ∙ sym (built_last profile slot.challenge n built game is e));
                });
          };
    }

-- ---- what is noted of it

-- what is said of a client's messages, gamestates and commands
abbrev pub OfNoted : Type 1
OfNoted = List Built → List Played → List (List ℕ) → Type 0

abbrev Says : OfNoted → History → Type 0
Says P history = P history.built history.games history.server_commands

module _ (P : OfNoted) (history : History) (n time : ℕ) (commands : List Command) where
  noted_without : (accepted : Option Snapshot) → Says P history → Says P (with_game (with_heard history accepted commands) n time None)
  noted_without None is = is
  noted_without (Some snapshot) is = is

  noted_with : (game : Gamestate) (accepted : Option Snapshot)
      → ((count : ℕ) → P history.built (history.games ++ record { number = n; game = game; accepted = count; executed = length (history.client_executed ++ texts_of commands); time = time } ∷ []) history.server_commands)
      → Says P (with_game (with_heard history accepted commands) n time (Some game))
  noted_with game None is = is (length history.accepted)
  noted_with game (Some snapshot) is = is (length (history.accepted ++ snapshot ∷ []))

-- ---- a datagram of it arrives

-- of a client in this state, of which this is noted
abbrev pub OfState : ℕ → Strings → List Built → List (List ℕ) → AppliedState → History → Type 0
OfState id strings old before state history = Follows id strings old before (Some state) history.built history.games history.server_commands

abbrev pub Read : Type 0
Read = Result Reception Illegible

module _ (id : ℕ) (strings : Strings) (old : List Built) (before : List (List ℕ)) (history : History) where
  -- with nothing whole it changes nothing
  quiet_follows : (client : ClientState) (answer : Gathered) (read : ℕ → Read) (n : ℕ) (section : Told) → IsQuiet answer → OfState id strings old before client.state history
      → OfState id strings old before (take_answer client answer read).client.state (with_taken history n section (take_answer client answer read))
  quiet_follows client gathered.Partial read n section quiet is = is
  quiet_follows client gathered.Old read n section quiet is = is
  quiet_follows client gathered.OutOfOrder read n section quiet is = is
  quiet_follows client answer read n section quiet is = absurd quiet

  -- a message that came whole is applied
  applied_follows : (client now : ClientState) (n : ℕ) (built : Built) (plain : List ℕ) (section : Told) → built.message.section ≡ section → HearsIt client history n built
      → OfState id strings old before client.state history
      → OfState id strings old before (applies now (receive_message client n built.message plain)).client.state (with_taken history n section (applies now (receive_message client n built.message plain)))
  applied_follows client now n built plain section at hears is =
      let applied = apply_message client.state n built.message in
      let P : OfNoted = λ b g i. Follows id strings old before (Some applied.state) b g i in
      let left : Says P history = follows_taken id strings old before (Some client.state) history.built history.games history.server_commands applied.state history.games hears.heard is in
      let with_none : Says P (with_game (with_heard history applied.accepted applied.heard) n now.last_time None) = noted_without P history n now.last_time applied.heard applied.accepted left in
      go section at with_none
    where
      go : (section : Told) → built.message.section ≡ section
          → OfState id strings old before (apply_message client.state n built.message).state
          (with_game (with_heard history (apply_message client.state n built.message).accepted (apply_message client.state n built.message).heard) n now.last_time None)
          → OfState id strings old before (apply_message client.state n built.message).state (with_taken history n section (applies now (receive_message client n built.message plain)))
      go told.Nothing at none = none
      go (told.Snap base head entities) at none = none
      go (told.Skipped base) at none = none
      go (told.Game game) at none =
          let applied = apply_message client.state n built.message in
          noted_with (λ b g i. Follows id strings old before (Some applied.state) b g i) history n now.last_time applied.heard game applied.accepted
          (λ count. follows_taken id strings old before (Some client.state) history.built history.games history.server_commands applied.state
          (history.games ++ noted history n built game client.state.executed.executed count now.last_time ∷ []) (hears.game game count now.last_time at) is)

  -- either becomes of it
  pub take_follows : (client : ClientState) (took : Took) (n : ℕ) (message : List ℕ) (built : Built) (plain : List ℕ) → PieceDoes client.gathering n message took
      → (client.gathering.taken < n → HearsIt client history n built) → OfState id strings old before client.state history
      → OfState id strings old before (take_gathered client took (λ k. Ok (receive_message client k built.message plain))).client.state
      (with_taken history n built.message.section (take_gathered client took (λ k. Ok (receive_message client k built.message plain))))
  take_follows client took n message built plain does hears is =
      let now = record client { gathering = took.gathering } in
      let read : ℕ → Read = λ k. Ok (receive_message client k built.message plain) in
      elim does.either [
        | inl waits ↦ quiet_follows now took.answer read n built.message.section waits.quiet is
        | inr came ↦
            subst (λ (a : Gathered). OfState id strings old before (take_answer now a read).client.state (with_taken history n built.message.section (take_answer now a read))) (sym came.answer)
            (applied_follows client now n built plain built.message.section refl (hears came.newer) is)
      ]
