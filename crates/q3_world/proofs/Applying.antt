-- What a message that was built does at a client, by all that the client accepted.
use Rattle.std.proofs.Common.{◌≡◌, ◌<◌, true, false, List, Option, Some, None, Result, Ok, Err, refl, sym, ap, ◌∙◌, inl, inr, arith, ℕ}
use Rattle.std.specs.Prelude.{◌⊎◌, Contains, IfSome, is_ok, if◌then◌else◌}
use Rattle.std.proofs.lemmas.Bool.{cases_Bool, lt-leb}
use Rattle.q3_entity_ring.specs.Snapshot.{Snapshot}
use Rattle.q3_rings.specs.declared.rings.NoBase.{NoBase}
use Rattle.q3_rings.specs.declared.rings.NoBase.TheVariants.{EntitiesGone}
use Rattle.q3_rings.specs.Rings.{is_young, held_snapshot}
use Rattle.q3_rings.specs.Accepted.{SnapshotsStandFor, age_of}
use Rattle.q3_clstate.specs.declared.applied.SnapOutcome.TheVariants.{Accepted, Skipped}
use Rattle.q3_gamestate.specs.Values.{Gamestate}
use Rattle.q3_clstate.specs.State.{AppliedState, applies_game, passes, accepts, skipped_for, hearing, heard_with, has_base, apply_message}
use Rattle.q3_text.specs.declared.text.Command.{Command}
use Rattle.q3_svmsg.specs.Values.{Message}
use Rattle.q3_built.specs.Built.{Built, Telling, number_of, message_of, built_of, game_message_of, game_built_of, IsNear}
use Rattle.q3_world.specs.Layers.{RingLaws}
use Rattle.q3_world.specs.Answering.{outcome_of}
use Rattle.q3_messages.proofs.BuiltText.{has_base_is}

-- a message is applied in one of two ways: its snapshot is accepted, or skipped because the entities of its base are gone
abbrev pub IsAccepted : AppliedState → List Snapshot → ℕ → Telling → Option Snapshot → Snapshot → Type 0
IsAccepted state took n telling base snapshot =
    (outcome_of state.held.ring took base ≡ Accepted (number_of base))
    × (apply_message state n (message_of telling base snapshot)
    ≡ heard_with state telling.commands (accepts (hearing state telling.commands) n (number_of base) snapshot))

abbrev pub IsSkipped : AppliedState → List Snapshot → ℕ → Telling → Option Snapshot → Snapshot → Type 0
IsSkipped state took n telling base snapshot =
    (age : ℕ) × (outcome_of state.held.ring took base ≡ Skipped (number_of base) (EntitiesGone age))
    × (apply_message state n (message_of telling base snapshot)
    ≡ heard_with state telling.commands (passes (hearing state telling.commands) n (Skipped (number_of base) (EntitiesGone age))))

pub applies_built : RingLaws → (state : AppliedState) (took : List Snapshot) (n : ℕ) (telling : Telling) (base : Option Snapshot) (snapshot : Snapshot)
    → SnapshotsStandFor took state.held → state.held.newest < n → IfSome base (λ b. IsNear n b × Contains took b)
    → IsAccepted state took n telling base snapshot ⊎ IsSkipped state took n telling base snapshot
applies_built laws state took n telling None snapshot stands newer known = inl (refl, rw (lt-leb n state.held.newest newer) refl)
applies_built laws state took n telling (Some base) snapshot stands newer known =
    let held = state.held in
    let heard = hearing state telling.commands in
    let number = base.head.number in
    let age = age_of took number in
    let newest = stands.newest in
    let near = known.0.near in
    let stale = lt-leb n held.newest newer in
    let has = has_base_is held number known.0.some in
    let found : held_snapshot held number ≡ (if is_young held.ring age then Ok base else Err (EntitiesGone age)) =
    laws.of_list took held number stands ∙ laws.by_age held.ring took n base stands.accepted known.1 (omega (arith, newer, newest)) near in
    elim (cases_Bool (is_young held.ring age)) [
      | inl young ↦
          let ok : held_snapshot held number ≡ Ok base = found ∙ rw young refl in
          let there : has_base held number ≡ true = has ∙ ap (λ (r : Result Snapshot NoBase). is_ok r) ok in
          inl (rw young refl, rw (there, stale) refl)
      | inr old ↦
          let gone : held_snapshot held number ≡ Err (EntitiesGone age) = found ∙ rw old refl in
          let none : has_base held number ≡ false = has ∙ ap (λ (r : Result Snapshot NoBase). is_ok r) gone in
          inr (age, rw old refl, rw (none, stale) (ap (λ (r : Result Snapshot NoBase). heard_with state telling.commands (passes heard n (Skipped number (skipped_for r)))) gone))
    ]

-- ---- of a message that was built

abbrev pub IsBuiltAccepted : AppliedState → List Snapshot → ℕ → Built → Snapshot → Type 0
IsBuiltAccepted state took n built snapshot =
    (outcome_of state.held.ring took built.base ≡ Accepted (number_of built.base))
    × (apply_message state n built.message
    ≡ heard_with state built.message.commands (accepts (hearing state built.message.commands) n (number_of built.base) snapshot))

abbrev pub IsBuiltSkipped : AppliedState → List Snapshot → ℕ → Built → Type 0
IsBuiltSkipped state took n built =
    (age : ℕ) × (outcome_of state.held.ring took built.base ≡ Skipped (number_of built.base) (EntitiesGone age))
    × (apply_message state n built.message
    ≡ heard_with state built.message.commands (passes (hearing state built.message.commands) n (Skipped (number_of built.base) (EntitiesGone age))))

pub applies_message : RingLaws → (state : AppliedState) (took : List Snapshot) (n : ℕ) (built : Built) (telling : Telling) (snapshot : Snapshot) → built ≡ built_of telling built.baselines built.base snapshot
    → SnapshotsStandFor took state.held → state.held.newest < n → IfSome built.base (λ b. IsNear n b × Contains took b)
    → IsBuiltAccepted state took n built snapshot ⊎ IsBuiltSkipped state took n built
applies_message laws state took n built telling snapshot is stands newer known =
    let number = number_of built.base in
    let message_is : built.message ≡ message_of telling built.base snapshot = ap (λ (b : Built). b.message) is in
    let applied = ap (λ (m : Message). apply_message state n m) message_is in
    let commands : telling.commands ≡ built.message.commands = sym (ap (λ (m : Message). m.commands) message_is) in
    elim (applies_built laws state took n telling built.base snapshot stands newer known) [
      | inl accepted ↦ inl (
        accepted.0,
        applied ∙ (accepted.1 ∙ ap (λ (c : List Command). heard_with state c (accepts (hearing state c) n number snapshot)) commands),
      )
      | inr skipped ↦ inr (
        skipped.0,
        skipped.1,
        applied ∙ (skipped.2 ∙ ap (λ (c : List Command). heard_with state c (passes (hearing state c) n (Skipped number (EntitiesGone skipped.0)))) commands),
      )
    ]

-- one with a gamestate is applied: it takes the place of all before
pub applies_game_message : (state : AppliedState) (n : ℕ) (built : Built) (telling : Telling) (game : Gamestate) → built ≡ game_built_of telling built.baselines game
    → apply_message state n built.message ≡ heard_with state built.message.commands (applies_game (hearing state built.message.commands) n game)
applies_game_message state n built telling game is =
    let message_is : built.message ≡ game_message_of telling game = ap (λ (b : Built). b.message) is in
    let applied = ap (λ (m : Message). apply_message state n m) message_is in
    let commands : telling.commands ≡ built.message.commands = sym (ap (λ (m : Message). m.commands) message_is) in
    applied ∙ ap (λ (c : List Command). heard_with state c (applies_game (hearing state c) n game)) commands
