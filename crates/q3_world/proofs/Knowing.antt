-- What a client holds was accepted, and what it accepted was built.
use Rattle.std.proofs.Common.{◌≡◌, ◌+◌, ◌-◌, ◌<◌, ◌≤◌, List, length, get_or, Option, Some, None, Result, Ok, Err, sym, ap, subst, ◌∙◌, arith, inl, inr, ℕ}
use Rattle.std.specs.Prelude.{All, Contains, IfSome}
use Rattle.std.specs.Result.{result_ok}
use Rattle.std.proofs.lemmas.List.Elements.{All-get_or, All-contains}
use Rattle.q3_profile.specs.declared.profile.Profile.{Profile}
use Rattle.q3_entity_ring.specs.Snapshot.{Snapshot}
use Rattle.q3_rings.specs.declared.rings.NoBase.{NoBase}
use Rattle.q3_rings.specs.Rings.{HeldSnapshots, held_snapshot, view_at}
use Rattle.q3_rings.specs.Accepted.{SnapshotsStandFor}
use Rattle.q3_built.specs.Built.{Built, IsSnapshot, IsNear, IsBuilt}
use Rattle.q3_slot.specs.Slot.{SlotState}
use Rattle.q3_client.specs.Client.{ClientState}
use Rattle.q3_world.specs.Layers.{RingLaws}
use Rattle.q3_messages.specs.MessageLaws.{HoldsThis}
use Rattle.q3_world.specs.World.{History, no_message, built_at}
use Rattle.q3_world.specs.StandsFor.{snapshot_in, WasBuilt, KeepsSlot, AreAsked}
use Rattle.q3_world.proofs.Bases.{some_one, was_built_one}
use Rattle.q3_svmsg.specs.Values as told
use Rattle.q3_entity.specs.declared.state.EntityState.{EntityState}
use Rattle.q3_gamestate.specs.Laws.{IsGamestate}
use Rattle.q3_gamestate.specs.Values.{Gamestate}
use Rattle.q3_player.specs.declared.head.SnapHead.{SnapHead}
use Rattle.q3_world.specs.Games.{Carries}
use Rattle.q3_messages.proofs.Options.{if_some_then, three_some}

-- the messages that were begun are so
abbrev pub AreMessages : Profile → ℕ → List Built → Type 0
AreMessages profile challenge began = (k : ℕ) (d : Built) → k < length began → IsBuilt profile challenge (k + 1) (get_or began k d)

-- the snapshot of a message that was built is one that may be
pub section_is : (profile : Profile) (challenge n : ℕ) (built : Built) (snapshot : Snapshot) → IsBuilt profile challenge n built → snapshot_in built.message.section ≡ Some snapshot → IsSnapshot profile snapshot
section_is profile challenge n built snapshot is has =
    elim is.section [
      | inl one ↦ subst (IsSnapshot profile) (some_one one.snapshot snapshot (sym (ap (λ (b : Built). snapshot_in b.message.section) one.is) ∙ has)) one.are
      | inr game ↦ absurd (none_some (sym (ap (λ (b : Built). snapshot_in b.message.section) game.is) ∙ has))
    ]
  where
    none_some : None ≡ Some snapshot → ⊥
    none_some e = absurd cc

-- and a gamestate that was built is one that may be sent
pub game_built_is : (profile : Profile) (challenge : ℕ) (began : List Built) (n : ℕ) (game : Gamestate) → AreMessages profile challenge began → Carries began n game → IsGamestate profile game
game_built_is profile challenge began n game are carries =
    let some = carries.some in
    let few = carries.begun in
    let is = are (n - 1) no_message (omega (arith, some, few)) in
    elim is.section [
      | inl one ↦ absurd (not_game (sym (ap (λ (b : Built). b.message.section) one.is) ∙ carries.is))
      | inr made ↦ subst (IsGamestate profile) (one_game (sym (ap (λ (b : Built). b.message.section) made.is) ∙ carries.is)) made.are
    ]
  where
    not_game : {base : ℕ} {head : SnapHead} {entities : List EntityState} → told.Snap base head entities ≡ told.Game game → ⊥
    not_game e = absurd cc

    one_game : {other : Gamestate} → told.Game other ≡ told.Game game → other ≡ game
    one_game e = cc

ok_of : (r : Result Snapshot NoBase) (snapshot : Snapshot) → result_ok r ≡ Some snapshot → r ≡ Ok snapshot
ok_of (Ok x) snapshot e = cc
ok_of (Err cause) snapshot e = absurd cc

-- what is held under a number was accepted under it
pub held_was_accepted : RingLaws → (held : HeldSnapshots) (took : List Snapshot) (number : ℕ) (snapshot : Snapshot) → SnapshotsStandFor took held → view_at held number ≡ Some snapshot
    → Contains took snapshot × (snapshot.head.number ≡ number)
held_was_accepted laws held took number snapshot stands viewed =
    laws.accepted held.ring took number snapshot (sym (laws.of_list took held number stands) ∙ ok_of (held_snapshot held number) snapshot viewed)

-- and was built
pub view_was_built : RingLaws → (held : HeldSnapshots) (began : List Built) (took : List Snapshot) (number : ℕ) (snapshot : Snapshot) → SnapshotsStandFor took held → All (WasBuilt began) took
    → view_at held number ≡ Some snapshot → (snapshot.head.number ≡ number) × WasBuilt began snapshot
view_was_built laws held began took number snapshot stands were viewed =
    let was = held_was_accepted laws held took number snapshot stands viewed in
    (was.1, All-contains (WasBuilt began) took snapshot were was.0)

-- and under the number of one that was built there is no other
pub holds_this : RingLaws → (held : HeldSnapshots) (began : List Built) (took : List Snapshot) (base : Snapshot) → SnapshotsStandFor took held → All (WasBuilt began) took → WasBuilt began base
    → HoldsThis held base
holds_this laws held began took base stands were was snapshot viewed =
    let known = view_was_built laws held began took base.head.number snapshot stands were viewed in
    was_built_one began snapshot base known.0 known.1 was

-- ---- the base of a message

-- it is near, was built, and was accepted
abbrev pub KnownBase : ℕ → List Built → List Snapshot → Snapshot → Type 0
KnownBase n began took base = IsNear n base × WasBuilt began base × Contains took base

pub known_base : (profile : Profile) (slot : SlotState) (client : ClientState) (history : History) (n : ℕ) → 1 ≤ n → n ≤ length history.built
    → IsBuilt profile slot.challenge n (built_at history.built n) → KeepsSlot profile slot history.qport history.host history.built history.run history.server_commands → AreAsked slot history.said history.built history.accepted
    → IfSome (built_at history.built n).base (KnownBase n history.built history.accepted)
known_base profile slot client history n some few is keeps asked =
    let lt : n - 1 < length history.built = omega (arith, some, few) in
    three_some (built_at history.built n).base (IsNear n) (WasBuilt history.built) (Contains history.accepted) near
    (All-get_or (λ (b : Built). IfSome b.base (WasBuilt history.built)) history.built (n - 1) no_message lt keeps.bases)
    (All-get_or (λ (b : Built). IfSome b.base (Contains history.accepted)) history.built (n - 1) no_message lt asked.bases)
  where
    near : IfSome (built_at history.built n).base (IsNear n)
    near = elim is.section [
      | inl one ↦ if_some_then (built_at history.built n).base (λ base. IsNear n base × IsSnapshot profile base) (IsNear n) (λ base two. two.0) one.base_is
      | inr game ↦ subst (λ (base : Option Snapshot). IfSome base (IsNear n)) (sym (ap (λ (b : Built). b.base) game.is)) tt
    ]
