-- With the usual room no snapshot is skipped.
use Rattle.std.proofs.Common.{◌≡◌, ℕ, zero, suc, ◌+◌, ◌-◌, ◌<◌, ◌≤◌, List, [], ◌∷◌, length, get_or, Option, Some, None, Result, Ok, Err, refl, sym, ap, subst, ◌∙◌, inl, inr, arith}
use Rattle.std.specs.Prelude.{Contains, IfSome, ◌⊎◌}
use Rattle.std.proofs.lemmas.List.{get_or_past}
use Rattle.std.proofs.lemmas.Bool.{cases_Bool, cases_lt}
use Rattle.q3_entity_ring.specs.Snapshot.{Snapshot}
use Rattle.q3_rings.specs.declared.rings.NoBase.{NoBase}
use Rattle.q3_rings.specs.declared.rings.NoBase.TheVariants.{EntitiesGone}
use Rattle.q3_rings.specs.Rings.{is_young}
use Rattle.q3_rings.specs.Accepted.{AreAccepted, newest_of, age_of, held_among}
use Rattle.q3_clstate.specs.declared.applied.Applied.{Applied}
use Rattle.q3_clstate.specs.declared.applied.SnapOutcome.TheVariants.{Accepted, NoSnap}
use Rattle.q3_built.specs.Built.{IsNear, IsBuilt}
use Rattle.q3_svmsg.specs.Values as told
use Rattle.q3_svmsg.specs.Values.{Told}
use Rattle.q3_server.specs.Server.{places}
use Rattle.q3_client.specs.Client.{ClientState}
use Rattle.q3_world.specs.declared.places.Place.{Place}
use Rattle.q3_world.specs.Ends.{Ends, client_at, place_at}
use Rattle.q3_world.specs.World.{no_message, history_at, built_at}
use Rattle.q3_world.specs.Layers.{Layers, RingLaws}
use Rattle.q3_world.specs.ByTags.{kept_then, whole_then, BytesFollowTags}
use Rattle.q3_world.specs.Answering.{outcome_of, outcome_in}
use Rattle.q3_schedules.specs.Schedules.{AppliedWasBuilt, UsualNeverSkips}
use Rattle.q3_world.proofs.Arriving.{waits_none}
use Rattle.q3_messages.proofs.Options.{if_some_then}
use Rattle.q3_world.proofs.Knowing.{KnownBase, known_base}
use Rattle.q3_world.proofs.Holding.{has_client}
use Rattle.q3_world.specs.Games.{accepted_since}
use Rattle.q3_world.proofs.Mapped.{mapped_base}
use Rattle.q3_schedules.proofs.Stood.{Stood, holds_of, place_of, stood}

abbrev held_so : Snapshot → Result Snapshot NoBase
held_so snapshot = Ok snapshot

ok_not_err : (snapshot : Snapshot) (cause : NoBase) → held_so snapshot ≡ Err cause → ⊥
ok_not_err snapshot cause e = absurd cc

-- of a message whose base was accepted lately, a client with the usual room accepts the snapshot
usual_outcome : RingLaws → (ring : ℕ) (accepted : List Snapshot) (n : ℕ) (base : Option Snapshot) → 8192 ≤ ring → AreAccepted accepted → newest_of accepted < n
    → IfSome base (λ b. IsNear n b × Contains accepted b) → (number : ℕ) × (outcome_of ring accepted base ≡ Accepted number)
usual_outcome laws ring accepted n None room are newer known = (0, refl)
usual_outcome laws ring accepted n (Some base) room are newer known =
    let number = base.head.number in
    let age = age_of accepted number in
    let near = known.0.near in
    elim (cases_Bool (is_young ring age)) [
      | inl young ↦ (number, rw young refl)
      | inr old ↦
          let gone : held_among ring accepted number ≡ Err (EntitiesGone age) = laws.by_age ring accepted n base are known.1 newer near ∙ rw old refl in
          absurd (ok_not_err base (EntitiesGone age) (sym (laws.usual ring accepted n base room are known.1 newer near) ∙ gone))
    ]

-- and of its section: a gamestate has no snapshot
usual_in : (ring : ℕ) (accepted : List Snapshot) (base : Option Snapshot) (section : Told) → (number : ℕ) × (outcome_of ring accepted base ≡ Accepted number)
    → (outcome_in ring accepted base section ≡ NoSnap) ⊎ ((number : ℕ) × (outcome_in ring accepted base section ≡ Accepted number))
usual_in ring accepted base (told.Snap number head entities) is = inr is
usual_in ring accepted base section is = inl refl

-- a client that is there has a place
has_place : (clients : List (Option Place)) (c : ℕ) (place : Place) → get_or clients c None ≡ Some place → c < length clients
has_place [] c place e = absurd cc
has_place (x ∷ clients) zero place e = omega arith
has_place (x ∷ clients) (suc c) place e = let after = has_place clients c place e in omega (arith, after)

pub usual_never_skips : BytesFollowTags → Layers → AppliedWasBuilt → UsualNeverSkips
usual_never_skips law below applied_so profile all number c applied commands is are room e =
    let stands : Stood profile (kept_then profile all) (whole_then profile all) = stood law profile all is are in
    let whole = whole_then profile all in
    let holds = holds_of profile (kept_then profile all) whole stands in
    let history = history_at whole.histories c in
    let was = applied_so profile all number c applied commands is are e in
    let n = applied.number in
    let there = place_of (place_at whole.ends c) was.0.0 (ap (λ (ends : Ends). client_at ends c) (sym stands.ends) ∙ was.0.1) in
    let place = there.0 in
    let client = place.client in
    let lt : c < places = let within = has_place whole.ends.clients c place there.1 in omega (arith, within, holds.facts.clients) in
    let had = has_client profile whole c place lt there.1 holds in
    let takes = had.1.joined.of_client in
    let newer : client.gathering.taken < n = subst (λ (e : ClientState). e.gathering.taken < n) (sym there.2) was.0.2 in
    let newest = takes.stands.newest in
    let below_taken = takes.below in
    let built = built_at history.built n in
    let since = accepted_since history.games history.accepted in
    let known : IfSome built.base (λ b. IsNear n b × Contains since b) =
    elim (cases_lt (n - 1) (length history.built)) [
      | inl within ↦
          let at : n - 1 + 1 ≡ n = omega (arith, newer) in
          let begun : n ≤ length history.built = omega (arith, newer, within) in
          let is_built : IsBuilt profile had.0.challenge n built = subst (λ (k : ℕ). IsBuilt profile had.0.challenge k built) at (had.1.keeps.of_slot.built (n - 1) no_message within) in
          if_some_then built.base (KnownBase n history.built since) (λ b. IsNear n b × Contains since b) (λ b one. (one.0, one.2))
          (mapped_base whole.ends.server.map had.0 client history n newer begun had.1.joined.mapped (waits_none profile had.0.challenge n built is_built)
          (known_base profile had.0 client history n (omega (arith, newer)) begun is_built had.1.keeps.of_slot had.1.joined.asked))
      | inr past ↦ let none : built ≡ no_message = get_or_past history.built (n - 1) no_message past in rw none tt
    ] in
    let outcome = usual_outcome below.rings profile.parse_ring since n built.base room takes.stands.accepted (omega (arith, newer, below_taken, newest)) known in
    let snap : applied.snap ≡ outcome_in profile.parse_ring since built.base built.message.section = ap (λ (a : Applied). a.snap) was.1 in
    elim (usual_in profile.parse_ring since built.base built.message.section outcome) [
      | inl none ↦ inl (snap ∙ none)
      | inr accepts ↦ inr (accepts.0, snap ∙ accepts.1)
    ]
