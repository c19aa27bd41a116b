-- What is held of snapshots stays well formed, and so does what a message is read against.
use Rattle.std.proofs.Common.{◌≡◌, ℕ, zero, suc, ◌+◌, ◌-◌, ◌<◌, ◌≤◌, List, [], ◌∷◌, length, map, get_or, Option, Some, None, Result, Ok, Err, refl, sym, subst, ◌∙◌, inr, arith}
use Rattle.std.specs.Prelude.{All, IfSome, MatchOption, option_map, replicate, ◌==◌}
use Rattle.std.specs.Result.{result_ok}
use Rattle.std.proofs.lemmas.Bool.{cond_both, both_ways, leb-false}
use Rattle.std.proofs.lemmas.List.{length-map, get_or-set_same}
use Rattle.std.proofs.lemmas.List.Elements.{All-nil, All-cons, All-head, All-tail, All-map, All-weaker, All-set}
use Rattle.q3_player.specs.State.{IsNormal}
use Rattle.q3_fields.specs.States.{AreWords}
use Rattle.q3_entity.specs.declared.state.EntityState.{EntityState}
use Rattle.q3_entity.specs.Entities.{most_entities, AreNormal}
use Rattle.q3_entity.specs.Entities as entities
use Rattle.q3_profile.specs.declared.profile.Profile.{Profile}
use Rattle.q3_svmsg.specs.Values.{Base, base_from}
use Rattle.q3_svmsg.specs.Laws.{IsHead, AreEntities, IsBase, IsContext}
use Rattle.q3_entity_ring.specs.Snapshot.{Snapshot, without_entities}
use Rattle.q3_entity_ring.specs.Places.{most_places, place_of, at_number, no_places}
use Rattle.q3_rings.specs.declared.rings.NoBase.{NoBase}
use Rattle.q3_rings.specs.declared.rings.NoBase.TheVariants.{NeverHeld, Overwritten, EntitiesGone}
use Rattle.q3_rings.specs.Rings.{HeldSnapshot, HeldSnapshots, AreHeldSnapshots, is_young, young, snapshot_under, held_snapshot, view_at, older, accept_at}
use Rattle.q3_rings.specs.ByNumber.{HoldsNewest}
use Rattle.q3_clstate.specs.State.{AppliedState, context_of}
use Rattle.q3_clstate.specs.Standing.{IsWellHeld, IsApplied}

-- ---- a snapshot that is held

some_at : (P : HeldSnapshot → Type 0) (places : List (Option HeldSnapshot)) (k : ℕ) → All (λ place. IfSome place P) places → IfSome (get_or places k None) P
some_at P [] k each = tt
some_at P (place ∷ places) zero each = All-head (λ (place : Option HeldSnapshot). IfSome place P) place places each
some_at P (place ∷ places) (suc k) each = some_at P places k (All-tail (λ (place : Option HeldSnapshot). IfSome place P) place places each)

-- as a base
abbrev Serves : Profile → Result Snapshot NoBase → Type 0
Serves profile found = IfSome (result_ok found) (λ snapshot. IsBase profile (base_from snapshot))

serves_under : (profile : Profile) (ring number : ℕ) (place : Option HeldSnapshot) → IfSome place (IsWellHeld profile ring) → Serves profile (snapshot_under ring number place)
serves_under profile ring number None is = tt
serves_under profile ring number (Some held) is =
    cond_both (held.snapshot.head.number == number) (young ring held) (Err (Overwritten held.snapshot.head.number)) (Serves profile)
    (λ e. cond_both (is_young ring held.age) (Ok held.snapshot) (Err (EntitiesGone held.age)) (Serves profile)
    (λ there. record { state = is.head.player; normal = is.player; entities = is.entities; normal_entities = is.normal }) (λ old. tt))
    (λ e. tt)

serves_number : (state : AppliedState) (number : ℕ) → IsApplied state → Serves state.profile (held_snapshot state.held number)
serves_number state number is =
    let place = at_number state.held.places number in
    cond_both (number == 0) (Err NeverHeld) (snapshot_under state.held.ring number place) (Serves state.profile)
    (λ e. tt) (λ e. serves_under state.profile state.held.ring number place (some_at (IsWellHeld state.profile state.held.ring) state.held.places (place_of number) is.snapshots))

based : (profile : Profile) (found : Option Snapshot) (base : Base) → IfSome found (λ snapshot. IsBase profile (base_from snapshot)) → option_map base_from found ≡ Some base → IsBase profile base
based profile None base is e = absurd cc
based profile (Some snapshot) base is e = subst (IsBase profile) (one e) is
  where
    one : {x y : Base} → Some x ≡ Some y → x ≡ y
    one e = cc

-- what a message is read against
pub context_is : (state : AppliedState) → IsApplied state → IsContext state.profile (context_of state.held state.baselines)
context_is state is = record {
  bases = λ number base e. based state.profile (view_at state.held number) base (serves_number state number is) e;
  baselines = is.baselines;
}

-- ---- a snapshot is accepted

-- what is held of one after which others were placed
older_is : (profile : Profile) (ring count : ℕ) (held : HeldSnapshot) → IsWellHeld profile ring held → IsWellHeld profile ring (older ring count held)
older_is profile ring count held is =
    let more : HeldSnapshot = record held { age = held.age + count } in
    cond_both (is_young ring more.age) more (record more { snapshot = without_entities more.snapshot }) (IsWellHeld profile ring)
    (λ there. record { head = is.head; player = is.player; entities = is.entities; normal = is.normal; gone = λ old. absurd (both_ways (is_young ring more.age) old there) })
    (λ old. record {
      head = is.head;
      player = is.player;
      entities = record { list = record { rise = tt; few = omega arith }; states = All-nil (λ (entity : EntityState). AreWords 64 entity.words) };
      normal = All-nil (entities.IsNormal profile.entity);
      gone = λ e. refl;
    })

place_older : (profile : Profile) (ring count : ℕ) (place : Option HeldSnapshot) → IfSome place (IsWellHeld profile ring) → IfSome (option_map (older ring count) place) (IsWellHeld profile ring)
place_older profile ring count None is = tt
place_older profile ring count (Some held) is = older_is profile ring count held is

-- one that was just read
pub record IsRead (profile : Profile) (snapshot : Snapshot) : Type 0 where
  pub head : IsHead snapshot.head
  pub player : IsNormal profile.player.kinds snapshot.head.player
  pub entities : AreEntities profile snapshot.entities
  pub normal : AreNormal profile.entity snapshot.entities

newest_is : (profile : Profile) (ring : ℕ) (snapshot : Snapshot) → 512 ≤ ring → IsRead profile snapshot → IsWellHeld profile ring (record { snapshot = snapshot; age = length snapshot.entities })
newest_is profile ring snapshot room is =
    let few = is.entities.list.few in
    record {
      head = is.head;
      player = is.player;
      entities = is.entities;
      normal = is.normal;
      gone = λ old. let late = leb-false (length snapshot.entities) (ring - most_entities) old in absurd (omega (arith, late, few, room));
    }

pub accepted_are : (profile : Profile) (held : HeldSnapshots) (snapshot : Snapshot) → AreHeldSnapshots held → IsRead profile snapshot
    → All (λ place. IfSome place (IsWellHeld profile held.ring)) held.places
    → All (λ place. IfSome place (IsWellHeld profile held.ring)) (accept_at held snapshot).places
accepted_are profile held snapshot are is each =
    let Held = λ (place : Option HeldSnapshot). IfSome place (IsWellHeld profile held.ring) in
    let grow = option_map (older held.ring (length snapshot.entities)) in
    All-set Held (map grow held.places) (place_of snapshot.head.number) (Some (record { snapshot = snapshot; age = length snapshot.entities }))
    (newest_is profile held.ring snapshot are.ring is)
    (All-map Held grow held.places (All-weaker Held (λ place. Held (grow place)) (λ place. place_older profile held.ring (length snapshot.entities) place) held.places each))

pub accepted_newest : (held : HeldSnapshots) (snapshot : Snapshot) → AreHeldSnapshots held → HoldsNewest (accept_at held snapshot)
accepted_newest held snapshot are =
    let one : HeldSnapshot = record { snapshot = snapshot; age = length snapshot.entities } in
    let older_ones = map (option_map (older held.ring (length snapshot.entities))) held.places in
    let place = place_of snapshot.head.number in
    let long : length older_ones ≡ most_places = length-map held.places (option_map (older held.ring (length snapshot.entities))) ∙ are.count in
    let here : place < length older_ones = omega (arith, long) in
    inr (subst (λ (found : Option HeldSnapshot). MatchOption found ⊥ (λ other. other.snapshot.head.number ≡ snapshot.head.number))
    (sym (get_or-set_same older_ones place (Some one) None here)) refl)

-- none is held
pub none_is : (profile : Profile) (ring : ℕ) → All (λ place. IfSome place (IsWellHeld profile ring)) (no_places {X = HeldSnapshot})
none_is profile ring = all_none most_places
  where
    all_none : (count : ℕ) → All (λ place. IfSome place (IsWellHeld profile ring)) (replicate {A = Option HeldSnapshot} count None)
    all_none zero = All-nil (λ (place : Option HeldSnapshot). IfSome place (IsWellHeld profile ring))
    all_none (suc count) = All-cons (λ (place : Option HeldSnapshot). IfSome place (IsWellHeld profile ring)) None (replicate count None) tt (all_none count)
