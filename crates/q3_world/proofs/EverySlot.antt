-- Every slot changes at once: with a new map, or a config string.
use Rattle.std.proofs.Common.{◌≡◌, ℕ, zero, suc, ◌+◌, ◌<◌, Bool, cond, List, [], ◌∷◌, length, get_or, map, Option, Some, None, refl, sym, ap, subst, ◌∙◌}
use Rattle.std.specs.Prelude.{position, not}
use Rattle.std.specs.List.{position_or_len}
use Rattle.std.specs.Option.{option_map}
use Rattle.std.proofs.lemmas.List.{length-map}
use Rattle.q3_profile.specs.declared.profile.Profile.{Profile}
use Rattle.q3_map.specs.Map.{MapState}
use Rattle.q3_slot.specs.Slot.{SlotState, is_of}
use Rattle.q3_server.specs.Server.{places, slot_at}
use Rattle.q3_world.specs.declared.places.Place.{Place}
use Rattle.q3_world.specs.Ends.{place_at}
use Rattle.q3_world.specs.World.{History, Whole, no_history, history_at}
use Rattle.q3_server.specs.Standing.{IsMap}
use Rattle.q3_world.specs.StandsFor.{AreEnds, AreJoined, IsClient, IsJoined}
use Rattle.q3_world.proofs.Growth.{Grow, all_sent_grow}
use Rattle.q3_world.proofs.Bases.{KeepsFrames-alike}
use Rattle.q3_world.proofs.Found.{AllFound}
use Rattle.q3_world.proofs.Holding.{Holds, Has, has_slot}

-- ---- slots by place

abbrev no_slot : Option SlotState
no_slot = None

-- the slot at a place
pub slot_changed : (f : SlotState → SlotState) (slots : List (Option SlotState)) (c : ℕ) → get_or (map (option_map f) slots) c no_slot ≡ option_map f (get_or slots c no_slot)
slot_changed f [] c = refl
slot_changed f (slot ∷ slots) zero = refl
slot_changed f (slot ∷ slots) (suc c) = slot_changed f slots c

position_or_len_map : {X : Type 0} (test : X → Bool) (f : X → X) (xs : List X) → ((x : X) → test (f x) ≡ test x) → position_or_len test (map f xs) ≡ position_or_len test xs
position_or_len_map test f [] same = refl
position_or_len_map test f (x ∷ xs) same = rw (same x) (ap (λ (k : ℕ). cond (not (test x)) (1 + k) 0) (position_or_len_map test f xs same))

position_map : {X : Type 0} (test : X → Bool) (f : X → X) (xs : List X) → ((x : X) → test (f x) ≡ test x) → position test (map f xs) ≡ position test xs
position_map test f xs same = rw (position_or_len_map test f xs same, length-map xs f) refl

-- a change that leaves who the client is
pub record LeavesClient (f : SlotState → SlotState) : Type 0 where
  pub host : (slot : SlotState) → (f slot).address.host ≡ slot.address.host
  pub qport : (slot : SlotState) → (f slot).qport ≡ slot.qport

found_every : (f : SlotState → SlotState) (slots : List (Option SlotState)) → LeavesClient f → AllFound slots → AllFound (map (option_map f) slots)
found_every f slots leaves all k one at = of_slot (get_or slots k no_slot) refl
  where
    is_same_client : (host qport : ℕ) (s : Option SlotState) → is_of host qport (option_map f s) ≡ is_of host qport s
    is_same_client host qport None = refl
    is_same_client host qport (Some slot) = rw (leaves.host slot, leaves.qport slot) refl

    none_some : None ≡ Some one → ⊥
    none_some e = absurd cc

    one_slot : {some other : SlotState} → Some some ≡ Some other → some ≡ other
    one_slot same = cc

    of_slot : (s : Option SlotState) → get_or slots k no_slot ≡ s → position (is_of one.address.host one.qport) (map (option_map f) slots) ≡ Some k
    of_slot None none = absurd (none_some (sym (slot_changed f slots k ∙ ap (option_map f) none) ∙ at))
    of_slot (Some slot) is =
        let same : f slot ≡ one = one_slot (sym (slot_changed f slots k ∙ ap (option_map f) is) ∙ at) in
        subst (λ (s : SlotState). position (is_of s.address.host s.qport) (map (option_map f) slots) ≡ Some k) same
        (position_map (is_of (f slot).address.host (f slot).qport) (option_map f) slots (is_same_client (f slot).address.host (f slot).qport)
        ∙ (ap (λ (h : ℕ). position (is_of h (f slot).qport) slots) (leaves.host slot)
        ∙ (ap (λ (q : ℕ). position (is_of slot.address.host q) slots) (leaves.qport slot) ∙ all k slot is)))

-- ---- the whole world

-- the world in which the map, every slot and what is noted of each client are these
abbrev pub every_changed : Whole → MapState → (SlotState → SlotState) → List History → Whole
every_changed whole map_is f histories =
    record whole {
      ends = record whole.ends { server = record whole.ends.server { map = map_is; slots = map (option_map f) whole.ends.server.slots } };
      histories = histories;
    }

-- what holds of each client after it
pub record EveryChanges (profile : Profile) (whole : Whole) (map_is : MapState) (f : SlotState → SlotState) (histories : List History) : Type 0 where
  pub leaves : LeavesClient f
  pub is : IsMap profile map_is
  pub count : length histories ≡ places
  pub grows : Grow whole.histories histories
  pub built : (c : ℕ) → c < places → (history_at histories c).built ≡ (history_at whole.histories c).built
  pub nobody : (c : ℕ) → c < places → slot_at whole.ends.server c ≡ None → history_at whole.histories c ≡ no_history → history_at histories c ≡ no_history
  pub keeps : (c : ℕ) (slot : SlotState) (place : Place) → c < places → Has profile whole c slot place → AreEnds profile (f slot) place.client place.address (history_at histories c)
  pub joins : (c : ℕ) (slot : SlotState) (place : Place) → c < places → Has profile whole c slot place → AreJoined profile map_is (f slot) place.client (history_at histories c)

pub Holds-every : (profile : Profile) (whole : Whole) (map_is : MapState) (f : SlotState → SlotState) (histories : List History) → EveryChanges profile whole map_is f histories → Holds profile whole
    → Holds profile (every_changed whole map_is f histories)
Holds-every profile whole map_is f histories every holds =
    let facts = holds.facts in
    let server = whole.ends.server in
    record {
      facts = record {
        checked = facts.checked;
        by = facts.by;
        slots = length-map server.slots (option_map f) ∙ facts.slots;
        clients = facts.clients;
        histories = every.count;
        map = every.is;
        each = λ c lt. rw (slot_changed f server.slots c) (of_client c lt (slot_at server c) refl);
        found = found_every f server.slots every.leaves facts.found;
        sent = all_sent_grow profile whole.histories histories whole.sent every.grows facts.sent;
        frames = KeepsFrames-alike profile server.frames whole.histories histories every.built facts.frames;
      };
      joined = λ c lt. rw (slot_changed f server.slots c) (of_joined c lt (slot_at server c) refl);
      own = holds.own;
    }
  where
    of_client : (c : ℕ) → c < places → (s : Option SlotState) → slot_at whole.ends.server c ≡ s
        → IsClient profile (option_map f s) (place_at whole.ends c) (history_at histories c)
    of_client c lt None none = nobody_at (place_at whole.ends c)
        (subst (λ (s : Option SlotState). IsClient profile s (place_at whole.ends c) (history_at whole.histories c)) none (holds.facts.each c lt))
      where
        nobody_at : (e : Option Place) → IsClient profile None e (history_at whole.histories c) → IsClient profile None e (history_at histories c)
        nobody_at None is = every.nobody c lt none is
        nobody_at (Some place) is = absurd is
    of_client c lt (Some slot) at =
        let had = has_slot profile whole c slot lt at holds in
        rw had.1.place_is (every.keeps c slot had.0 lt had.1)

    of_joined : (c : ℕ) → c < places → (s : Option SlotState) → slot_at whole.ends.server c ≡ s → IsJoined profile map_is (option_map f s) (place_at whole.ends c) (history_at histories c)
    of_joined c lt None none = tt
    of_joined c lt (Some slot) at =
        let had = has_slot profile whole c slot lt at holds in
        rw had.1.place_is (every.joins c slot had.0 lt had.1)
