-- Lists with a place for each client, of which one changes.
use Rattle.std.proofs.Common.{◌≡◌, ℕ, ◌<◌, List, length, get_or, set, Option, Some, None, refl, sym, subst, ap, ◌∙◌, inl, inr, arith}
use Rattle.std.proofs.lemmas.List.{get_or-set_same, get_or-set_other, length-set, set-get_or}
use Rattle.std.proofs.lemmas.Bool.{cases_eq}
use Rattle.q3_script.specs.declared.event.Event.TheVariants as events
use Rattle.q3_slot.specs.Slot.{SlotState}
use Rattle.q3_server.specs.Server.{places, slot_at}
use Rattle.q3_world.specs.declared.places.Place.{Place}
use Rattle.q3_world.specs.Ends.{Ends, place_at, client_step_of}
use Rattle.q3_world.specs.World.{History, no_history, history_at}

-- what stands at a place where it was put
pub set_there : {X : Type 0} (xs : List X) (c : ℕ) (d x : X) → length xs ≡ places → c < places → get_or (set xs c x) c d ≡ x
set_there xs c d x e lt = get_or-set_same xs c x d (omega arith)

-- the lists have the same places, and only one of them may differ
pub record OnlyAt {X : Type 0} (d : X) (c : ℕ) (old new : List X) : Type 0 where
  pub count : length new ≡ length old
  pub others : (k : ℕ) → (k ≡ c → ⊥) → get_or new k d ≡ get_or old k d

pub OnlyAt-set : {X : Type 0} (d : X) (c : ℕ) (xs : List X) (x : X) → OnlyAt d c xs (set xs c x)
OnlyAt-set d c xs x = record { count = length-set xs c x; others = λ k ne. get_or-set_other xs c k x d ne }

pub OnlyAt-same : {X : Type 0} (d : X) (c : ℕ) (xs : List X) → OnlyAt d c xs xs
OnlyAt-same d c xs = record { count = refl; others = λ k ne. refl }

-- what is said of each client, of its slot, its place and its history
abbrev pub OfClient : Type 1
OfClient = Option SlotState → Option Place → History → Type 0

abbrev pub Each : OfClient → Ends → List History → Type 0
Each Says ends histories = (c : ℕ) → c < places → Says (slot_at ends.server c) (place_at ends c) (history_at histories c)

-- only what stands for one client may differ
pub record DifferAt (c : ℕ) (old new : Ends) (before now : List History) : Type 0 where
  pub slots : OnlyAt None c old.server.slots new.server.slots
  pub clients : OnlyAt None c old.clients new.clients
  pub histories : OnlyAt no_history c before now

-- one client changes and the others stay
pub each_at : (Says : OfClient) (c : ℕ) (old new : Ends) (histories histories' : List History) → DifferAt c old new histories histories'
    → Says (slot_at new.server c) (place_at new c) (history_at histories' c)
    → Each Says old histories → Each Says new histories'
each_at Says c old new histories histories' differ here all k lt =
    elim (cases_eq k c) [
      | inl same ↦ subst (λ (j : ℕ). Says (slot_at new.server j) (place_at new j) (history_at histories' j)) (sym same) here
      | inr other ↦ rw (differ.slots.others k other, differ.clients.others k other, differ.histories.others k other) (all k lt)
    ]

-- a client that is shown stays as it is
pub show_stays : (ends : Ends) (c : ℕ) (found : Option Place) → place_at ends c ≡ found → (client_step_of ends c (events.Show c) found).ends ≡ ends
show_stays ends c None at = refl
show_stays ends c (Some place) at =
    ap (λ (clients : List (Option Place)). record ends { clients = clients }) (ap (λ (there : Option Place). set ends.clients c there) (sym at) ∙ set-get_or ends.clients c None)
