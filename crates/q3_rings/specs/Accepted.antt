-- The same over the list of all snapshots that were accepted, of which nothing is lost: ages are sums over it.
use Rattle.std.specs.Prelude.{◌≡◌, ℕ, ◌+◌, ◌≤◌, ◌==◌, nat_le, if◌then◌else◌, List, [], ◌∷◌, length, filter, sum_by, Option, None, option_map, unwrap_or, Result, Err}
use Rattle.std.specs.List.{last_or}
use Rattle.q3_entity.specs.Entities.{most_entities}
use Rattle.q3_entity_ring.specs.Snapshot.{Snapshot}
use Rattle.q3_entity_ring.specs.Places.{place_of, at_number}
use Rattle.q3_rings.specs.declared.rings.NoBase.{NoBase}
use Rattle.q3_rings.specs.declared.rings.NoBase.TheVariants.{NeverHeld}
use Rattle.q3_rings.specs.Rings.{HeldSnapshot, HeldSnapshots, AreHeldSnapshots, snapshot_under, held_remains}

-- the numbers rise from least on, and each snapshot has at most 256 entities
abbrev pub AcceptedFrom : ℕ → List Snapshot → Type 0
AcceptedFrom least [] = Unit {0}
AcceptedFrom least (snapshot ∷ have) =
    (least ≤ snapshot.head.number) × (length snapshot.entities ≤ most_entities) × AcceptedFrom (snapshot.head.number + 1) have

-- snapshots as they are accepted, one after the other
abbrev pub AreAccepted : List Snapshot → Type 0
AreAccepted have = AcceptedFrom 1 have

-- the newest number, 0 for none
abbrev pub newest_of : List Snapshot → ℕ
newest_of have = unwrap_or (option_map (λ (snapshot : Snapshot). snapshot.head.number) (last_or None have)) 0

-- the last of them whose number is this one modulo 32
abbrev pub last_accepted : List Snapshot → ℕ → Option Snapshot
last_accepted have number = last_or None (filter (λ snapshot. place_of snapshot.head.number == place_of number) have)

-- the age of a number: the sum of the entities from it on
abbrev pub age_of : List Snapshot → ℕ → ℕ
age_of have number = sum_by (λ snapshot. length snapshot.entities) (filter (λ snapshot. nat_le number snapshot.head.number) have)

-- a snapshot at its age
abbrev pub aged : List Snapshot → Snapshot → HeldSnapshot
aged have snapshot = record { snapshot = snapshot; age = age_of have snapshot.head.number }

-- the snapshot of a number, or why it isn't held: none has this number modulo 32, the last that has is under another number,
-- or its age is above the ring's room less 256
abbrev pub held_among : ℕ → List Snapshot → ℕ → Result Snapshot NoBase
held_among ring have number =
    if number == 0 then Err NeverHeld else snapshot_under ring number (option_map (aged have) (last_accepted have number))

-- the snapshots that are held stand for all that were accepted: in each place is the last one with such a number, at its
-- age, as it is left
pub record SnapshotsStandFor (have : List Snapshot) (snapshots : HeldSnapshots) : Type 0 where
  pub accepted : AreAccepted have
  pub held : AreHeldSnapshots snapshots
  pub newest : snapshots.newest ≡ newest_of have
  pub places : (number : ℕ) → at_number snapshots.places number ≡ option_map (λ snapshot. held_remains snapshots.ring (aged have snapshot)) (last_accepted have number)
