-- Laws of the snapshots that a client holds.
use Rattle.std.specs.Prelude.{◌≡◌, ◌⊎◌, ℕ, ◌+◌, ◌<◌, ◌≤◌, if◌then◌else◌, List, [], ◌∷◌, ◌++◌, length, Contains, Ok, Err}
use Rattle.q3_entity.specs.Entities.{most_entities}
use Rattle.q3_entity_ring.specs.Snapshot.{Snapshot}
use Rattle.q3_rings.specs.declared.rings.NoBase.TheVariants.{EntitiesGone}
use Rattle.q3_rings.specs.Rings.{HeldSnapshot, HeldSnapshots, AreHeldSnapshots, no_snapshots, is_young, held_snapshot, accept_at, CanPutBack, put_back_at}
use Rattle.q3_rings.specs.Accepted.{AreAccepted, newest_of, age_of, held_among, SnapshotsStandFor}

-- a snapshot that is accepted is held then
abbrev pub AcceptedIsHeld : Type 0
AcceptedIsHeld = (snapshots : HeldSnapshots) (snapshot : Snapshot) → AreHeldSnapshots snapshots → snapshots.newest < snapshot.head.number
    → length snapshot.entities ≤ most_entities → held_snapshot (accept_at snapshots snapshot) snapshot.head.number ≡ Ok snapshot

-- what is held after a snapshot that is accepted is that one, or was held before
abbrev pub HeldWasHeld : Type 0
HeldWasHeld = (snapshots : HeldSnapshots) (accepted : Snapshot) (number : ℕ) (held : Snapshot) → AreHeldSnapshots snapshots
    → held_snapshot (accept_at snapshots accepted) number ≡ Ok held
    → ((number ≡ accepted.head.number) × (held ≡ accepted))
    ⊎ ((number ≡ accepted.head.number → ⊥) × (held_snapshot snapshots number ≡ Ok held))

-- that snapshots are held as a client holds them: so it is where none was accepted, and stays where one is accepted that is newer than
-- all others, and where one is put back
pub record SnapshotsStay : Type 0 where
  pub none : (ring : ℕ) → 512 ≤ ring → AreHeldSnapshots (no_snapshots ring)
  pub accept : (snapshots : HeldSnapshots) (snapshot : Snapshot) → AreHeldSnapshots snapshots → snapshots.newest < snapshot.head.number
      → AreHeldSnapshots (accept_at snapshots snapshot)
  pub put_back : (snapshots : HeldSnapshots) (held : HeldSnapshot) → AreHeldSnapshots snapshots
      → CanPutBack snapshots held.snapshot.head.number held.age (length held.snapshot.entities) → AreHeldSnapshots (put_back_at snapshots held)

-- ---- over the list of all snapshots accepted

-- where none was accepted none is held
abbrev pub NothingStands : Type 0
NothingStands = (ring : ℕ) → 512 ≤ ring → SnapshotsStandFor [] (no_snapshots ring)

-- what is accepted is one more of all that were accepted
abbrev pub AcceptIsAdded : Type 0
AcceptIsAdded = (have : List Snapshot) (snapshots : HeldSnapshots) (snapshot : Snapshot) → SnapshotsStandFor have snapshots
    → snapshots.newest < snapshot.head.number → length snapshot.entities ≤ most_entities
    → SnapshotsStandFor (have ++ snapshot ∷ []) (accept_at snapshots snapshot)

-- what is held is told by the list
abbrev pub BaseIsOfList : Type 0
BaseIsOfList = (have : List Snapshot) (snapshots : HeldSnapshots) (number : ℕ) → SnapshotsStandFor have snapshots
    → held_snapshot snapshots number ≡ held_among snapshots.ring have number

-- what is held was accepted, under its number
abbrev pub HeldWasAccepted : Type 0
HeldWasAccepted = (ring : ℕ) (have : List Snapshot) (number : ℕ) (snapshot : Snapshot) → held_among ring have number ≡ Ok snapshot
    → Contains have snapshot × (snapshot.head.number ≡ number)

-- of a snapshot that was accepted and is less than 29 below a message, whose number is above all that were accepted, the age
-- alone decides
abbrev pub NearIsHeldByAge : Type 0
NearIsHeldByAge = (ring : ℕ) (have : List Snapshot) (number : ℕ) (snapshot : Snapshot) → AreAccepted have → Contains have snapshot
    → newest_of have < number → number < snapshot.head.number + 29
    → held_among ring have snapshot.head.number
    ≡ (if is_young ring (age_of have snapshot.head.number) then Ok snapshot else Err (EntitiesGone (age_of have snapshot.head.number)))

-- and in a ring with the usual room for 8,192 entities, or with more, it is held
abbrev pub UsualRingHolds : Type 0
UsualRingHolds = (ring : ℕ) (have : List Snapshot) (number : ℕ) (snapshot : Snapshot) → 8192 ≤ ring → AreAccepted have → Contains have snapshot
    → newest_of have < number → number < snapshot.head.number + 29 → held_among ring have snapshot.head.number ≡ Ok snapshot
