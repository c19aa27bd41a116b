-- The snapshots that are held, by rising number.
use Rattle.std.specs.Prelude.{◌≡◌, ◌⊎◌, ℕ, zero, suc, ◌==◌, if◌then◌else◌, false, List, [], ◌∷◌, ◌++◌, slice_index_or, Option, Some, None, IfSome, MatchOption}
use Rattle.q3_entity_ring.specs.Places.{at_number}
use Rattle.q3_rings.specs.Rings.{HeldSnapshot, HeldSnapshots, is_young}

-- the snapshot that is held under a number, also where its entities are gone
abbrev pub of_number : ℕ → Option HeldSnapshot → Option HeldSnapshot
of_number number None = None
of_number number (Some held) = if held.snapshot.head.number == number then Some held else None

abbrev pub held_under : HeldSnapshots → ℕ → Option HeldSnapshot
held_under snapshots number = of_number number (at_number snapshots.places number)

-- one or none, as a list
abbrev pub one_of : {X : Type 0} → Option X → List X
one_of None = []
one_of (Some x) = x ∷ []

-- those up to a number
unfoldable pub held_up_to : HeldSnapshots → ℕ → List HeldSnapshot
held_up_to snapshots zero = []
held_up_to snapshots (suc number) = held_up_to snapshots number ++ one_of (held_under snapshots (suc number))

-- all of them
abbrev pub by_number : HeldSnapshots → List HeldSnapshot
by_number snapshots = held_up_to snapshots snapshots.newest

-- the newest stands in its place, where one was accepted
abbrev pub HoldsNewest : HeldSnapshots → Type 0
HoldsNewest held =
    (held.newest ≡ 0) ⊎ MatchOption (at_number held.places held.newest) ⊥ (λ one. one.snapshot.head.number ≡ held.newest)

-- of a snapshot that is so old that others may have taken its entities' places none is left
abbrev pub GoneAreEmpty : HeldSnapshots → Type 0
GoneAreEmpty snapshots =
    (place : ℕ) → IfSome (slice_index_or snapshots.places place None) (λ held. is_young snapshots.ring held.age ≡ false → held.snapshot.entities ≡ [])
