-- Snapshots whose numbers rise.
use Rattle.std.proofs.Common.{ℕ, eqb, leb, Bool, ◌+◌, ◌<◌, ◌≤◌, List, [], ◌∷◌, ◌++◌, length, Option, Some, None, arith}
use Rattle.std.specs.Prelude.{option_map, unwrap_or}
use Rattle.std.specs.List.{All, last_or}
use Rattle.std.proofs.lemmas.List.Elements.{All-nil, All-cons, All-weaker}
use Rattle.q3_entity.specs.Entities.{most_entities}
use Rattle.q3_entity_ring.specs.Snapshot.{Snapshot}
use Rattle.q3_entity_ring.specs.Places.{place_of}
use Rattle.q3_rings.specs.Accepted.{AcceptedFrom, AreAccepted, newest_of}

-- whether a snapshot has the place of a number, and whether it counts for the number's age
abbrev pub has_place : ℕ → Snapshot → Bool
has_place number snapshot = eqb (place_of snapshot.head.number) (place_of number)

abbrev pub counts : ℕ → Snapshot → Bool
counts number snapshot = leb number snapshot.head.number

abbrev pub size : Snapshot → ℕ
size snapshot = length snapshot.entities

abbrev pub IsBelow : ℕ → Snapshot → Type 0
IsBelow limit snapshot = snapshot.head.number < limit

abbrev number_of : Option Snapshot → ℕ
number_of o = unwrap_or (option_map (λ (snapshot : Snapshot). snapshot.head.number) o) 0

-- one more with a higher number
push_from : (least : ℕ) (o : Option Snapshot) (have : List Snapshot) (snapshot : Snapshot) → AcceptedFrom least have → least ≤ number_of o + 1
    → number_of (last_or o have) < snapshot.head.number → length snapshot.entities ≤ most_entities → AcceptedFrom least (have ++ snapshot ∷ [])
push_from least o [] snapshot are above newer few = (omega arith, few, tt)
push_from least o (x ∷ have) snapshot are above newer few =
    (are.0, are.1, push_from (x.head.number + 1) (Some x) have snapshot are.2 (omega arith) newer few)

pub push_rises : (have : List Snapshot) (snapshot : Snapshot) → AreAccepted have → newest_of have < snapshot.head.number → length snapshot.entities ≤ most_entities
    → AreAccepted (have ++ snapshot ∷ [])
push_rises have snapshot are newer few = push_from 1 None have snapshot are (omega arith) newer few

-- none is above the last
record EndsAt (o : Option Snapshot) (have : List Snapshot) : Type 0 where
  above : number_of o ≤ number_of (last_or o have)
  each : All (IsBelow (number_of (last_or o have) + 1)) have

ends : (least : ℕ) (o : Option Snapshot) (have : List Snapshot) → AcceptedFrom least have → number_of o < least → EndsAt o have
ends least o [] are below = record { above = omega arith; each = All-nil (IsBelow (number_of o + 1)) }
ends least o (x ∷ have) are below =
    let after = ends (x.head.number + 1) (Some x) have are.2 (omega arith) in
    let above = after.above in
    let first = are.0 in
    record {
      above = omega arith;
      each = All-cons (IsBelow (number_of (last_or (Some x) have) + 1)) x have (omega arith) after.each;
    }

-- all are below a number that is above the newest
pub all_below : (have : List Snapshot) (number : ℕ) → AreAccepted have → newest_of have < number → All (IsBelow number) have
all_below have number are newer =
    All-weaker (IsBelow (newest_of have + 1)) (IsBelow number) (λ one below. omega arith) have (ends 1 None have are (omega arith)).each
