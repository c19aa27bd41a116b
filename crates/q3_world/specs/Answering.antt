-- What a client answers where it applies a message that was built for it.
use Rattle.std.specs.Prelude.{ℕ, if◌then◌else◌, Bool, true, false, List, Option, Some, None}
use Rattle.q3_entity_ring.specs.Snapshot.{Snapshot}
use Rattle.q3_rings.specs.declared.rings.NoBase.TheVariants.{EntitiesGone}
use Rattle.q3_rings.specs.Rings.{is_young}
use Rattle.q3_rings.specs.Accepted.{age_of}
use Rattle.q3_clstate.specs.declared.applied.Applied.{Applied as AppliedSo}
use Rattle.q3_clstate.specs.declared.applied.SnapOutcome.{SnapOutcome}
use Rattle.q3_clstate.specs.declared.applied.SnapOutcome.TheVariants.{NoSnap, Accepted, Skipped}
use Rattle.q3_svmsg.specs.Values as told
use Rattle.q3_svmsg.specs.Values.{Told}
use Rattle.q3_built.specs.Built.{Built}

-- what becomes of a message that was built, at a client that accepted these snapshots: it is accepted, unless too many entities
-- were placed since its base was begun
abbrev pub outcome_of : ℕ → List Snapshot → Option Snapshot → SnapOutcome
outcome_of ring accepted None = Accepted 0
outcome_of ring accepted (Some base) =
    if is_young ring (age_of accepted base.head.number) then Accepted base.head.number
    else Skipped base.head.number (EntitiesGone (age_of accepted base.head.number))

-- and of its section: a gamestate has no snapshot
abbrev pub outcome_in : ℕ → List Snapshot → Option Snapshot → Told → SnapOutcome
outcome_in ring accepted base (told.Snap number head entities) = outcome_of ring accepted base
outcome_in ring accepted base other = NoSnap

-- whether a section is a gamestate
abbrev pub is_game : Told → Bool
is_game (told.Game game) = true
is_game other = false

-- and what is answered of it, under its number
abbrev pub applied_of : ℕ → List Snapshot → ℕ → Built → AppliedSo
applied_of ring accepted n built =
    record { number = n; game = is_game built.message.section; snap = outcome_in ring accepted built.base built.message.section }
