-- What became of a message, and a snapshot, as reports print them.
use Rattle.std.specs.Prelude.{ℕ, Bool, true, false, List, [], ◌∷◌, codes, decimal}
use Rattle.std.specs.List.{concat, flat_map}
use Rattle.q3_io.specs.Print.{hex_word}
use Rattle.q3_text.specs.declared.text.Command.{Command}
use Rattle.q3_window.specs.Report.{commands_text}
use Rattle.q3_player.specs.declared.head.SnapHead.{SnapHead}
use Rattle.q3_player.specs.Report.{player_text}
use Rattle.q3_entity.specs.declared.state.EntityState.{EntityState}
use Rattle.q3_entity.specs.Report.{fields_text}
use Rattle.q3_entity_ring.specs.Snapshot.{Snapshot}
use Rattle.q3_rings.specs.declared.rings.NoBase.{NoBase}
use Rattle.q3_rings.specs.declared.rings.NoBase.TheVariants.{NeverHeld, Overwritten, EntitiesGone}
use Rattle.q3_clstate.specs.State.{AppliedState}
use Rattle.q3_clstate.specs.declared.applied.Applied.{Applied}
use Rattle.q3_clstate.specs.declared.applied.SnapOutcome.{SnapOutcome}
use Rattle.q3_clstate.specs.declared.applied.SnapOutcome.TheVariants.{NoSnap, Accepted, Skipped, Stale}

-- why a base isn't held
abbrev pub cause_text : NoBase → List ℕ
cause_text NeverHeld = codes "neverheld"
cause_text (Overwritten other) = concat (codes "overwritten " ∷ decimal other ∷ [])
cause_text (EntitiesGone age) = concat (codes "entitiesgone " ∷ decimal age ∷ [])

-- the line of a snapshot, where the message has one
abbrev pub outcome_text : ℕ → SnapOutcome → List ℕ
outcome_text number NoSnap = []
outcome_text number (Accepted base) = concat (codes "+ accepted " ∷ decimal number ∷ codes " base " ∷ decimal base ∷ codes "\n" ∷ [])
outcome_text number (Skipped base cause) =
    concat (codes "+ skipped " ∷ decimal number ∷ codes " base " ∷ decimal base ∷ codes " " ∷ cause_text cause ∷ codes "\n" ∷ [])
outcome_text number Stale = concat (codes "+ stale " ∷ decimal number ∷ codes "\n" ∷ [])

-- the line of a gamestate, where the message has one: what the state has of it
abbrev pub game_text : AppliedState → Bool → List ℕ
game_text state false = []
game_text state true =
    concat (codes "+ gamestate id " ∷ decimal state.id ∷ codes " slot " ∷ decimal state.slot ∷ codes " feed " ∷ decimal state.feed ∷ codes "\n" ∷ [])

-- the lines under an applied message, by the state after it: its commands that were executed, its gamestate, and what became of its
-- snapshot
abbrev pub applied_text : AppliedState → Applied → List Command → List ℕ
applied_text state applied commands =
    concat (commands_text commands ∷ game_text state applied.game ∷ outcome_text applied.number applied.snap ∷ [])

-- ---- a snapshot

-- what stands in front of the area
abbrev pub start_text : SnapHead → List ℕ
start_text head =
    concat (codes " snapshot " ∷ decimal head.number ∷ codes " time " ∷ decimal head.time ∷ codes " flags " ∷ decimal head.flags ∷ codes " area " ∷ [])

-- and what stands in front of the player's words, which are a line of their own
abbrev pub head_text : SnapHead → List ℕ
head_text head = concat (start_text head ∷ hex_word head.area.items ∷ codes "\n+ player" ∷ [])

-- the line of an entity
abbrev pub entity_text : EntityState → List ℕ
entity_text entity = concat (codes "+ entity " ∷ decimal entity.number ∷ fields_text entity.words ∷ codes "\n" ∷ [])

-- a snapshot, after the word for whose it is: its head, the player in a line of its own, and each entity in one
abbrev pub snapshot_text : Snapshot → List ℕ
snapshot_text snapshot =
    concat (head_text snapshot.head ∷ player_text snapshot.head.player ∷ codes "\n" ∷ flat_map entity_text snapshot.entities ∷ [])
